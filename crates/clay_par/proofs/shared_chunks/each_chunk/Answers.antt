use Rattle.std.proofs.Common.{◌≡◌, ℕ, ◌-◌, ◌<◌, length, get_or, IfOk, Vec, Global, sym, subst, ap, ◌∙◌, arith}
use Rattle.std.specs.List.{range_with_len}
use Rattle.std.specs.declared.result.Result.{Result}
use Rattle.std.specs.declared.alloc.AllocError.{AllocError}
use Rattle.std.proofs.Crossing.{crosses, frees}
use denote.Param.Send.{sendable}
use Rattle.rayon.specs.Numbers.{nat_range}
use Rattle.rayon.proofs.ListFacts.{IfOk-then}
use Rattle.rayon.proofs.ToStd.{nat_range-All}
use Rattle.clay_grid.specs.Shape.{chunk_count}
use Rattle.clay_lanes.specs.Recovered.{IsLanePlan}
use Rattle.clay_par.specs.Solved.{AreSolved, IsChunk}
use Rattle.clay_par.proofs.Makes.{given_at, given_count}
use Rattle.clay_par.proofs.shared_chunks.each_chunk.Goals as goal

pub collect-requires : goal.collect-requires
collect-requires g c κs =
    let shape = c.args.g in
    let ends = c.into_par_iter.ensures in
    let inside = nat_range-All (λ i. IsLanePlan shape c.args.have.now c.args.plan.now × AreSolved shape c.args.have.now c.args.plan.now c.args.ranges.now × (i < chunk_count shape)) 0 c.n.result (λ i low high. (c.requires.plan, c.requires.ranges, subst (λ m. i < m) c.n.ensures.value high)) in
    (search (sendable, crosses) depth 40 fits 100000, (search (sendable, crosses) depth 40 fits 100000, (search (sendable, crosses) depth 40 fits 100000, (search (sendable, crosses) depth 40 fits 100000, (search (sendable, crosses) depth 40 fits 100000, (frees, rw (c.map.ensures.base, c.map.ensures.f, c.with_min_len.ensures.base, ends.0, ends.1) (λ k d lt. (inside k d lt, λ y p. tt))))))))

pub returns-clause-count : goal.returns-clause-count
returns-clause-count g c =
    let shape = c.args.g in
    let ends = c.into_par_iter.ensures in
    let n : ℕ = c.n.result in
    let whole : n - 0 ≡ n = omega arith in
    let R : ℕ → Result (Vec ℕ Global) AllocError → Type 0 = λ i r. IfOk r (λ v. IsChunk shape c.args.have.now i v.items) in
    IfOk-then c.collect.result _ _ c.collect.ensures (λ v h.
    let chain = rw (c.map.ensures.base, c.map.ensures.f, c.with_min_len.ensures.base) at h.1 in
    let places : chain.0 ≡ range_with_len 0 n = chain.1 ∙ (λ i. nat_range (ends.0 i) (ends.1 i)) ∙ ap (range_with_len 0) whole in
    ap length h.2 ∙ given_count R n chain.0 h.0 places chain.2 ∙ c.n.ensures.value)

pub returns-clause-each : goal.returns-clause-each
returns-clause-each g c =
    let shape = c.args.g in
    let ends = c.into_par_iter.ensures in
    let n : ℕ = c.n.result in
    let whole : n - 0 ≡ n = omega arith in
    let R : ℕ → Result (Vec ℕ Global) AllocError → Type 0 = λ i r. IfOk r (λ v. IsChunk shape c.args.have.now i v.items) in
    IfOk-then c.collect.result _ _ c.collect.ensures (λ v h i d below.
    let chain = rw (c.map.ensures.base, c.map.ensures.f, c.with_min_len.ensures.base) at h.1 in
    let places : chain.0 ≡ range_with_len 0 n = chain.1 ∙ (λ i. nat_range (ends.0 i) (ends.1 i)) ∙ ap (range_with_len 0) whole in
    subst (λ l. R i (get_or l i d)) (sym h.2) (given_at R n chain.0 h.0 i d places chain.2 (subst (λ m. i < m) (sym c.n.ensures.value) below)))
