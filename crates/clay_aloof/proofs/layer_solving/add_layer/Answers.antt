use Rattle.std.proofs.Common.{◌≡◌, ℕ, ◌+◌, ◌-◌, ◌*◌, ◌≤◌, List, ◌++◌, length, replicate, take, drop, sym, subst, ap, ◌∙◌, arith}
use Rattle.std.proofs.lemmas.List.{take_all, length-append}
use Rattle.std.proofs.Math.Seq.{take-append_seam}
use Rattle.code_laws.proofs.Pieces.{written_whole}
use Rattle.clay_aloof.specs.Solved.{HoldsLower}
use Rattle.clay_aloof.specs.Known.{node_bytes}
use Rattle.clay_aloof.proofs.layer_solving.add_layer.Goals as goal

-- the front of a list that has grown
front_is : (old new front : List ℕ) (start part k : ℕ) → start ≡ length old → new ≡ take (start + part) old ++ replicate k 0 → front ≡ take start new → front ≡ old
front_is old new front start part k start_is new_is is =
    is
    ∙ (λ i. take (start_is i) (new_is i))
    ∙ ap (λ l. take (length old) (l ++ replicate k 0)) (take_all (start + part) old (omega (arith, start_is)))
    ∙ take-append_seam old (replicate k 0)

pub solve_layer-requires-clause-lower : goal.solve_layer-requires-clause-lower
solve_layer-requires-clause-lower c =
    let g = c.args.g in
    let old : List ℕ = c.args.solved.now.items in
    let lower : c.split_at_mut-lower.result.0.now ≡ old =
    front_is old c.deref_mut.result.now c.split_at_mut-lower.result.0.now c.len-start.result (c.len.result * c.w.result) _ (c.len-start.ensures ∙ c.args.solved.now.ok.0)
    (c.deref_mut.ensures.value ∙ c.in_ok-resize.ensures.items) c.split_at_mut-lower.ensures.front in
    subst (HoldsLower g c.args.plan.now (node_bytes g c.args.known.now) c.args.z) (sym lower) c.requires.lower

pub returns : goal.returns
returns c =
    let g = c.args.g in
    let old : List ℕ = c.args.solved.now.items in
    let front : List ℕ = c.split_at_mut-lower.result.0.now in
    let back : List ℕ = c.split_at_mut-lower.result.1.now in
    let rows : List ℕ = c.solve_layer.new.rows in
    let whole : List ℕ = c.resize.new.self.items in
    let count : c.len.result ≡ length c.args.plan.now.points.items = c.len.ensures ∙ c.args.plan.now.points.ok.0 in
    let part : c.len.result * c.w.result ≡ length c.args.plan.now.points.items * g.width = λ i. count i * c.w.ensures.value i in
    let start : c.len-start.result ≡ length old = c.len-start.ensures ∙ c.args.solved.now.ok.0 in
    let lower : front ≡ old =
    front_is old c.deref_mut.result.now front c.len-start.result (c.len.result * c.w.result) _ start (c.deref_mut.ensures.value ∙ c.in_ok-resize.ensures.items) c.split_at_mut-lower.ensures.front in
    let halves : length c.deref_mut.result.now ≡ length front + length back = ap length c.split_at_mut-lower.ensures.value ∙ length-append front back in
    let all : length whole ≡ length front + length back = ap length (sym c.deref_mut.ensures.value) ∙ halves in
    let grown : c.resize.new.self.len ≡ c.len-start.result + c.len.result * c.w.result = c.in_ok-resize.ensures.len in
    let size : c.resize.new.self.len ≡ length whole = c.resize.new.self.ok.0 in
    let back_long : length back ≡ c.len.result * c.w.result = omega (arith, all, grown, size, ap length lower, start) in
    let same : length rows ≡ length back = c.solve_layer.auto.rows in
    let long : length (front ++ rows) ≡ length whole = omega (arith, length-append front rows, same, all) in
    record {
      rows = rows;
      long = same ∙ back_long ∙ part;
      holds = c.solve_layer.ensures;
      after_is = written_whole c.resize.new.self.len whole (front ++ rows) size long ∙ ap (λ l. l ++ rows) lower;
    }
