use Rattle.std.proofs.Common.{◌≡◌, ℕ, ◌*◌, ◌/◌, ◌%◌, ◌<◌, length, subst, sym, ap, ◌∙◌, arith}
use Rattle.std.proofs.Math.Nat.{mul-div_cancel, mul-mod_left}
use Rattle.std.specs.Fork.{slice_chunk}
use Rattle.clay_grid.specs.Shape.{chunk_length}
use Rattle.code_laws.proofs.Pieces.{place_below}
use Rattle.clay_par.specs.Groups.{HoldsRow}
use Rattle.clay_par.proofs.GroupLemmas.{rows_behind}
use Rattle.clay_par.proofs.SolvedLemmas.{some_bytes}
use Rattle.clay_par.proofs.parity.write_rows.Goals as goal

pub par_chunks_mut_for_each-requires-clause-size : goal.par_chunks_mut_for_each-requires-clause-size
par_chunks_mut_for_each-requires-clause-size g c κs within =
    subst (λ n. 0 < n) (sym c.chunk_len-len.ensures.value) (some_bytes c.args.g c.chunk_len-len.ensures.geometry)

pub par_chunks_mut_for_each-requires-clause-accepts : goal.par_chunks_mut_for_each-requires-clause-accepts
par_chunks_mut_for_each-requires-clause-accepts g c κs within = λ start p is.
    let shape = c.args.g in
    let size = c.chunk_len-len.ensures.value in
    let even : length c.args.chunks.now % c.chunk_len-len.result ≡ 0 = (λ i. (c.requires.chunks ∙ ap (λ n. shape.parity_count * n) (sym size)) i % c.chunk_len-len.result) ∙ mul-mod_left shape.parity_count c.chunk_len-len.result in
    let some = is.nonempty in
    let bound = is.in_bounds in
    (c.requires.groups, omega (arith, some, bound, c.requires.chunks), is.full_size even ∙ size)

pub returns : goal.returns
returns g c =
    let shape = c.args.g in
    let len : ℕ = chunk_length shape in
    let new = c.par_chunks_mut_for_each.new.s in
    let size = c.chunk_len-len.ensures.value in
    let some = some_bytes shape c.chunk_len-len.ensures.geometry in
    rows_behind shape c.chunk_len-len.ensures.geometry c.args.groups.now new (λ x hx.
    let k = c.par_chunks_mut_for_each.ensures.chunks x
    (subst (λ n. x * n < length c.args.chunks.now) (sym size) (let below = place_below x shape.parity_count len 0 hx some in omega (arith, below, c.requires.chunks))) in
    let here : HoldsRow shape c.args.groups.now (x * c.chunk_len-len.result / len) (slice_chunk new c.chunk_len-len.result x) = subst (HoldsRow shape c.args.groups.now (x * c.chunk_len-len.result / len)) k.left k.call in
    subst (λ n. HoldsRow shape c.args.groups.now n (slice_chunk new len x)) (mul-div_cancel x some)
    (subst (λ s. HoldsRow shape c.args.groups.now (x * s / len) (slice_chunk new s x)) size here))
