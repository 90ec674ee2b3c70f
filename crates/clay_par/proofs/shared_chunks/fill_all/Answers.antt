use Rattle.std.proofs.Common.{◌≡◌, ℕ, ◌*◌, ◌/◌, ◌%◌, ◌<◌, length, subst, sym, ap, ◌∙◌, arith}
use Rattle.std.proofs.Math.Nat.{mul-div_cancel, mul-mod_left}
use Rattle.std.specs.Fork.{slice_chunk}
use Rattle.clay_grid.specs.Shape.{chunk_count, chunk_length}
use Rattle.code_laws.proofs.Pieces.{place_below}
use Rattle.clay_par.specs.Solved.{IsFilled}
use Rattle.clay_par.proofs.SolvedLemmas.{all_filled, some_bytes}
use Rattle.clay_par.proofs.shared_chunks.fill_all.Goals as goal

pub par_chunks_mut_for_each-requires-clause-size : goal.par_chunks_mut_for_each-requires-clause-size
par_chunks_mut_for_each-requires-clause-size g c κs within =
    subst (λ n. 0 < n) (sym c.chunk_len-len.ensures.value) (some_bytes c.args.g c.chunk_len-len.ensures.geometry)

pub par_chunks_mut_for_each-requires-clause-accepts : goal.par_chunks_mut_for_each-requires-clause-accepts
par_chunks_mut_for_each-requires-clause-accepts g c κs within = λ start p is.
    let shape = c.args.g in
    let size = c.chunk_len-len.ensures.value in
    let even : length c.args.chunks.now % c.chunk_len-len.result ≡ 0 = (λ i. (c.requires.chunks_len ∙ ap (λ n. chunk_count shape * n) (sym size)) i % c.chunk_len-len.result) ∙ mul-mod_left (chunk_count shape) c.chunk_len-len.result in
    let some = is.nonempty in
    let bound = is.in_bounds in
    (c.requires.plan, c.requires.ranges, omega (arith, some, bound, c.requires.chunks_len), is.full_size even ∙ size)

pub returns : goal.returns
returns g c =
    let shape = c.args.g in
    let have = c.args.have.now in
    let len : ℕ = chunk_length shape in
    let old = c.args.chunks.now in
    let new = c.par_chunks_mut_for_each.new.s in
    let size = c.chunk_len-len.ensures.value in
    let some = some_bytes shape c.chunk_len-len.ensures.geometry in
    all_filled shape have old new (λ x hx.
    let k = c.par_chunks_mut_for_each.ensures.chunks x
    (subst (λ n. x * n < length old) (sym size) (let below = place_below x (chunk_count shape) len 0 hx some in omega (arith, below, c.requires.chunks_len))) in
    let number : ℕ = x * c.chunk_len-len.result / len in
    let here : IsFilled shape have number (slice_chunk old c.chunk_len-len.result x) (slice_chunk new c.chunk_len-len.result x) =
    subst (λ l. IsFilled shape have number l (slice_chunk new c.chunk_len-len.result x)) k.argument_is (subst (IsFilled shape have number k.argument.now) k.left k.call) in
    subst (λ n. IsFilled shape have n (slice_chunk old len x) (slice_chunk new len x)) (mul-div_cancel x some)
    (subst (λ s. IsFilled shape have (x * s / len) (slice_chunk old s x) (slice_chunk new s x)) size here))
