use Rattle.std.proofs.Common.{◌≡◌, ◌≤◌, ℕ, ◌+◌, ◌-◌, ◌*◌, length, drop, slice_range, ap, arith, ◌∙◌}
use Rattle.std.proofs.lemmas.List.{length-take-le, length-drop}
use Rattle.std.proofs.lemmas.Nat.{mul-le}
use Rattle.clay_grid.specs.Shape.{chunk_length}
use Rattle.clay_aloof.specs.Shape.{all_chunks, grid_of}
use Rattle.share_format.proofs.join_block.chunk_copy.Goals as goal

pub returns-clause-chunk : goal.returns-clause-chunk
returns-clause-chunk c =
    c.in_ok-chunk.ensures.items
    ∙ (λ i. slice_range c.args.chunks.now (c.args.c * c.chunk_len-len.ensures.value i) (c.args.c * c.chunk_len-len.ensures.value i + c.chunk_len-len.ensures.value i))

pub returns-clause-len : goal.returns-clause-len
returns-clause-len c =
    let n : ℕ = chunk_length (grid_of c.args.g) in
    let at : ℕ = c.args.c * n in
    let fits : (c.args.c + 1) * n ≤ all_chunks c.args.g * n = mul-le (c.args.c + 1) n (all_chunks c.args.g) n (omega (arith, c.requires.chunk)) (omega arith) in
    let next : (c.args.c + 1) * n ≡ at + n = omega arith in
    let one : at + n - at ≡ n = omega arith in
    let rest : length (drop at c.args.chunks.now) ≡ length c.args.chunks.now - at = length-drop at c.args.chunks.now in
    ap length (returns-clause-chunk c)
    ∙ length-take-le (at + n - at) (drop at c.args.chunks.now) (omega (arith, one, rest, fits, next, c.requires.chunks))
    ∙ one
