use Rattle.std.proofs.Common.{◌≡◌, ℕ, ◌+◌, ◌*◌, List, [], length, slice_range, sym, ◌∙◌, arith}
use Rattle.std.proofs.lemmas.List.{ext_get_or}
use Rattle.std.proofs.lemmas.List.FromFn.{get_or-map-range_with_len, length-map-range_with_len}
use Rattle.rayon.proofs.ListFacts.{IfOk-then}
use Rattle.clay_grid.specs.Shape.{chunk_length}
use Rattle.clay_model.specs.Chunks.{contents}
use Rattle.clay_parity.specs.Parity.{data_pieces}
use Rattle.clay_parity.proofs.ChunkLists.{length-contents}
use Rattle.clay_par.proofs.Makes.{made_each, made_count}
use Rattle.clay_par.proofs.parity.data_chunks.Goals as goal

pub returns : goal.returns
returns g c = IfOk-then c.all_made.result _ _ c.all_made.ensures (λ chunks are.
    let shape = c.args.g in
    let results = c.in_ok-pieces.pieces.items in
    let piece : ℕ → List ℕ = λ k. slice_range c.args.stripe.now (k * chunk_length shape) ((k + 1) * chunk_length shape) in
    let counted : length chunks.items ≡ shape.data_count = made_count results chunks.items are ∙ c.in_ok-pieces.ensures.count in
    let count : length (contents chunks.items) ≡ shape.data_count = length-contents chunks.items ∙ counted in
    ext_get_or [] (contents chunks.items) (data_pieces shape c.args.stripe.now) (count ∙ sym (length-map-range_with_len piece 0 shape.data_count)) (λ i h.
    made_each (λ k l. l ≡ piece k) results chunks.items are (λ k d hk. c.in_ok-pieces.ensures.each k d (omega (arith, hk, counted))) i (omega (arith, h, count, counted))
    ∙ sym (get_or-map-range_with_len piece 0 shape.data_count i i [] (omega (arith, h, count)) (omega arith))))
