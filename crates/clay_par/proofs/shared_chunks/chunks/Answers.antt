use Rattle.std.proofs.Common.{◌≡◌, ℕ, ◌<◌, List, [], length, get_or, sym, ap, ◌∙◌, arith}
use Rattle.std.proofs.lemmas.List.{ext_get_or, get_or_default}
use Rattle.rayon.proofs.ListFacts.{IfOk-then}
use Rattle.clay_grid.specs.Shape.{chunk_count}
use Rattle.clay_model.specs.Chunks.{contents}
use Rattle.clay_parity.proofs.ChunkLists.{length-contents}
use Rattle.clay_par.specs.Solved.{IsChunk}
use Rattle.clay_par.proofs.Makes.{made_each, made_count}
use Rattle.clay_par.proofs.shared_chunks.chunks.Goals as goal

pub returns : goal.returns
returns g c = IfOk-then c.all_made.result _ _ c.all_made.ensures (λ chunks are.
    let shape = c.args.g in
    let have = c.args.have.now in
    let results = c.in_ok-made.made.items in
    let made : List (List ℕ) = contents chunks.items in
    let counted : length chunks.items ≡ chunk_count shape = made_count results chunks.items are ∙ c.in_ok-made.ensures.count in
    let count : length made ≡ chunk_count shape = length-contents chunks.items ∙ counted in
    let each : (i : ℕ) → i < length made → IsChunk shape have i (get_or made i []) = λ i h.
    made_each (λ k l. IsChunk shape have k l) results chunks.items are (λ k d hk. c.in_ok-made.ensures.each k d (omega (arith, hk, counted))) i (omega (arith, h, count, counted)) in
    record {
      count = count;
      lengths = λ i d h. ap length (get_or_default made i d [] h) ∙ (each i h).long;
      value = λ word fits. ext_get_or [] made word (count ∙ sym fits.codeword.count) (λ i h. (each i h).value word fits);
    })
