-- Subchunks are parts of a chunk.
use Rattle.std.proofs.Common.{◌≡◌, ℕ, zero, suc, ◌+◌, ◌*◌, ◌<◌, ◌≤◌, List, [], ◌∷◌, ◌++◌, length, take, drop, get_or, All, le_refl, subst, sym, ap, ◌∙◌, arith, length-append, length-take, length-drop}
use Rattle.std.proofs.Math.Nat.{zero-mul, suc-mul, add-zero, zero-add}
use Rattle.std.proofs.Math.Numerals.{suc-eq-add-one}
use Rattle.std.proofs.lemmas.List.{drop_all, drop-drop, take-append-drop}
use Rattle.std.proofs.lemmas.Nat.{row_fits}
use Rattle.std.proofs.lemmas.List.Elements.{All-head, All-tail}
use Rattle.std.specs.List.{range_with_len}
use Rattle.clay_grid.specs.Shape.{layer_count, chunk_length}
use Rattle.version_seal.specs.Sealed.{ChunkOf, IsSealed}
use Rattle.version_seal.specs.Chunk.{subchunks_at, ArePartsOfTheChunk}

-- a part that lies within a list has its length
length-part : (start count : ℕ) (bytes : List ℕ) → start + count ≤ length bytes → length (take count (drop start bytes)) ≡ count
length-part start count bytes h = omega (arith, length-take count (drop start bytes), length-drop start bytes)

module _ (width : ℕ) (bytes : List ℕ) where
  -- so each subchunk has its width
  pub length-subchunks_at : (layers : List ℕ) → All (λ layer. layer * width + width ≤ length bytes) layers → length (subchunks_at width bytes layers) ≡ length layers * width
  length-subchunks_at [] h = sym (zero-mul width)
  length-subchunks_at (layer ∷ layers) h =
      let P : ℕ → Type 0 = λ layer. layer * width + width ≤ length bytes in
      let first : length (take width (drop (layer * width) bytes)) ≡ width = length-part (layer * width) width bytes (All-head P layer layers h) in
      let rest : length (subchunks_at width bytes layers) ≡ length layers * width = length-subchunks_at layers (All-tail P layer layers h) in
      omega (arith, first, rest, suc-mul (length layers) width, length-append (take width (drop (layer * width) bytes)) (subchunks_at width bytes layers))

  -- the subchunks from a layer on, if they end with the chunk
  whole_from : (first count : ℕ) → (first + count) * width ≡ length bytes → subchunks_at width bytes (range_with_len first count) ≡ drop (first * width) bytes
  whole_from first zero h = sym (drop_all (first * width) bytes (omega (arith, h, ap (λ n. n * width) (add-zero first))))
  whole_from first (suc count) h =
      let next : (first + 1) * width ≡ first * width + width = ap (λ n. n * width) (sym (suc-eq-add-one first)) ∙ suc-mul first width in
      let counted : first + 1 + count ≡ first + suc count = omega arith in
      let rest : drop ((first + 1) * width) bytes ≡ drop width (drop (first * width) bytes) =
      ap (λ n. drop n bytes) next ∙ sym (drop-drop width (first * width) bytes)
      in
      ap (λ later. take width (drop (first * width) bytes) ++ later) (whole_from (first + 1) count (ap (λ n. n * width) counted ∙ h) ∙ rest)
      ∙ take-append-drop width (drop (first * width) bytes)

pub are_parts : (width count : ℕ) (bytes : List ℕ) → ArePartsOfTheChunk width count bytes
are_parts width count bytes =
    record {
      lengths = length-subchunks_at width bytes;
      whole = λ h. whole_from width bytes 0 count (ap (λ n. n * width) (zero-add count) ∙ sym h) ∙ ap (λ n. drop n bytes) (zero-mul width);
    }

module _ (chunk : ChunkOf) (sealed : IsSealed chunk) where
  -- a sealed chunk has the code's length
  chunk-long : length chunk.bytes ≡ chunk_length chunk.geometry
  chunk-long = sym (ap length sealed.word.here) ∙ sealed.word.codes.codeword.lengths chunk.server sealed.below

  -- it has all its layers
  pub layers-fit : (layers : List ℕ) → All (λ layer. layer < layer_count chunk.geometry) layers
      → All (λ layer. layer * chunk.geometry.width + chunk.geometry.width ≤ length chunk.bytes) layers
  layers-fit layers h = λ k d within.
      let layer : ℕ = get_or layers k d in
      subst (λ n. layer * chunk.geometry.width + chunk.geometry.width ≤ n) (sym chunk-long)
      (row_fits layer chunk.geometry.width (layer_count chunk.geometry) chunk.geometry.width (h k d within) (le_refl chunk.geometry.width))

  -- its subchunks have their width each
  pub part-long : (layers : List ℕ) → All (λ layer. layer < layer_count chunk.geometry) layers
      → length (subchunks_at chunk.geometry.width chunk.bytes layers) ≡ length layers * chunk.geometry.width
  part-long layers h = length-subchunks_at chunk.geometry.width chunk.bytes layers (layers-fit layers h)
