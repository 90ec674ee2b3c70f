-- What a mend reads of a share that was cut: a good piece, with the part of its chunk.
use Rattle.std.proofs.Common.{◌≡◌, ℕ, suc, ◌+◌, ◌-◌, ◌*◌, ◌<◌, ◌≤◌, List, [], ◌∷◌, ◌++◌, length, get_or, take, drop, map, refl, sym, subst, ◌∙◌, ap, arith, length-append}
use Rattle.std.proofs.lemmas.Nat.{mul-le}
use Rattle.std.proofs.lemmas.List.{drop-drop, drop-take, take-take, length-take-le, length-drop}
use Rattle.clay_grid.specs.Shape.{layer_count, chunk_length}
use Rattle.clay_model.specs.RepairParts.{subchunks_at}
use Rattle.clay_aloof.specs.Shape.{AloofShape, all_chunks, grid_of}
use Rattle.clay_aloof.specs.Limits.{IsAloof}
use Rattle.clay_aloof.specs.Repair.{aloof_layers_of, part_bytes}
use Rattle.clay_aloof.proofs.Parts.{given_at}
use Rattle.clay_aloof.proofs.Put.{length-part}
use Rattle.share_format.specs.Blocks.{aligned, table_of, block_of, block_length, chunk_start}
use Rattle.share_format.specs.Mend.{range_of, bytes_in}
use Rattle.share_format.specs.Shares.{IsShare, block_start}
use Rattle.share_format.proofs.Lengths.{length_front}
use Rattle.share_format.proofs.Rows.{take_front, drop_front, length_flat}
use Rattle.share_format.specs.Parts.{IsIntactPart}
use Rattle.share_format.proofs.Intact.{part_intact}
use Rattle.share_files.proofs.ShareLemmas.{block_is}
use Rattle.share_mends.specs.Parts.{piece_in, IsGoodPiece}

within_chunk : (layer layers width : ℕ) → layer < layers → layer * width + width ≤ layers * width
within_chunk layer layers width less =
    let most : (layer + 1) * width ≤ layers * width = mul-le (layer + 1) width layers width (omega (arith, less)) (omega arith) in
    omega (arith, most)

length_part_of : (a : AloofShape) (lost : ℕ) (chunk : List ℕ) → IsAloof a → lost < all_chunks a → length chunk ≡ chunk_length (grid_of a) →
    length (subchunks_at a.width chunk (aloof_layers_of a lost)) ≡ part_bytes a
length_part_of a lost chunk aloof within long =
    let layers : List ℕ = aloof_layers_of a lost in
    length_flat (λ layer. take a.width (drop (layer * a.width) chunk)) a.width 0 layers (λ k h.
    let layer : ℕ = get_or layers k 0 in
    let fits : layer * a.width + a.width ≤ layer_count (grid_of a) * a.width = within_chunk layer (layer_count (grid_of a)) a.width (given_at a lost k h).0 in
    let left : length (drop (layer * a.width) chunk) ≡ length chunk - layer * a.width = length-drop (layer * a.width) chunk in
    length-take-le a.width (drop (layer * a.width) chunk) (omega (arith, fits, left, long)))
    ∙ length-part a lost aloof within

module _ (a : AloofShape) (file bytes : List ℕ) (number lost : ℕ) (is : IsShare a file number bytes) (i : ℕ) (less : i < length is.words) where
  abbrev chunk : List ℕ
  chunk = get_or (get_or is.words i []) number []

  abbrev front : List ℕ
  front = aligned a (table_of a chunk)

  -- bytes inside of its block
  inside : (place size : ℕ) → place + size ≤ block_length a → take size (drop (block_start a i + place) bytes) ≡ take size (drop place (block_of a chunk))
  inside place size fits =
      let here : List ℕ = drop (block_start a i) bytes in
      let left : ℕ = block_length a - place in
      let whole : place + (block_length a - place) ≡ block_length a = omega (arith, fits) in
      ap (take size) (sym (drop-drop place (block_start a i) bytes))
      ∙ sym (take-take size left (drop place here) (omega (arith, fits)))
      ∙ ap (take size) (sym (drop-take place left here))
      ∙ ap (λ n. take size (drop place (take n here))) whole
      ∙ ap (λ l. take size (drop place l)) (block_is a file bytes number is i less)

  table : take (chunk_start a) (drop (block_start a i) bytes) ≡ front
  table =
      let none : block_start a i ≡ block_start a i + 0 = omega arith in
      let fits : 0 + chunk_start a ≤ chunk_start a + chunk_length (grid_of a) = omega arith in
      ap (λ n. take (chunk_start a) (drop n bytes)) none ∙ inside 0 (chunk_start a) fits
      ∙ take_front (chunk_start a) front chunk (sym (length_front a chunk))

  subchunk_is : (layer : ℕ) → layer < layer_count (grid_of a) →
      take a.width (drop (block_start a i + chunk_start a + layer * a.width) bytes) ≡ take a.width (drop (layer * a.width) chunk)
  subchunk_is layer low =
      let apart : block_start a i + chunk_start a + layer * a.width ≡ block_start a i + (chunk_start a + layer * a.width) = omega arith in
      let within : layer * a.width + a.width ≤ layer_count (grid_of a) * a.width = within_chunk layer (layer_count (grid_of a)) a.width low in
      let fits : chunk_start a + layer * a.width + a.width ≤ chunk_start a + layer_count (grid_of a) * a.width = omega (arith, within) in
      let long : length front ≡ chunk_start a = length_front a chunk in
      ap (λ n. take a.width (drop n bytes)) apart ∙ inside (chunk_start a + layer * a.width) a.width fits
      ∙ ap (take a.width) (drop_front (chunk_start a + layer * a.width) (layer * a.width) front chunk (omega (arith, long)))

  subchunks_are : (layers : List ℕ) → ((k : ℕ) → k < length layers → get_or layers k 0 < layer_count (grid_of a)) →
      bytes_in (map (λ layer. range_of (block_start a i + chunk_start a + layer * a.width) a.width) layers) bytes ≡ subchunks_at a.width chunk layers
  subchunks_are [] low = refl
  subchunks_are (layer ∷ layers) low =
      let first = subchunk_is layer (low 0 (omega arith)) in
      let rest = subchunks_are layers (λ k h. low (suc k) (omega (arith, h))) in
      λ j. first j ++ rest j

  abbrev part : List ℕ
  part = subchunks_at a.width chunk (aloof_layers_of a lost)

  piece_is : piece_in a lost i bytes ≡ front ++ part
  piece_is =
      let rest = subchunks_are (aloof_layers_of a lost) (λ k h. (given_at a lost k h).0) in
      λ j. table j ++ rest j

  front_is : take (chunk_start a) (piece_in a lost i bytes) ≡ front
  front_is = ap (take (chunk_start a)) piece_is ∙ take_front (chunk_start a) front part (sym (length_front a chunk))

  pub part_is : drop (chunk_start a) (piece_in a lost i bytes) ≡ subchunks_at a.width (get_or (get_or is.words i []) number []) (aloof_layers_of a lost)
  part_is =
      let long : length front ≡ chunk_start a = length_front a chunk in
      ap (drop (chunk_start a)) piece_is ∙ drop_front (chunk_start a) 0 front part (omega (arith, long))

  pub piece_good : IsAloof a → lost < all_chunks a → IsGoodPiece a lost (piece_in a lost i bytes)
  piece_good aloof within =
      let long : length chunk ≡ chunk_length (grid_of a) = (is.coded.codes i less).codeword.lengths number is.numbered in
      let P : List ℕ → Type 0 = λ l. IsIntactPart a (aloof_layers_of a lost) l part in
      let Q : List ℕ → Type 0 = λ l. IsIntactPart a (aloof_layers_of a lost) (take (chunk_start a) (piece_in a lost i bytes)) l in
      record {
        size = ap (λ l. length l) piece_is ∙ length-append front part ∙ (λ j. length_front a chunk j + length_part_of a lost chunk aloof within long j);
        intact = subst Q (sym part_is) (subst P (sym front_is) (part_intact a lost chunk long));
      }
