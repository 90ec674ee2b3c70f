-- The checksum of a chunk from the table in front of it.
use Rattle.std.proofs.Common.{◌≡◌, ℕ, ◌+◌, ◌-◌, ◌*◌, ◌<◌, ◌≤◌, List, [], ◌++◌, length, take, drop, sym, ap, ◌∙◌, arith, append_assoc}
use Rattle.std.proofs.lemmas.List.{length-drop, length-take-le, take_all, take-append-le, drop-append-le}
use Rattle.std.proofs.Math.Seq.{take-add}
use Rattle.byteorder.specs.Endian.{little_bytes, little_number}
use Rattle.byteorder.specs.Numbers.{little_number-reads_back}
use Rattle.crc64.specs.Remainder.{checksum_of}
use Rattle.crc64.proofs.Degrees.{checksum_below}
use Rattle.clay_grid.specs.Shape.{layer_count, chunk_length}
use Rattle.clay_aloof.specs.Shape.{AloofShape, grid_of}
use Rattle.share_format.specs.Blocks.{aligned, subchunk, table_of, chunk_start, IsBlock}
use Rattle.share_format.proofs.HeaderBytes.{AreBytes, first_number, take_small, drop_small}
use Rattle.share_format.proofs.Lengths.{length_front}
use Rattle.share_format.proofs.Laid.{within_chunk, table_fits}
use Rattle.share_format.proofs.Found.{own_checksum}
use Rattle.share_format.proofs.Intact.{entry_in_front}

module _ (a : AloofShape) (block : List ℕ) (small : AreBytes block) (is : IsBlock a block) where
  pub chunk_long : length (drop (chunk_start a) block) ≡ chunk_length (grid_of a)
  chunk_long = length-drop (chunk_start a) block ∙ omega (arith, is.size)

  sub_long : (layer : ℕ) → layer < layer_count (grid_of a) → length (subchunk a (drop (chunk_start a) block) layer) ≡ a.width
  sub_long layer less =
      let chunk : List ℕ = drop (chunk_start a) block in
      let long : length chunk ≡ layer_count (grid_of a) * a.width = chunk_long in
      let fits : layer * a.width + a.width ≤ layer_count (grid_of a) * a.width = within_chunk layer (layer_count (grid_of a)) a.width less in
      let left : length (drop (layer * a.width) chunk) ≡ length chunk - layer * a.width = length-drop (layer * a.width) chunk in
      length-take-le a.width (drop (layer * a.width) chunk) (omega (arith, fits, left, long))

  entry_in_block : (layer : ℕ) → layer < layer_count (grid_of a)
      → take 8 (drop (8 * layer) block) ≡ little_bytes 8 (checksum_of (subchunk a (drop (chunk_start a) block) layer))
  entry_in_block layer less =
      let chunk : List ℕ = drop (chunk_start a) block in
      let front : List ℕ = aligned a (table_of a chunk) in
      let long : length front ≡ chunk_start a = length_front a chunk in
      let room : 8 * layer_count (grid_of a) ≤ chunk_start a = table_fits a in
      let left : length (drop (8 * layer) front) ≡ length front - 8 * layer = length-drop (8 * layer) front in
      ap (λ l. take 8 (drop (8 * layer) l)) is.value
      ∙ ap (take 8) (drop-append-le (8 * layer) front chunk (omega (arith, long, room, less)))
      ∙ take-append-le 8 (drop (8 * layer) front) chunk (omega (arith, left, long, room, less))
      ∙ entry_in_front a chunk layer less ∙ own_checksum a chunk layer less

  entry_read : (layer read : ℕ) → layer < layer_count (grid_of a) → read ≡ little_number 8 (drop (8 * layer) block)
      → read ≡ checksum_of (subchunk a (drop (chunk_start a) block) layer)
  entry_read layer read less found =
      let chunk : List ℕ = drop (chunk_start a) block in
      let room : 8 * layer_count (grid_of a) ≤ chunk_start a = table_fits a in
      let size : length block ≡ chunk_start a + chunk_length (grid_of a) = is.size in
      let left : length (drop (8 * layer) block) ≡ length block - 8 * layer = length-drop (8 * layer) block in
      let bytes : AreBytes (subchunk a chunk layer) = take_small a.width (drop (layer * a.width) chunk) (drop_small (layer * a.width) chunk (drop_small (chunk_start a) block small)) in
      found ∙ first_number 8 (drop (8 * layer) block) (omega (arith, left, size, room, less))
      ∙ ap (little_number 8) (entry_in_block layer less)
      ∙ little_number-reads_back 8 (checksum_of (subchunk a chunk layer)) [] (checksum_below (subchunk a chunk layer) bytes)

  -- a layer more
  pub chunk_more : (before : List ℕ) (layer sum read more : ℕ) → layer < layer_count (grid_of a) → read ≡ little_number 8 (drop (8 * layer) block)
      → sum ≡ checksum_of (before ++ take (layer * a.width) (drop (chunk_start a) block))
      → ((xs ys : List ℕ) → length ys ≡ a.width → sum ≡ checksum_of xs → read ≡ checksum_of ys → more ≡ checksum_of (xs ++ ys))
      → more ≡ checksum_of (before ++ take ((layer + 1) * a.width) (drop (chunk_start a) block))
  chunk_more before layer sum read more less found begun combines =
      let chunk : List ℕ = drop (chunk_start a) block in
      let next : layer * a.width + a.width ≡ (layer + 1) * a.width = omega arith in
      combines (before ++ take (layer * a.width) chunk) (subchunk a chunk layer) (sub_long layer less) begun (entry_read layer read less found)
      ∙ ap (λ l. checksum_of l)
      (append_assoc before (take (layer * a.width) chunk) (subchunk a chunk layer)
      ∙ ap (λ l. before ++ l) (sym (take-add (layer * a.width) a.width chunk) ∙ ap (λ n. take n chunk) next))

  pub chunk_all : (n : ℕ) → n ≡ layer_count (grid_of a) → take (n * a.width) (drop (chunk_start a) block) ≡ drop (chunk_start a) block
  chunk_all n all =
      let chunk : List ℕ = drop (chunk_start a) block in
      let long : length chunk ≡ layer_count (grid_of a) * a.width = chunk_long in
      ap (λ k. take (k * a.width) chunk) all ∙ take_all (layer_count (grid_of a) * a.width) chunk (omega (arith, long))
