-- What a mend reads of a share: the ranges hold the header, the tables and the parts.
use Rattle.std.proofs.Common.{◌≡◌, ℕ, suc, ◌+◌, ◌-◌, ◌*◌, ◌<◌, ◌≤◌, Bool, true, false, nat_eq, List, [], ◌∷◌, ◌++◌, length, get_or, take, drop, map, refl, sym, ap, ◌∙◌, arith, append_assoc, length-append, length-drop}
use Rattle.std.specs.Prelude.{if◌then◌else◌}
use Rattle.std.specs.List.{flat_map, range_with_len}
use Rattle.std.proofs.Math.Seq.{take-add}
use Rattle.std.proofs.lemmas.Bool.{eqb-true}
use Rattle.std.proofs.lemmas.Nat.{mul-le}
use Rattle.std.proofs.lemmas.List.{drop-drop, drop-take, take-take, length-take-le}
use Rattle.std.proofs.lemmas.Grind.{flat_map-append}
use Rattle.clay_grid.specs.Shape.{layer_count, chunk_length}
use Rattle.clay_model.specs.RepairParts.{subchunks_at}
use Rattle.clay_aloof.specs.Shape.{AloofShape, all_chunks, grid_of}
use Rattle.clay_aloof.specs.Limits.{IsAloof}
use Rattle.clay_aloof.specs.Repair.{aloof_layers_of, part_bytes}
use Rattle.clay_aloof.proofs.Parts.{given_at}
use Rattle.clay_aloof.proofs.Put.{length-part}
use Rattle.share_format.specs.Cut.{stripe_count}
use Rattle.share_format.specs.Blocks.{page_of, rounded, aligned, table_of, block_of, block_length, chunk_start}
use Rattle.share_format.specs.Header.{header_bytes}
use Rattle.share_format.specs.Shares.{header_of, share_with, chunks_at, IsShare, block_start}
use Rattle.share_format.specs.Mend.{Range, range_of, before, joined, block_ranges, mend_ranges, bytes_in, mend_bytes}
use Rattle.share_format.proofs.Rows.{take_front, length_flat}
use Rattle.share_format.proofs.Lengths.{length_front}
use Rattle.share_format.proofs.Blocks.{AreChunks, length_padded, block_in_share, chunk_in_share, count_chunks, are_chunks}

-- ---- neighbours as one

two_pieces : (bytes : List ℕ) (start one two : ℕ) → take (one + two) (drop start bytes) ≡ take one (drop start bytes) ++ take two (drop (start + one) bytes)
two_pieces bytes start one two =
    take-add one two (drop start bytes) ∙ ap (λ l. take one (drop start bytes) ++ take two l) (drop-drop one start bytes)

touching : (touch : Bool) (bytes : List ℕ) (range next : Range) (rest : List Range) → (touch ≡ true → range.start + range.size ≡ next.start)
    → bytes_in (if touch then range_of range.start (range.size + next.size) ∷ rest else range ∷ next ∷ rest) bytes ≡ bytes_in (range ∷ next ∷ rest) bytes
touching true bytes range next rest ends =
    let piece : List ℕ = take range.size (drop range.start bytes) in
    ap (λ l. l ++ bytes_in rest bytes) (two_pieces bytes range.start range.size next.size ∙ ap (λ at. piece ++ take next.size (drop at bytes)) (ends refl))
    ∙ append_assoc piece (take next.size (drop next.start bytes)) (bytes_in rest bytes)
touching false bytes range next rest ends = refl

before_same : (bytes : List ℕ) (range : Range) (ranges : List Range) → bytes_in (before range ranges) bytes ≡ bytes_in (range ∷ ranges) bytes
before_same bytes range [] = refl
before_same bytes range (next ∷ rest) =
    touching (nat_eq (range.start + range.size) next.start) bytes range next rest (λ e. eqb-true (range.start + range.size) next.start e)

pub joined_same : (bytes : List ℕ) (ranges : List Range) → bytes_in (joined ranges) bytes ≡ bytes_in ranges bytes
joined_same bytes [] = refl
joined_same bytes (range ∷ ranges) =
    before_same bytes range (joined ranges) ∙ ap (λ l. take range.size (drop range.start bytes) ++ l) (joined_same bytes ranges)

-- ---- rows of ranges

bytes_in_rows : (bytes : List ℕ) (ranges : ℕ → List Range) (numbers : List ℕ)
    → bytes_in (flat_map ranges numbers) bytes ≡ flat_map (λ i. bytes_in (ranges i) bytes) numbers
bytes_in_rows bytes ranges [] = refl
bytes_in_rows bytes ranges (i ∷ numbers) =
    flat_map-append (λ (range : Range). take range.size (drop range.start bytes)) (ranges i) (flat_map ranges numbers)
    ∙ ap (λ l. bytes_in (ranges i) bytes ++ l) (bytes_in_rows bytes ranges numbers)

same_rows : {X : Type 0} → (f : ℕ → List ℕ) (g : X → List ℕ) (default : X) (start : ℕ) (xs : List X)
    → ((i : ℕ) → i < length xs → f (start + i) ≡ g (get_or xs i default)) → flat_map f (range_with_len start (length xs)) ≡ flat_map g xs
same_rows f g default start [] each = refl
same_rows f g default start (x ∷ xs) each =
    let none : start ≡ start + 0 = omega arith in
    let first : f start ≡ g x = ap f none ∙ each 0 (omega arith) in
    let rest : flat_map f (range_with_len (start + 1) (length xs)) ≡ flat_map g xs =
    same_rows f g default (start + 1) xs (λ i less.
    let moved : start + 1 + i ≡ start + suc i = omega arith in
    ap f moved ∙ each (suc i) (omega (arith, less))) in
    λ i. first i ++ rest i

-- ---- one block

within_chunk : (layer layers width : ℕ) → layer < layers → layer * width + width ≤ layers * width
within_chunk layer layers width less =
    let most : (layer + 1) * width ≤ layers * width = mul-le (layer + 1) width layers width (omega (arith, less)) (omega arith) in
    omega (arith, most)

module _ (a : AloofShape) (lost : ℕ) (file : List ℕ) (number : ℕ) (chunks : List (List ℕ)) (long : AreChunks a chunks) where
  piece_in_share : (i layer : ℕ) → i < length chunks → layer < layer_count (grid_of a)
      → take a.width (drop (block_start a i + chunk_start a + layer * a.width) (share_with a file number chunks))
      ≡ take a.width (drop (layer * a.width) (get_or chunks i []))
  piece_in_share i layer less low =
      let bytes : List ℕ = share_with a file number chunks in
      let here : List ℕ = drop (block_start a i) bytes in
      let place : ℕ = chunk_start a + layer * a.width in
      let left : ℕ = layer_count (grid_of a) * a.width - layer * a.width in
      let fits : layer * a.width + a.width ≤ layer_count (grid_of a) * a.width = within_chunk layer (layer_count (grid_of a)) a.width low in
      let whole : block_length a ≡ chunk_start a + layer * a.width + (layer_count (grid_of a) * a.width - layer * a.width) = omega (arith, fits) in
      let apart : block_start a i + chunk_start a + layer * a.width ≡ block_start a i + (chunk_start a + layer * a.width) = omega arith in
      ap (λ n. take a.width (drop n bytes)) apart
      ∙ ap (take a.width) (sym (drop-drop place (block_start a i) bytes))
      ∙ sym (take-take a.width left (drop place here) (omega (arith, fits)))
      ∙ ap (take a.width) (sym (drop-take place left here))
      ∙ ap (λ n. take a.width (drop place (take n here))) (sym whole)
      ∙ ap (take a.width) (sym (drop-drop (layer * a.width) (chunk_start a) (take (block_length a) here)))
      ∙ ap (λ l. take a.width (drop (layer * a.width) l)) (chunk_in_share a file number chunks long i less)

  parts_in_share : (i : ℕ) (layers : List ℕ) → i < length chunks → ((k : ℕ) → k < length layers → get_or layers k 0 < layer_count (grid_of a))
      → bytes_in (map (λ layer. range_of (block_start a i + chunk_start a + layer * a.width) a.width) layers) (share_with a file number chunks)
      ≡ subchunks_at a.width (get_or chunks i []) layers
  parts_in_share i [] less low = refl
  parts_in_share i (layer ∷ layers) less low =
      let first = piece_in_share i layer less (low 0 (omega arith)) in
      let rest = parts_in_share i layers less (λ k h. low (suc k) (omega (arith, h))) in
      λ j. first j ++ rest j

  table_in_share : (i : ℕ) → i < length chunks
      → take (chunk_start a) (drop (block_start a i) (share_with a file number chunks)) ≡ aligned a (table_of a (get_or chunks i []))
  table_in_share i less =
      let here : List ℕ = drop (block_start a i) (share_with a file number chunks) in
      let chunk : List ℕ = get_or chunks i [] in
      let within : chunk_start a ≤ chunk_start a + chunk_length (grid_of a) = omega arith in
      sym (take-take (chunk_start a) (block_length a) here within)
      ∙ ap (take (chunk_start a)) (block_in_share a file number chunks long i less)
      ∙ take_front (chunk_start a) (aligned a (table_of a chunk)) chunk (sym (length_front a chunk))

  blocks_in_share : (n : ℕ) → n ≡ length chunks
      → bytes_in (flat_map (block_ranges a lost) (range_with_len 0 n)) (share_with a file number chunks)
      ≡ flat_map (λ chunk. aligned a (table_of a chunk) ++ subchunks_at a.width chunk (aloof_layers_of a lost)) chunks
  blocks_in_share n is =
      let bytes : List ℕ = share_with a file number chunks in
      let layers : List ℕ = aloof_layers_of a lost in
      ap (λ k. bytes_in (flat_map (block_ranges a lost) (range_with_len 0 k)) bytes) is
      ∙ bytes_in_rows bytes (block_ranges a lost) (range_with_len 0 (length chunks))
      ∙ same_rows (λ i. bytes_in (block_ranges a lost i) bytes) (λ chunk. aligned a (table_of a chunk) ++ subchunks_at a.width chunk layers) [] 0 chunks
      (λ i less.
      let same : 0 + i ≡ i = omega arith in
      let table = table_in_share i less in
      let parts = parts_in_share i layers less (λ k h. (given_at a lost k h).0) in
      ap (λ k. bytes_in (block_ranges a lost k) bytes) same ∙ (λ j. table j ++ parts j))

pub read_by_mend : (a : AloofShape) (lost : ℕ) (file : List ℕ) (number : ℕ) (bytes : List ℕ) (is : IsShare a file number bytes)
    → bytes_in (mend_ranges a lost (length file)) bytes ≡ mend_bytes a lost file number (chunks_at number is.words)
read_by_mend a lost file number bytes is =
    let chunks : List (List ℕ) = chunks_at number is.words in
    let header : List ℕ = aligned a (header_bytes (header_of a file number)) in
    let ranges : List Range = flat_map (block_ranges a lost) (range_with_len 0 (stripe_count a (length file))) in
    let front : take (rounded (page_of a) 64) (share_with a file number chunks) ≡ header =
    take_front (rounded (page_of a) 64) header (flat_map (block_of a) chunks) (sym (length_padded a file number chunks)) in
    let blocks = blocks_in_share a lost file number chunks (are_chunks a file number is.words is.coded is.numbered) (stripe_count a (length file))
    (sym (count_chunks a file number is.words is.coded is.numbered)) in
    joined_same bytes (range_of 0 (rounded (page_of a) 64) ∷ ranges)
    ∙ ap (bytes_in (range_of 0 (rounded (page_of a) 64) ∷ ranges)) is.value
    ∙ (λ j. front j ++ blocks j)

-- ---- how many bytes that is

length_part_of : (a : AloofShape) (lost : ℕ) (chunk : List ℕ) → IsAloof a → lost < all_chunks a → length chunk ≡ chunk_length (grid_of a)
    → length (subchunks_at a.width chunk (aloof_layers_of a lost)) ≡ part_bytes a
length_part_of a lost chunk aloof within long =
    let layers : List ℕ = aloof_layers_of a lost in
    length_flat (λ layer. take a.width (drop (layer * a.width) chunk)) a.width 0 layers (λ k h.
    let layer : ℕ = get_or layers k 0 in
    let fits : get_or layers k 0 * a.width + a.width ≤ layer_count (grid_of a) * a.width =
    within_chunk (get_or layers k 0) (layer_count (grid_of a)) a.width (given_at a lost k h).0 in
    let left : length (drop (layer * a.width) chunk) ≡ length chunk - layer * a.width = length-drop (layer * a.width) chunk in
    length-take-le a.width (drop (layer * a.width) chunk) (omega (arith, fits, left, long)))
    ∙ length-part a lost aloof within

pub length_read : (a : AloofShape) (lost : ℕ) (file : List ℕ) (number : ℕ) (bytes : List ℕ) → IsAloof a → lost < all_chunks a → IsShare a file number bytes
    → length (bytes_in (mend_ranges a lost (length file)) bytes) ≡ rounded (page_of a) 64 + stripe_count a (length file) * (chunk_start a + part_bytes a)
length_read a lost file number bytes aloof within is =
    let chunks : List (List ℕ) = chunks_at number is.words in
    let part : List ℕ → List ℕ = λ chunk. aligned a (table_of a chunk) ++ subchunks_at a.width chunk (aloof_layers_of a lost) in
    let header : List ℕ = aligned a (header_bytes (header_of a file number)) in
    let long : AreChunks a chunks = are_chunks a file number is.words is.coded is.numbered in
    let count : length chunks ≡ stripe_count a (length file) = count_chunks a file number is.words is.coded is.numbered in
    let each : (i : ℕ) → i < length chunks → length (part (get_or chunks i [])) ≡ chunk_start a + part_bytes a =
    λ i less.
    length-append (aligned a (table_of a (get_or chunks i []))) (subchunks_at a.width (get_or chunks i []) (aloof_layers_of a lost))
    ∙ (λ j. length_front a (get_or chunks i []) j + length_part_of a lost (get_or chunks i []) aloof within (long i less) j) in
    let blocks : length (flat_map part chunks) ≡ length chunks * (chunk_start a + part_bytes a) =
    length_flat part (chunk_start a + part_bytes a) [] chunks each in
    ap length (read_by_mend a lost file number bytes is)
    ∙ length-append header (flat_map part chunks)
    ∙ (λ j. length_padded a file number chunks j + (blocks ∙ ap (λ n. n * (chunk_start a + part_bytes a)) count) j)
