-- A chunk laid out in its block.
use Rattle.std.proofs.Common.{◌≡◌, ℕ, ◌+◌, ◌-◌, ◌*◌, ◌<◌, ◌≤◌, ◌↔◌, List, [], ◌∷◌, ◌++◌, length, take, drop, replicate, sym, ap, ◌∙◌, arith, append-nil, length-append}
use Rattle.std.proofs.lemmas.List.{take_all, length-drop, take-append-drop}
use Rattle.std.proofs.lemmas.Nat.{mul-le}
use Rattle.std.proofs.lemmas.Grind.{flat_map-append}
use Rattle.std.specs.List.{flat_map, range_with_len}
use Rattle.clay_grid.proofs.Rising.{range_with_len_more}
use Rattle.clay_grid.specs.Shape.{layer_count, chunk_length}
use Rattle.clay_aloof.specs.Shape.{AloofShape, grid_of}
use Rattle.byteorder.specs.Endian.{little_bytes}
use Rattle.crc64.specs.Remainder.{checksum_of}
use Rattle.share_format.specs.Blocks.{page_of, rounded, aligned, subchunk, table_of, chunk_start, block_length, IsBlock}
use Rattle.share_format.proofs.Lengths.{length_table, length_front}
use Rattle.share_format.proofs.Rows.{take_front}

-- ---- the table

-- the entries of the first n layers
abbrev pub entry_of : AloofShape → List ℕ → ℕ → List ℕ
entry_of a chunk layer = little_bytes 8 (checksum_of (subchunk a chunk layer))

abbrev pub entries_below : AloofShape → List ℕ → ℕ → List ℕ
entries_below a chunk n = flat_map (entry_of a chunk) (range_with_len 0 n)

pub one_more : (a : AloofShape) (chunk : List ℕ) (n : ℕ) → entries_below a chunk n ++ entry_of a chunk n ≡ entries_below a chunk (n + 1)
one_more a chunk n =
    let last : 0 + n ≡ n = omega arith in
    ap (λ l. entries_below a chunk n ++ l) (sym (append-nil (entry_of a chunk n)) ∙ ap (λ k. entry_of a chunk k ++ []) (sym last))
    ∙ sym (flat_map-append (entry_of a chunk) (range_with_len 0 n) ((0 + n) ∷ []))
    ∙ ap (flat_map (entry_of a chunk)) (sym (range_with_len_more 0 n))

pub within_chunk : (layer layers width : ℕ) → layer < layers → layer * width + width ≤ layers * width
within_chunk layer layers width less =
    let most : (layer + 1) * width ≤ layers * width = mul-le (layer + 1) width layers width (omega (arith, less)) (omega arith) in
    omega (arith, most)

-- ---- the front

-- the table fits in front of the chunk
pub table_fits : (a : AloofShape) → 8 * layer_count (grid_of a) ≤ chunk_start a
table_fits a =
    let size : ℕ = rounded (page_of a) (length (table_of a [])) in
    let table : length (table_of a []) ≡ 8 * layer_count (grid_of a) = length_table a [] in
    let zeros : List ℕ = replicate (size - length (table_of a [])) 0 in
    let both : length (table_of a []) + length zeros ≡ chunk_start a = sym (length-append (table_of a []) zeros) ∙ length_front a [] in
    omega (arith, table, both)

-- a table with room behind it, filled up with zeros
pub filled_up : (a : AloofShape) (chunk table : List ℕ) → table ≡ table_of a chunk
    → take (chunk_start a) table ++ replicate (chunk_start a - length table) 0 ≡ aligned a (table_of a chunk)
filled_up a chunk table is =
    let long : length table ≡ 8 * layer_count (grid_of a) = ap length is ∙ length_table a chunk in
    let room : 8 * layer_count (grid_of a) ≤ chunk_start a = table_fits a in
    let fits : length table ≤ chunk_start a = omega (arith, long, room) in
    ap (λ l. l ++ replicate (chunk_start a - length table) 0) (take_all (chunk_start a) table fits)
    ∙ (λ i. is i ++ replicate (chunk_start a - long i) 0)
    ∙ ap (λ n. table_of a chunk ++ replicate (rounded (page_of a) n - n) 0) (sym (length_table a chunk))

-- ---- the block

pub rest_of : (start : ℕ) (block : List ℕ) → take (length block - start) (drop start block) ≡ drop start block
rest_of start block = take_all (length block - start) (drop start block) (omega (arith, length-drop start block))

pub behind_long : (a : AloofShape) (block : List ℕ) (start : ℕ) → start ≡ chunk_start a → length block ≡ block_length a
    → length (take (length block - start) (drop start block)) ≡ chunk_length (grid_of a)
behind_long a block start is long =
    let size : length block ≡ chunk_start a + chunk_length (grid_of a) = long in
    ap length (rest_of start block) ∙ length-drop start block ∙ omega (arith, size, is)

-- bytes that begin with the front of the chunk behind it are a block, and a block begins so
pub block_is : (a : AloofShape) (block : List ℕ) (start : ℕ) → start ≡ chunk_start a → length block ≡ block_length a
    → (take start block ≡ aligned a (table_of a (take (length block - start) (drop start block)))) ↔ IsBlock a block
block_is a block start is long = (
  (λ same. record {
    size = long;
    value =
        let chunk : List ℕ = drop (chunk_start a) block in
        let front : take (chunk_start a) block ≡ aligned a (table_of a chunk) =
        ap (λ n. take n block) (sym is) ∙ same ∙ ap (λ l. aligned a (table_of a l)) (rest_of start block ∙ ap (λ n. drop n block) is) in
        sym (take-append-drop (chunk_start a) block) ∙ ap (λ l. l ++ chunk) front;
  }),
  (λ block_of_it.
      let chunk : List ℕ = drop (chunk_start a) block in
      ap (λ n. take n block) is
      ∙ ap (take (chunk_start a)) block_of_it.value
      ∙ take_front (chunk_start a) (aligned a (table_of a chunk)) chunk (sym (length_front a chunk))
      ∙ ap (λ l. aligned a (table_of a l)) (sym (rest_of start block ∙ ap (λ n. drop n block) is))),
)
