-- How long the parts of a share file are.
use Rattle.std.proofs.Common.{◌≡◌, ℕ, ◌+◌, ◌-◌, ◌*◌, ◌/◌, ◌%◌, ◌<◌, ◌≤◌, Bool, true, false, nat_eq, List, ◌++◌, length, get_or, drop, replicate, ap, ◌∙◌, arith, length-append}
use Rattle.std.specs.Prelude.{if◌then◌else◌}
use Rattle.std.proofs.lemmas.List.{length-replicate}
use Rattle.std.proofs.lemmas.Nat.{mod_below, div-add-mod'}
use Rattle.std.specs.List.{range_with_len}
use Rattle.std.proofs.lemmas.List.FromFn.{length-range_with_len}
use Rattle.byteorder.specs.Endian.{little_bytes}
use Rattle.byteorder.specs.Numbers.{length-bytes_low_first}
use Rattle.crc64.specs.Remainder.{checksum_of}
use Rattle.clay_grid.specs.Shape.{layer_count, chunk_length}
use Rattle.clay_grid.specs.Repair.{all_layers}
use Rattle.clay_aloof.specs.Shape.{AloofShape, grid_of}
use Rattle.share_format.specs.Cut.{stripe_count}
use Rattle.share_format.specs.Blocks.{page_of, rounded, aligned, subchunk, table_of, block_of, chunk_start, block_length}
use Rattle.share_format.specs.Header.{magic, version, Header, told_bytes, header_bytes}
use Rattle.share_format.proofs.Rows.{drop_front, length_flat}

-- ---- whole units

page_some : (a : AloofShape) → 1 ≤ page_of a
page_some a = either (nat_eq (a.width % 4096) 0)
  where
    either : (whole : Bool) → 1 ≤ (if whole then 4096 else 1)
    either true = omega arith
    either false = omega arith

rounded_least : (unit size : ℕ) → 1 ≤ unit → size ≤ rounded unit size
rounded_least unit size some =
    let n : ℕ = size + unit - 1 in
    let whole : n / unit * unit + n % unit ≡ n = div-add-mod' n unit in
    let rest : n % unit < unit = mod_below n unit some in
    omega (arith, whole, rest, some)

abbrev zeros : ℕ → List ℕ
zeros n = replicate n 0

pub length_aligned : (a : AloofShape) (bytes : List ℕ) → length (aligned a bytes) ≡ rounded (page_of a) (length bytes)
length_aligned a bytes =
    let size : ℕ = rounded (page_of a) (length bytes) in
    let filled : length (zeros (size - length bytes)) ≡ size - length bytes = length-replicate (size - length bytes) 0 in
    let least : length bytes ≤ size = rounded_least (page_of a) (length bytes) (page_some a) in
    length-append bytes (zeros (size - length bytes)) ∙ omega (arith, filled, least)

-- ---- the header

length_number : (n x : ℕ) → length (little_bytes n x) ≡ n
length_number n x = length-bytes_low_first 0 n x

record HasLength (size : ℕ) (bytes : List ℕ) : Type 0 where
  is : length bytes ≡ size

number_before : {size : ℕ} → {rest : List ℕ} → (n x : ℕ) → HasLength size rest → HasLength (n + size) (little_bytes n x ++ rest)
number_before {size} {rest} n x long = record {
  is = length-append (little_bytes n x) rest ∙ (λ i. length_number n x i + long.is i);
}

number_last : (n x : ℕ) → HasLength n (little_bytes n x)
number_last n x = record { is = length_number n x }

told_long : (h : Header) → HasLength 56 (told_bytes h)
told_long h =
    number_before 8 magic (number_before 4 version (number_before 4 h.shape.data_count (number_before 4 h.shape.parity_count
    (number_before 4 h.shape.helper_count (number_before 4 h.shape.width (number_before 4 h.share (number_before 8 h.size
    (number_before 8 (stripe_count h.shape h.size) (number_last 8 h.checksum)))))))))

pub length_header : (h : Header) → length (header_bytes h) ≡ 64
length_header h =
    length-append (told_bytes h) (little_bytes 8 (checksum_of (told_bytes h)))
    ∙ (λ i. (told_long h).is i + length_number 8 (checksum_of (told_bytes h)) i)

-- ---- a block

pub length_table : (a : AloofShape) (chunk : List ℕ) → length (table_of a chunk) ≡ 8 * layer_count (grid_of a)
length_table a chunk =
    let n : ℕ = layer_count (grid_of a) in
    let entry : ℕ → List ℕ = λ layer. little_bytes 8 (checksum_of (subchunk a chunk layer)) in
    let layers : length (range_with_len 0 n) ≡ n = length-range_with_len 0 n in
    length_flat entry 8 0 (all_layers (grid_of a)) (λ i less. length_number 8 (checksum_of (subchunk a chunk (get_or (all_layers (grid_of a)) i 0))))
    ∙ ap (λ k. k * 8) layers ∙ omega arith

pub length_front : (a : AloofShape) (chunk : List ℕ) → length (aligned a (table_of a chunk)) ≡ chunk_start a
length_front a chunk = length_aligned a (table_of a chunk) ∙ ap (rounded (page_of a)) (length_table a chunk)

pub length_block : (a : AloofShape) (chunk : List ℕ) → length chunk ≡ chunk_length (grid_of a) → length (block_of a chunk) ≡ block_length a
length_block a chunk long =
    length-append (aligned a (table_of a chunk)) chunk ∙ (λ i. length_front a chunk i + long i)

-- the chunk in its block
pub chunk_in_block : (a : AloofShape) (chunk : List ℕ) → drop (chunk_start a) (block_of a chunk) ≡ chunk
chunk_in_block a chunk =
    let front : length (aligned a (table_of a chunk)) ≡ chunk_start a = length_front a chunk in
    drop_front (chunk_start a) 0 (aligned a (table_of a chunk)) chunk (omega (arith, front))
