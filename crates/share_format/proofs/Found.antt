-- What a checksum finds.
use Rattle.std.proofs.Common.{◌≡◌, ℕ, ◌+◌, ◌*◌, ◌^◌, ◌<◌, ◌≤◌, List, [], length, get_or, take, drop, sym, ap, ◌∙◌, arith}
use Rattle.std.specs.Prelude.{bit_xor}
use Rattle.std.proofs.lemmas.List.FromFn.{length-range_with_len, get_or-range_with_len}
use Rattle.std.specs.List.{range_with_len}
use Rattle.byteorder.specs.Endian.{little_bytes, little_number}
use Rattle.byteorder.specs.Numbers.{length-bytes_low_first, little_number-reads_back}
use Rattle.crc64.specs.Remainder.{polynomial, checksum_of}
use Rattle.crc64.proofs.Degrees.{checksum_below}
use Rattle.crc64.proofs.Bursts.{burst_found}
use Rattle.clay_grid.specs.Shape.{layer_count}
use Rattle.clay_grid.specs.Repair.{all_layers}
use Rattle.clay_aloof.specs.Shape.{AloofShape, grid_of}
use Rattle.share_format.specs.Blocks.{subchunk, table_of, HasChecksum}
use Rattle.share_format.proofs.Rows.{flat_at}
use Rattle.share_format.proofs.HeaderBytes.{AreBytes, take_small, drop_small}

pub own_checksum : (a : AloofShape) (chunk : List ℕ) (layer : ℕ) → layer < layer_count (grid_of a)
    → HasChecksum (table_of a chunk) layer (subchunk a chunk layer)
own_checksum a chunk layer low =
    let n : ℕ = layer_count (grid_of a) in
    let entry : ℕ → List ℕ = λ z. little_bytes 8 (checksum_of (subchunk a chunk z)) in
    let turned : 8 * layer ≡ layer * 8 = omega arith in
    let count : length (range_with_len 0 n) ≡ n = length-range_with_len 0 n in
    let found : get_or (range_with_len 0 n) layer 0 ≡ 0 + layer = get_or-range_with_len 0 n layer 0 low in
    let same : 0 + layer ≡ layer = omega arith in
    ap (λ k. take 8 (drop k (table_of a chunk))) turned
    ∙ flat_at entry 8 0 (all_layers (grid_of a)) layer (omega (arith, count, low)) (λ i less. length-bytes_low_first 0 8 (checksum_of (subchunk a chunk (get_or (all_layers (grid_of a)) i 0))))
    ∙ ap entry (found ∙ same)

same_number : (x y : ℕ) → x < 2 ^ 64 → y < 2 ^ 64 → little_bytes 8 x ≡ little_bytes 8 y → x ≡ y
same_number x y low high same =
    sym (little_number-reads_back 8 x [] low) ∙ ap (little_number 8) same ∙ little_number-reads_back 8 y [] high

pub rot_found : (a : AloofShape) (chunk piece : List ℕ) (layer start burst : ℕ) → layer < layer_count (grid_of a)
    → ((i : ℕ) → get_or chunk i 0 < 2 ^ 8) → ((i : ℕ) → get_or piece i 0 < 2 ^ 8) → length piece ≡ length (subchunk a chunk layer)
    → start ≤ 8 * length (subchunk a chunk layer) → 0 < burst → burst < 2 ^ 64
    → polynomial piece ≡ bit_xor (polynomial (subchunk a chunk layer)) (burst * 2 ^ start)
    → HasChecksum (table_of a chunk) layer piece → ⊥
rot_found a chunk piece layer start burst low bytes others long within some short differ has =
    let mine : List ℕ = subchunk a chunk layer in
    let small : AreBytes mine = take_small a.width (drop (layer * a.width) chunk) (drop_small (layer * a.width) chunk bytes) in
    burst_found piece mine start burst long within some short differ
    (same_number (checksum_of piece) (checksum_of mine) (checksum_below piece others) (checksum_below mine small) (sym has ∙ own_checksum a chunk layer low))
