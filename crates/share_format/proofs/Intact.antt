-- What a mend reads of an intact block passes: each subchunk has the checksum of its layer.
use Rattle.std.proofs.Common.{◌≡◌, ℕ, ◌+◌, ◌-◌, ◌*◌, ◌<◌, ◌≤◌, List, length, get_or, take, drop, replicate, sym, ap, ◌∙◌, arith}
use Rattle.std.proofs.lemmas.List.{length-drop, length-take-le, take-append-le, drop-append-le}
use Rattle.clay_grid.specs.Shape.{layer_count, chunk_length}
use Rattle.clay_model.specs.RepairParts.{subchunks_at}
use Rattle.clay_aloof.specs.Shape.{AloofShape, grid_of}
use Rattle.clay_aloof.specs.Repair.{aloof_layers_of}
use Rattle.share_format.specs.Blocks.{page_of, rounded, aligned, subchunk, table_of, block_of, IsBlock}
use Rattle.share_format.proofs.Rows.{flat_at}
use Rattle.share_format.proofs.Lengths.{length_table, length_block, chunk_in_block}
use Rattle.share_format.proofs.Found.{own_checksum}
use Rattle.share_format.specs.Parts.{IsIntactPart}
use Rattle.share_format.proofs.Laid.{within_chunk}
use Rattle.clay_aloof.proofs.Parts.{given_at}
use Rattle.byteorder.specs.Endian.{little_bytes}
use Rattle.crc64.specs.Remainder.{checksum_of}

-- an entry of the table, found in front of the chunk
pub entry_in_front : (a : AloofShape) (chunk : List ℕ) (layer : ℕ) → layer < layer_count (grid_of a)
    → take 8 (drop (8 * layer) (aligned a (table_of a chunk))) ≡ take 8 (drop (8 * layer) (table_of a chunk))
entry_in_front a chunk layer low =
    let table : List ℕ = table_of a chunk in
    let zeros : List ℕ = replicate (rounded (page_of a) (length table) - length table) 0 in
    let long : length table ≡ 8 * layer_count (grid_of a) = length_table a chunk in
    let left : length (drop (8 * layer) table) ≡ length table - 8 * layer = length-drop (8 * layer) table in
    ap (take 8) (drop-append-le (8 * layer) table zeros (omega (arith, long, low)))
    ∙ take-append-le 8 (drop (8 * layer) table) zeros (omega (arith, left, long, low))

pub part_intact : (a : AloofShape) (lost : ℕ) (chunk : List ℕ) → length chunk ≡ chunk_length (grid_of a)
    → IsIntactPart a (aloof_layers_of a lost) (aligned a (table_of a chunk)) (subchunks_at a.width chunk (aloof_layers_of a lost))
part_intact a lost chunk long = λ i h.
    let layers : List ℕ = aloof_layers_of a lost in
    let layer : ℕ = get_or layers i 0 in
    let low : layer < layer_count (grid_of a) = (given_at a lost i h).0 in
    let piece : subchunk a (subchunks_at a.width chunk layers) i ≡ subchunk a chunk layer =
    flat_at (λ z. take a.width (drop (z * a.width) chunk)) a.width 0 layers i h (λ k less.
    let other : ℕ = get_or layers k 0 in
    let fits : other * a.width + a.width ≤ layer_count (grid_of a) * a.width = within_chunk other (layer_count (grid_of a)) a.width (given_at a lost k less).0 in
    let left : length (drop (other * a.width) chunk) ≡ length chunk - other * a.width = length-drop (other * a.width) chunk in
    length-take-le a.width (drop (other * a.width) chunk) (omega (arith, fits, left, long))) in
    entry_in_front a chunk layer low ∙ own_checksum a chunk layer low ∙ ap (λ l. little_bytes 8 (checksum_of l)) (sym piece)

pub block_kept : (a : AloofShape) (chunk : List ℕ) → length chunk ≡ chunk_length (grid_of a) → IsBlock a (block_of a chunk)
block_kept a chunk long = record { size = length_block a chunk long; value = ap (block_of a) (sym (chunk_in_block a chunk)) }
