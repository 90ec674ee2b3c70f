-- A chunk in a share: the checksums of its subchunks, and its bytes.
use Rattle.std.specs.Prelude.{◌≡◌, ℕ, ◌+◌, ◌-◌, ◌*◌, ◌/◌, ◌%◌, nat_eq, List, ◌++◌, length, take, drop, if◌then◌else◌}
use Rattle.std.specs.List.{flat_map}
use Rattle.byteorder.specs.Endian.{little_bytes}
use Rattle.crc64.specs.Remainder.{checksum_of}
use Rattle.clay_grid.specs.Shape.{layer_count, chunk_length}
use Rattle.clay_grid.specs.Repair.{all_layers}
use Rattle.clay_model.specs.Code.{padded}
use Rattle.clay_aloof.specs.Shape.{AloofShape, grid_of}

-- the unit at which subchunks are aligned: a page, where a subchunk is whole pages, and else a byte
abbrev pub page_of : AloofShape → ℕ
page_of a = if nat_eq (a.width % 4096) 0 then 4096 else 1

-- a length rounded up to whole units
abbrev pub rounded : ℕ → ℕ → ℕ
rounded unit size = (size + unit - 1) / unit * unit

-- bytes filled up with zeros to whole units
abbrev pub aligned : AloofShape → List ℕ → List ℕ
aligned a bytes = padded (rounded (page_of a) (length bytes)) bytes

-- the subchunk of a layer
abbrev pub subchunk : AloofShape → List ℕ → ℕ → List ℕ
subchunk a chunk layer = take a.width (drop (layer * a.width) chunk)

-- the table of a chunk: the checksum of each subchunk in eight bytes, the lowest first
abbrev pub table_of : AloofShape → List ℕ → List ℕ
table_of a chunk = flat_map (λ layer. little_bytes 8 (checksum_of (subchunk a chunk layer))) (all_layers (grid_of a))

-- the block of a chunk
abbrev pub block_of : AloofShape → List ℕ → List ℕ
block_of a chunk = aligned a (table_of a chunk) ++ chunk

-- where a block's chunk begins in it
abbrev pub chunk_start : AloofShape → ℕ
chunk_start a = rounded (page_of a) (8 * layer_count (grid_of a))

-- the bytes of a block
abbrev pub block_length : AloofShape → ℕ
block_length a = chunk_start a + chunk_length (grid_of a)

-- bytes are a block: that of the chunk in them
pub record IsBlock (a : AloofShape) (block : List ℕ) : Type 0 where
  pub size : length block ≡ block_length a
  pub value : block ≡ block_of a (drop (chunk_start a) block)

-- the checksum of a layer in a table is that of the piece
abbrev pub HasChecksum : List ℕ → ℕ → List ℕ → Type 0
HasChecksum table layer piece = take 8 (drop (8 * layer) table) ≡ little_bytes 8 (checksum_of piece)
