-- What is known of the nodes, as the bytes of a chunk for each.
use Rattle.std.specs.Prelude.{◌≡◌, ℕ, ◌+◌, ◌*◌, ◌/◌, ◌%◌, ◌<◌, ◌≤◌, List, map, length, get_or, replicate, Option, Some, None, IfSome}
use Rattle.std.specs.List.{range_with_len}
use Rattle.clay_grid.specs.Shape.{Shape, node_count, layer_count, chunk_length}
use Rattle.lane_repair.specs.Views.{pieces_of, HasRoom as HasViewRoom}
use Rattle.clay_aloof.specs.declared.known.Known.{Known}
use Rattle.clay_aloof.specs.declared.known.Tables.{Tables}
use Rattle.clay_aloof.specs.declared.known.Source.{Source}
use Rattle.clay_aloof.specs.declared.known.Source.TheVariants.{Whole, Shown}

-- byte b of the subchunk at a place of a chunk's bytes
abbrev pub part_byte : ℕ → Option (List ℕ) → ℕ → ℕ → ℕ
part_byte width None place b = 0
part_byte width (Some piece) place b = get_or piece (place * width + b) 0

abbrev pub source_byte : Shape → Source → ℕ → ℕ → ℕ → ℕ
source_byte g (Whole bytes) c place b = get_or bytes.now (c * chunk_length g + (place * g.width + b)) 0
source_byte g (Shown view) c place b = part_byte g.width (get_or (pieces_of view) c None) place b

abbrev pub entry_byte : Shape → Known → Option ℕ → ℕ → ℕ → ℕ
entry_byte g known None n b = 0
entry_byte g known (Some c) n b = source_byte g known.source c (get_or known.tables.now.places.items n 0) b

-- byte b of subchunk n of node i
abbrev pub node_byte : Shape → Known → ℕ → ℕ → ℕ → ℕ
node_byte g known i n b = entry_byte g known (get_or known.tables.now.chunks.items i None) n b

-- the byte at a place of the nodes' chunks
abbrev pub byte_at : Shape → Known → ℕ → ℕ
byte_at g known p = node_byte g known (p / chunk_length g) (p % chunk_length g / g.width) (p % chunk_length g % g.width)

-- the nodes' chunks, one behind another
abbrev pub node_bytes : Shape → Known → List ℕ
node_bytes g known = map (byte_at g known) (range_with_len 0 (node_count g * chunk_length g))

-- the same where the chunks are those that a view shows
abbrev pub shown_byte : Shape → List (Option (List ℕ)) → Tables → Option ℕ → ℕ → ℕ → ℕ
shown_byte g pieces tables None n b = 0
shown_byte g pieces tables (Some c) n b = part_byte g.width (get_or pieces c None) (get_or tables.places.items n 0) b

abbrev pub shown_at : Shape → List (Option (List ℕ)) → Tables → ℕ → ℕ
shown_at g pieces tables p =
    shown_byte g pieces tables (get_or tables.chunks.items (p / chunk_length g) None) (p % chunk_length g / g.width) (p % chunk_length g % g.width)

abbrev pub shown_bytes : Shape → List (Option (List ℕ)) → Tables → List ℕ
shown_bytes g pieces tables = map (shown_at g pieces tables) (range_with_len 0 (node_count g * chunk_length g))

-- the subchunk at a place of chunk c is there, where the chunk is
abbrev pub HasRoom : Shape → Source → ℕ → ℕ → Type 0
HasRoom g (Whole bytes) c place = c * chunk_length g + (place * g.width + g.width) ≤ length bytes.now
HasRoom g (Shown view) c place = HasViewRoom view × (c < length (pieces_of view)) × IfSome (get_or (pieces_of view) c None) (λ piece. place * g.width + g.width ≤ length piece)

pub record IsKnown (g : Shape) (known : Known) : Type 0 where
  pub nodes : length known.tables.now.chunks.items ≡ node_count g
  pub layers : length known.tables.now.places.items ≡ layer_count g
  pub empty : known.tables.now.zeros.items ≡ replicate g.width 0
  pub room : (i n c : ℕ) → i < node_count g → n < layer_count g → get_or known.tables.now.chunks.items i None ≡ Some c → HasRoom g known.source c (get_or known.tables.now.places.items n 0)
