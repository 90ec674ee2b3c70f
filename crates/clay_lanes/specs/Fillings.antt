-- What holds while the missing ones of all chunks are written to their places, a block of byte positions after another.
use Rattle.std.specs.Prelude.{◌≡◌, ℕ, ◌+◌, ◌*◌, ◌<◌, ◌≤◌, true, List, length, get_or, is_none, Option, None}
use Rattle.clay_grid.specs.Shape.{chunk_count, layer_count, chunk_length}
use Rattle.lane_repair.specs.Pieces.{HoldsByte}
use Rattle.clay_lanes.specs.Present.{AreChunks, FitsChunks, is_gone}
use Rattle.clay_lanes.specs.Recovered.{IsPlanFor, HoldsLayerRows}
use Rattle.clay_lanes.specs.Places.{HoldsPlace, KeepsPlaces, chunks_length}
use Rattle.clay_lanes.specs.Standing.{left_pieces, pieces_around, StandInPlace}
use Rattle.clay_lanes.specs.declared.chunk_filling.Filling.{Filling}

-- positions of a subchunk, with the plan of the missing chunks
pub record IsPlanned (filling : Filling) (pieces : List (Option (List ℕ))) : Type 0 where
  pub plan : IsPlanFor filling.g (is_gone filling.g pieces) filling.plan.now
  pub chunks : AreChunks filling.g pieces
  pub within : filling.at + filling.len ≤ filling.g.width

abbrev pub pieces_in : Filling → List ℕ → List (Option (List ℕ))
pieces_in filling chunks = left_pieces filling.left chunks (chunk_length filling.g)

abbrev pub around_in : Filling → List ℕ → List ℕ → List (Option (List ℕ))
around_in filling before after = pieces_around filling.left before after (chunk_length filling.g)

-- the missing ones of all chunks are to be filled
pub record IsFilling (filling : Filling) (chunks : List ℕ) : Type 0 where
  pub planned : IsPlanned filling (pieces_in filling chunks)
  pub places : StandInPlace filling.g filling.left
  pub long : length chunks ≡ chunks_length filling.g

-- a row of so many bytes for each erased node, in one layer and in all
abbrev pub filling_rows : Filling → ℕ → ℕ
filling_rows filling len = length filling.plan.now.points.items * len

abbrev pub filling_layers : Filling → ℕ → ℕ
filling_layers filling len = layer_count filling.g * (length filling.plan.now.points.items * len)

-- the rows of the erased nodes in every layer
abbrev pub SolvesLayers : Filling → List (Option (List ℕ)) → List ℕ → Type 0
SolvesLayers filling pieces solved =
    (n : ℕ) → n < layer_count filling.g
    → HoldsLayerRows filling.g (λ word. FitsChunks filling.g pieces word) filling.at filling.len filling.plan.now.points.items n solved

-- byte p of a chunk is that of chunk c
abbrev pub IsByteOf : Filling → List (Option (List ℕ)) → ℕ → List ℕ → ℕ → Type 0
IsByteOf filling pieces c chunk p = HoldsByte (λ word. FitsChunks filling.g pieces word) c chunk p

-- the positions of each subchunk of chunk c stand in its place
abbrev pub FillsPlace : Filling → List (Option (List ℕ)) → ℕ → List ℕ → Type 0
FillsPlace filling pieces c chunks =
    (z b : ℕ) → z < layer_count filling.g → b < filling.len
    → HoldsPlace filling.g (λ word. FitsChunks filling.g pieces word) c chunks (z * filling.g.width + (filling.at + b))

-- of each missing one
abbrev pub FillsPlaces : Filling → List (Option (List ℕ)) → List ℕ → Type 0
FillsPlaces filling pieces chunks = (c : ℕ) → c < chunk_count filling.g → is_none (get_or pieces c None) ≡ true → FillsPlace filling pieces c chunks

-- each byte that was right is right, and the chunks that are there stay
abbrev pub KeepsOthers : Filling → List (Option (List ℕ)) → List ℕ → List ℕ → Type 0
KeepsOthers filling pieces old new = KeepsPlaces filling.g (λ word. FitsChunks filling.g pieces word) (λ c. is_none (get_or pieces c None)) old new
