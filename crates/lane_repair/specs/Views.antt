-- What is there of each chunk, and the chunk that is rebuilt from it.
use Rattle.std.specs.Prelude.{◌≡◌, ◌≢◌, ℕ, ◌+◌, ◌-◌, ◌<◌, ◌≤◌, ◌⊎◌, cond, nat_lt, false, List, [], map, length, get_or, slice_range, All, Option, IfSome, None, is_none, ⊤}
use Rattle.std.specs.Option.{option_map}
use Rattle.clay_grid.specs.Shape.{Shape, chunk_count, chunk_length}
use Rattle.clay_model.specs.Code.{IsCodeword, AgreesWith}
use Rattle.clay_model.specs.Left.{parts}
use Rattle.clay_model.specs.RepairParts.{part_length, repair_parts}
use Rattle.lane_repair.specs.declared.view.ChunkView.{ChunkView}
use Rattle.lane_repair.specs.declared.view.ChunkView.TheVariants.{Apart, Laid, Around, Slices}

-- pieces of len bytes, from their starts on
abbrev pub laid_pieces : List ℕ → List (Option ℕ) → ℕ → List (Option (List ℕ))
laid_pieces bytes starts len = map (option_map (λ start. slice_range bytes start (start + len))) starts

-- each of them ends within the bytes
abbrev pub EndWithin : List ℕ → List (Option ℕ) → ℕ → Type 0
EndWithin bytes starts len = All (λ o. IfSome o (λ start. start + len ≤ length bytes)) starts

-- a piece of len bytes before or after a gap of len bytes
abbrev pub piece_around : List ℕ → List ℕ → ℕ → ℕ → List ℕ
piece_around before after len start =
    cond (nat_lt start (length before)) (slice_range before start (start + len))
    (slice_range after (start - (length before + len)) (start - (length before + len) + len))

-- it ends before the gap, or starts after it and ends within the bytes there
abbrev pub StandsAround : List ℕ → List ℕ → ℕ → ℕ → Type 0
StandsAround before after len start =
    (start + len ≤ length before) ⊎ ((length before + len ≤ start) × (start + len ≤ length before + len + length after))

-- the slices at these places
abbrev pub placed_slices : List (List ℕ) → List (Option ℕ) → List (Option (List ℕ))
placed_slices slices places = map (option_map (λ place. get_or slices place [])) places

-- the bytes that are there of each chunk
abbrev pub pieces_of : ChunkView → List (Option (List ℕ))
pieces_of (Apart have) = parts have.now
pieces_of (Laid bytes starts len) = laid_pieces bytes.now starts.now len
pieces_of (Around before after starts len) = map (option_map (piece_around before.now after.now len)) starts.now
pieces_of (Slices pieces places) = placed_slices (map (λ piece. piece.now) pieces.now) places.now

abbrev pub HasRoom : ChunkView → Type 0
HasRoom (Apart have) = ⊤
HasRoom (Laid bytes starts len) = EndWithin bytes.now starts.now len
HasRoom (Around before after starts len) = All (λ o. IfSome o (StandsAround before.now after.now len)) starts.now
HasRoom (Slices pieces places) = All (λ o. IfSome o (λ place. place < length pieces.now)) places.now

-- an entry for each chunk, a part's bytes for each other than the lost one
pub record ArePieces (g : Shape) (lost : ℕ) (pieces : List (Option (List ℕ))) : Type 0 where
  pub chunk : lost < chunk_count g
  pub count : length pieces ≡ chunk_count g
  pub others : (c : ℕ) → c < chunk_count g → c ≢ lost → is_none (get_or pieces c None) ≡ false
  pub lengths : All (λ o. IfSome o (λ piece. length piece ≡ part_length g)) pieces

-- a codeword whose chunks have these parts
pub record FitsPieces (g : Shape) (lost : ℕ) (pieces : List (Option (List ℕ))) (word : List (List ℕ)) : Type 0 where
  pub codeword : IsCodeword g word
  pub agrees : AgreesWith pieces (repair_parts g lost word)

-- a chunk is the lost one of each codeword with these parts
pub record IsRebuiltFrom (g : Shape) (lost : ℕ) (pieces : List (Option (List ℕ))) (chunk : List ℕ) : Type 0 where
  pub len : length chunk ≡ chunk_length g
  pub value : (word : List (List ℕ)) → FitsPieces g lost pieces word → chunk ≡ get_or word lost []
