-- Subchunks that determine a run of a lost chunk's layers without some chunks. Each chunk has a mark, which is false where it is missing.
use Rattle.std.specs.Prelude.{◌≡◌, ◌≢◌, ℕ, ◌<◌, ◌≤◌, ◌⊎◌, true, false, List, Bool, not, ◌&&◌, nat_eq, All, length, get_or, map}
use Rattle.std.specs.List.{range_with_len}
use Rattle.clay_grid.specs.Shape.{Shape, chunk_count, node_count, layer_count}
use Rattle.clay_grid.specs.Score.{count_below}
use Rattle.clay_model.specs.Code.{IsCodeword, is_virtual, chunk_of_node}
use Rattle.lost_layers.specs.LostLayers.{IsLostRun}
use Rattle.lost_layers.specs.Determined.{bytes_of_run}
use Rattle.lost_layers.specs.declared.run.LostRun.{LostRun}
use Rattle.lost_layers.specs.declared.run.LostPiece.{LostPiece}
use Rattle.lost_layers.specs.Erased.{Erased}
use Rattle.lost_layers.specs.ErasedPieces.{HaveSame, pieces_of}
use Rattle.lost_layers.specs.Unknown.{unknown_from}
use Rattle.lost_layers.specs.declared.missing_fault.MissingFault.{MissingFault}
use Rattle.lost_layers.specs.declared.missing_fault.MissingFault.TheVariants.{NoSuchChunk, NoSuchLayers, MarkCount, TooFew, OutOfMemory}

-- a chunk is there
abbrev pub is_there : LostRun → List Bool → ℕ → Bool
is_there run present c = not (nat_eq c run.lost) && get_or present c false

-- node i's chunk is missing
abbrev pub is_gone : Shape → LostRun → List Bool → ℕ → Bool
is_gone g run present i = not (is_virtual g i) && not (is_there run present (chunk_of_node g i))

abbrev pub gone_nodes : Shape → LostRun → List Bool → List Bool
gone_nodes g run present = map (is_gone g run present) (range_with_len 0 (node_count g))

abbrev pub gone_count : Shape → LostRun → List Bool → ℕ
gone_count g run present = count_below (node_count g) (is_gone g run present)

-- a subchunk of a chunk that is there
abbrev pub IsThere : Shape → LostRun → List Bool → LostPiece → Type 0
IsThere g run present piece = (piece.chunk < chunk_count g) × (piece.layer < layer_count g) × (is_there run present piece.chunk ≡ true)

-- the run, with the nodes that are missing and those that count as unknown
abbrev pub without : Shape → LostRun → List Bool → Erased
without g run present =
    record { g = g; run = run; missing = gone_nodes g run present; unknown = unknown_from g run (gone_nodes g run present) }

-- what is read, chunk by chunk
abbrev pub missing_pieces_of : Shape → LostRun → List Bool → List LostPiece
missing_pieces_of g run present = pieces_of (without g run present)

-- subchunks of chunks that are there, by which codewords with the same bytes of each have the same bytes of the run
pub record Determine (g : Shape) (run : LostRun) (present : List Bool) (pieces : List LostPiece) : Type 0 where
  pub there : All (IsThere g run present) pieces
  pub same : (a b : List (List ℕ)) → IsCodeword g a → IsCodeword g b → All (HaveSame g a b) pieces → bytes_of_run g a run ≡ bytes_of_run g b run

-- the run is one of the code's, there is a mark for each chunk, and few enough are missing
pub record IsReadable (g : Shape) (run : LostRun) (present : List Bool) : Type 0 where
  pub run_is : IsLostRun g run
  pub marks : length present ≡ chunk_count g
  pub few : gone_count g run present ≤ g.parity_count

-- there is no such chunk; it has no such layers; there are more or fewer marks; too many chunks are missing; or there is all, and memory is wanting
abbrev pub IsRefused : Shape → LostRun → List Bool → MissingFault → Type 0
IsRefused g run present NoSuchChunk = chunk_count g ≤ run.lost
IsRefused g run present NoSuchLayers = (run.lost < chunk_count g) × ((run.to < run.from) ⊎ (layer_count g < run.to))
IsRefused g run present MarkCount = IsLostRun g run × (length present ≢ chunk_count g)
IsRefused g run present TooFew = IsLostRun g run × (length present ≡ chunk_count g) × (g.parity_count < gone_count g run present)
IsRefused g run present OutOfMemory = IsReadable g run present
