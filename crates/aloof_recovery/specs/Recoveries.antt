-- What holds while the missing ones of all chunks are written, each to its place.
use Rattle.std.specs.Prelude.{◌≡◌, ◌≢◌, ℕ, ◌+◌, ◌*◌, ◌<◌, ◌≤◌, Bool, true, false, cond, List, [], map, length, get_or, All, Option, IfSome, Some, None}
use Rattle.std.specs.Option.{option_map}
use Rattle.std.specs.List.{range_with_len}
use Rattle.clay_grid.specs.Shape.{node_count, layer_count, chunk_length}
use Rattle.lane_repair.specs.Views.{laid_pieces, piece_around, StandsAround}
use Rattle.clay_aloof.specs.Shape.{AloofShape, all_chunks, grid_of, is_virtual_node, chunk_at}
use Rattle.clay_aloof.specs.Limits.{IsAloof}
use Rattle.clay_aloof.specs.Known.{shown_bytes}
use Rattle.clay_aloof.specs.Tables.{AreTables, AreOwnPlaces}
use Rattle.clay_aloof.specs.Solved.{IsPlan, IsIn, AreSolved}
use Rattle.clay_aloof.specs.Rebuilt.{IsEntry}
use Rattle.clay_aloof.specs.Recovered.{is_gone, is_gone_node, chunk_in, HasOthers}
use Rattle.clay_aloof.specs.declared.layer_solving.Plan.{Plan}
use Rattle.clay_aloof.specs.declared.known.Tables.{Tables}
use Rattle.aloof_recovery.specs.declared.recovery.Recovery.{Recovery}

-- the nodes of the missing chunks are erased, and all layers are solved
pub record IsMissingPlan (a : AloofShape) (missing : List Bool) (plan : Plan) : Type 0 where
  pub aloof : IsAloof a
  pub sound : IsPlan (grid_of a) plan
  pub few : length plan.points.items ≤ a.parity_count
  pub erased_are : (i : ℕ) → i < node_count (grid_of a) → get_or plan.erased.items i false ≡ is_gone_node a missing i
  pub all : (n : ℕ) → n < layer_count (grid_of a) → IsIn plan.layers.items n

-- the chunk of each node, and each layer at its own place
abbrev pub AreChunkTables : AloofShape → Tables → Type 0
AreChunkTables a tables = AreTables a (IsEntry a) (AreOwnPlaces a) tables

-- where each of so many chunks begins that isn't missing
abbrev pub starts_left : AloofShape → List Bool → ℕ → List (Option ℕ)
starts_left a missing count = map (λ c. cond (is_gone missing c) None (Some (c * chunk_length (grid_of a)))) (range_with_len 0 count)

-- an entry for each chunk, with a chunk's bytes where it is there
pub record AreChunks (a : AloofShape) (pieces : List (Option (List ℕ))) : Type 0 where
  pub count : length pieces ≡ all_chunks a
  pub lengths : All (λ o. IfSome o (λ piece. length piece ≡ chunk_length (grid_of a))) pieces

-- each node whose chunk isn't missing has that one's bytes, and a virtual one zeros
pub record AreHeld (a : AloofShape) (missing : List Bool) (bytes known : List ℕ) : Type 0 where
  pub real : (i n b : ℕ) → i < node_count (grid_of a) → is_virtual_node a i ≡ false → is_gone missing (chunk_at a i) ≡ false → n < layer_count (grid_of a) → b < a.width
      → get_or known ((i * layer_count (grid_of a) + n) * a.width + b) 0 ≡ get_or (chunk_in a bytes (chunk_at a i)) (n * a.width + b) 0
  pub virtual : (i n b : ℕ) → i < node_count (grid_of a) → is_virtual_node a i ≡ true → n < layer_count (grid_of a) → b < a.width
      → get_or known ((i * layer_count (grid_of a) + n) * a.width + b) 0 ≡ 0

-- the missing chunks with their plan, and where the others begin
pub record IsRecovery (r : Recovery) : Type 0 where
  pub count : length r.missing.now ≡ all_chunks r.g
  pub starts : r.starts.now ≡ starts_left r.g r.missing.now (all_chunks r.g)
  pub plan : IsMissingPlan r.g r.missing.now r.plan.now
  pub tables : AreChunkTables r.g r.tables.now

-- the chunks that are there of all, and of those before and after a missing one
abbrev pub others_in : Recovery → List ℕ → List (Option (List ℕ))
others_in r chunks = laid_pieces chunks r.starts.now (chunk_length (grid_of r.g))

abbrev pub others_around : Recovery → List ℕ → List ℕ → List (Option (List ℕ))
others_around r before after = map (option_map (piece_around before after (chunk_length (grid_of r.g)))) r.starts.now

abbrev pub StandAround : Recovery → List ℕ → List ℕ → Type 0
StandAround r before after = All (λ o. IfSome o (StandsAround before after (chunk_length (grid_of r.g)))) r.starts.now

-- what these tell of the nodes, and that each layer is solved with it
abbrev pub told_by : Recovery → List (Option (List ℕ)) → List ℕ
told_by r pieces = shown_bytes (grid_of r.g) pieces r.tables.now

abbrev pub AreSolvedBy : Recovery → List (Option (List ℕ)) → List ℕ → Type 0
AreSolvedBy r pieces solved = AreSolved (grid_of r.g) r.plan.now (told_by r pieces) solved

-- chunk c is written if it is missing, and the others stay
pub record IsPut (a : AloofShape) (missing : List Bool) (c : ℕ) (old new : List ℕ) : Type 0 where
  pub here : is_gone missing c ≡ true → (word : List (List ℕ)) → HasOthers a missing old word → chunk_in a new c ≡ get_or word c []
  pub elsewhere : (d : ℕ) → d < all_chunks a → d ≢ c → chunk_in a new d ≡ chunk_in a old d
  pub kept : is_gone missing c ≡ false → chunk_in a new c ≡ chunk_in a old c

-- each missing one of the first count chunks is written, and those that are there stay
pub record ArePut (a : AloofShape) (missing : List Bool) (count : ℕ) (old new : List ℕ) : Type 0 where
  pub kept : (c : ℕ) → c < all_chunks a → is_gone missing c ≡ false → chunk_in a new c ≡ chunk_in a old c
  pub value : (word : List (List ℕ)) → HasOthers a missing old word → (c : ℕ) → c < count → c < all_chunks a → chunk_in a new c ≡ get_or word c []
