-- Parts of the chunks of one content, by their servers.
use Rattle.std.specs.Prelude.{◌≡◌, ℕ, ◌*◌, ◌<◌, Bool, true, false, List, [], ◌∷◌, length, get_or, Option, None, Some, is_some, Vec}
use Rattle.std.specs.declared.alloc.Global.{Global}
use Rattle.clay_grid.specs.Shape.{Shape, chunk_count}
use Rattle.clay_grid.specs.Repair.{all_layers, repair_layers_of}
use Rattle.store_core.specs.Lists.{is_among}
use Rattle.version_seal.specs.Chunk.{IsChunkOf, IsPartOf}

-- an entry for each server, with bytes where some have come
abbrev pub Shelf : Type 0
Shelf = List (Option (Vec ℕ Global))

-- these layers of the server's chunk, with all their bytes
pub record IsPart (g : Shape) (content : List ℕ) (server : ℕ) (layers bytes : List ℕ) : Type 0 where
  pub word : IsPartOf g content server layers bytes
  pub long : length bytes ≡ length layers * g.width

-- what has come from a server are these layers of its chunk
pub record ArePartsOf (g : Shape) (content : List ℕ) (layers : ℕ → List ℕ) (shelf : Shelf) : Type 0 where
  pub count : length shelf ≡ chunk_count g
  pub each : (server : ℕ) (bytes : Vec ℕ Global) → get_or shelf server None ≡ Some bytes → IsPart g content server (layers server) bytes.items

-- what has come from a server is its whole chunk
pub record AreChunksOf (g : Shape) (content : List ℕ) (shelf : Shelf) : Type 0 where
  pub count : length shelf ≡ chunk_count g
  pub each : (server : ℕ) (bytes : Vec ℕ Global) → get_or shelf server None ≡ Some bytes → IsChunkOf g content server bytes.items

-- something has come from the server
abbrev pub is_there : ℕ → Shelf → Bool
is_there server shelf = is_some (get_or shelf server None)

-- nothing has come from any
abbrev pub AreNone : Shelf → Type 0
AreNone shelf = (server : ℕ) → get_or shelf server None ≡ None

-- something has come from each of these servers but those that are left to ask and those that are missing
abbrev pub HaveCome : List ℕ → List ℕ → List ℕ → Shelf → Type 0
HaveCome servers left gone shelf =
    (server : ℕ) → is_among server servers ≡ true → is_among server left ≡ false → is_among server gone ≡ false → is_there server shelf ≡ true

-- the same of all servers
abbrev pub AllHaveCome : Shape → List ℕ → List ℕ → Shelf → Type 0
AllHaveCome g left gone shelf =
    (server : ℕ) → server < chunk_count g → is_among server left ≡ false → is_among server gone ≡ false → is_there server shelf ≡ true

-- the layers from which missing chunks are made: the repair layers of one, or all where more are missing
abbrev pub helping_layers : Shape → List ℕ → List ℕ
helping_layers g [] = []
helping_layers g (lost ∷ []) = repair_layers_of g lost
helping_layers g (lost ∷ other ∷ more) = all_layers g
