-- What a framed session keeps, as its caller knows it: the plain map, and where each stripe's chunks are.
use Rattle.std.specs.Prelude.{ℕ, Bool, false, List, [], get_or, replicate, Option, None, unwrap_or}
use Rattle.clay_grid.specs.Shape.{Shape, chunk_count}
use Rattle.store_map.specs.PlainMap.{Objects, bytes_of}

-- a server's chunk of a stripe: the server's epoch when the chunk was placed there, and whether it is held
pub record Chunk : Type 0 where
  pub placed : ℕ
  pub held : Bool

-- a stripe is its chunk at each server
abbrev pub Stripe : Type 0
Stripe = List Chunk

-- under each object's name, in order of creation, the numbers of its stripes
abbrev pub Numbering : Type 0
Numbering = List (List ℕ × List ℕ)

-- the map, the numbers of the objects' stripes and the stripes, as they stood when the snapshot was taken; of its stripes only the placed
-- epochs are read, since whether a chunk is held always counts as of now
pub record Snapshot : Type 0 where
  pub objects : Objects
  pub numbers : Numbering
  pub stripes : List Stripe

-- the map; the numbers of its objects' stripes; each server's epoch, which is how often it was emptied; every stripe that was ever made, in the
-- place that is its number; the snapshot that is open; the next number of the seat that heals
pub record State : Type 0 where
  pub objects : Objects
  pub numbers : Numbering
  pub epochs : List ℕ
  pub stripes : List Stripe
  pub snapshot : Option Snapshot
  pub next : ℕ

-- a session before its first request
abbrev pub first_state : Shape → State
first_state g = record { objects = []; numbers = []; epochs = replicate (chunk_count g) 0; stripes = []; snapshot = None; next = 0 }

-- the numbers of an object's stripes; none where there is no such object
abbrev pub numbers_of : List ℕ → Numbering → List ℕ
numbers_of name numbers = unwrap_or (bytes_of name numbers) []

-- the stripe at a place of an object
abbrev pub stripe_at : List Stripe → List ℕ → ℕ → Stripe
stripe_at stripes numbers place = get_or stripes (get_or numbers place 0) []

-- a stripe's chunk at a server
abbrev pub chunk_at : Stripe → ℕ → Chunk
chunk_at stripe server = get_or stripe server (record { placed = 0; held = false })
