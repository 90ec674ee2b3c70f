-- The places of a session's steps, and what they keep.
use Rattle.std.specs.Prelude.{◌≡◌, ℕ, List, length, Some, None}
use Rattle.std.specs.List.{slice_get}
use Rattle.clay_grid.specs.Shape.{chunk_count}
use Rattle.store_core.specs.Step.{Places as CorePlaces}
use Rattle.version_seal.specs.Entry.{BookOf}
use Rattle.chunk_server.specs.State.{ServerState}
use Rattle.session_store.specs.declared.places.SessionPlaces.{SessionPlaces}
use Rattle.session_store.specs.Stored.{places_of}

-- as many servers as a stripe of the book has chunks, each with its number and of the book
pub record AreServers (book : BookOf) (servers : List ServerState) : Type 0 where
  pub count : length servers ≡ chunk_count book.geometry
  pub each : (i : ℕ) (s : ServerState) → slice_get servers i ≡ Some s → (s.number ≡ i) × (s.book ≡ book)

-- as the definitions see them
abbrev pub seen_in : SessionPlaces → CorePlaces
seen_in p = places_of p.directory p.servers.items

-- they are of a book without a script
pub record ArePlaces (p : SessionPlaces) : Type 0 where
  pub free : p.book.script ≡ None
  pub book : p.directory.book ≡ p.book
  pub servers : AreServers p.book p.servers.items

-- other places of the same book
pub record AreSame (p now : SessionPlaces) : Type 0 where
  pub places : ArePlaces now
  pub book : now.book ≡ p.book
