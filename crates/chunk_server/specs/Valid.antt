-- Which chunks a server may hold, and what it gives.
use Rattle.std.specs.Prelude.{◌≡◌, ℕ, ◌*◌, ⊤, List, length, All}
use Rattle.clay_grid.specs.Shape.{Shape}
use Rattle.store_core.specs.HeldLaws.{IsRising}
use Rattle.version_seal.specs.Sealed.{ChunkOf, PartOf, IsSealed}
use Rattle.chunk_server.specs.State.{Held, ServerState, versions_of}
use Rattle.chunk_server.specs.declared.server_answers.Fetched.{Fetched}
use Rattle.chunk_server.specs.declared.server_answers.Fetched.TheVariants as fetched

-- a chunk is of a book, for the server of this number, and of this code
pub record IsFor (home : List ℕ) (number : ℕ) (g : Shape) (chunk : ChunkOf) : Type 0 where
  pub same_home : chunk.stamp.home ≡ home
  pub same_server : chunk.server ≡ number
  pub same_code : chunk.geometry ≡ g

-- a chunk that may come is of the server's book, number and code
abbrev pub MayCome : ServerState → ChunkOf → Type 0
MayCome s chunk = IsFor s.book.home s.number s.book.geometry chunk

-- a held chunk might come too, is of the version under which it is held, and is sealed: it is the server's chunk of the codeword of that version's content
pub record IsOwn (home : List ℕ) (number : ℕ) (g : Shape) (held : Held) : Type 0 where
  pub here : IsFor home number g held.chunk
  pub version : held.chunk.stamp.version ≡ held.version
  pub sealed : IsSealed held.chunk

-- what every server keeps: its versions rise, so that each is held once, and each chunk is its own
pub record IsValid (s : ServerState) : Type 0 where
  pub rising : IsRising (versions_of s.held)
  pub own : All (IsOwn s.book.home s.number s.book.geometry) s.held

-- a part that is given is of the version and the layers that were asked for, of the server's book, number and code, and has all its bytes
pub record IsGiven (s : ServerState) (version : ℕ) (layers : List ℕ) (part : PartOf) : Type 0 where
  pub of_version : part.stamp.version ≡ version
  pub of_home : part.stamp.home ≡ s.book.home
  pub of_server : part.server ≡ s.number
  pub of_code : part.geometry ≡ s.book.geometry
  pub of_layers : part.layers ≡ layers
  pub of_length : length part.bytes ≡ length layers * s.book.geometry.width

-- so is the part of a fetch that found its chunk
abbrev pub GivesPart : ServerState → ℕ → List ℕ → Fetched → Type 0
GivesPart s version layers (fetched.Part part) = IsGiven s version layers part
GivesPart s version layers (fetched.Missing found) = ⊤
