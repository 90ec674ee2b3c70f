-- A chunk server as a record, and the list of the chunks that it holds.
use Rattle.std.specs.Prelude.{◌≡◌, ℕ, Bool, false, not, nat_eq, nat_lt, List, [], ◌∷◌, map, filter, find, Option, if◌then◌else◌}
use Rattle.store_map.specs.declared.placement.Found.{Found}
use Rattle.store_map.specs.declared.placement.Found.TheVariants as found
use Rattle.store_core.specs.Lists.{is_among}
use Rattle.version_seal.specs.Entry.{BookOf}
use Rattle.version_seal.specs.Sealed.{ChunkOf}
use Rattle.chunk_server.specs.declared.server.Mark.{Mark}
use Rattle.chunk_server.specs.declared.server.Mark.TheVariants.{Settled}

-- the chunk of a version, whether its call has committed, and the sealed chunk
pub record Held : Type 0 where
  pub version : ℕ
  pub mark : Mark
  pub chunk : ChunkOf

-- which of the servers it is, the book of its versions, how often it was emptied, how many subchunks were taken from it, how often it was made away, whether it is, and its chunks
pub record ServerState : Type 0 where
  pub number : ℕ
  pub book : BookOf
  pub epoch : ℕ
  pub taken : ℕ
  pub downs : ℕ
  pub away : Bool
  pub held : List Held

-- a server that was never used
abbrev pub empty_server : ℕ → BookOf → ServerState
empty_server number book = record { number = number; book = book; epoch = 0; taken = 0; downs = 0; away = false; held = [] }

-- the versions of chunks, in the chunks' order
abbrev pub versions_of : List Held → List ℕ
versions_of chunks = map (λ chunk. chunk.version) chunks

-- whether a version is held
abbrev pub is_held : ℕ → List Held → Bool
is_held version chunks = is_among version (versions_of chunks)

-- the chunk of a version, where it is held
abbrev pub chunk_of : ℕ → List Held → Option Held
chunk_of version chunks = find (λ chunk. nat_eq version chunk.version) chunks

-- why a server gives no chunk: it is away, or doesn't hold it
abbrev pub found_at : ServerState → Found
found_at s = if s.away then found.Away s.downs else found.Absent s.epoch

-- the same server of the same book
pub record IsSame (old new : ServerState) : Type 0 where
  pub number : new.number ≡ old.number
  pub book : new.book ≡ old.book

-- one chunk more, before those of greater versions; a version that is held already keeps its chunk and its mark
abbrev pub hold : Held → List Held → List Held
hold chunk [] = chunk ∷ []
hold chunk (other ∷ chunks) =
    if nat_lt chunk.version other.version then chunk ∷ other ∷ chunks
    else (if nat_eq chunk.version other.version then other ∷ chunks else other ∷ hold chunk chunks)

-- the chunk, marked as settled
abbrev pub settled_chunk : Held → Held
settled_chunk chunk = record chunk { mark = Settled }

-- the version's chunk is settled, where it is held
abbrev pub settled_at : ℕ → List Held → List Held
settled_at version chunks = map (λ chunk. if nat_eq version chunk.version then settled_chunk chunk else chunk) chunks

-- the version is held no more
abbrev pub let_go : ℕ → List Held → List Held
let_go version chunks = filter (λ chunk. not (nat_eq version chunk.version)) chunks
