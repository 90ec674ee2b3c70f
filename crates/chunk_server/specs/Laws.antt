-- What the definitions say of chunks: a step changes what one version finds.
use Rattle.std.specs.Prelude.{◌≡◌, ◌≢◌, ℕ, true, false, List, None, Some}
use Rattle.std.specs.Option.{option_map}
use Rattle.store_core.specs.HeldLaws.{IsRising}
use Rattle.chunk_server.specs.State.{Held, versions_of, is_held, chunk_of, hold, settled_chunk, settled_at, let_go}

-- a chunk that comes is found, or changes nothing where its version is held
pub record AddsOneChunk (chunk : Held) (chunks : List Held) : Type 0 where
  pub found : is_held chunk.version chunks ≡ false → chunk_of chunk.version (hold chunk chunks) ≡ Some chunk
  pub kept : IsRising (versions_of chunks) → is_held chunk.version chunks ≡ true → hold chunk chunks ≡ chunks
  pub others : (other : ℕ) → other ≢ chunk.version → chunk_of other (hold chunk chunks) ≡ chunk_of other chunks

-- a chunk that is settled is found with its new mark
pub record SettlesOneChunk (version : ℕ) (chunks : List Held) : Type 0 where
  pub found : chunk_of version (settled_at version chunks) ≡ option_map settled_chunk (chunk_of version chunks)
  pub others : (other : ℕ) → other ≢ version → chunk_of other (settled_at version chunks) ≡ chunk_of other chunks

-- a chunk that goes isn't found
pub record RemovesOneChunk (version : ℕ) (chunks : List Held) : Type 0 where
  pub none : chunk_of version (let_go version chunks) ≡ None
  pub others : (other : ℕ) → other ≢ version → chunk_of other (let_go version chunks) ≡ chunk_of other chunks
