-- The bytes of a gathering that has all its parts.
use Rattle.std.specs.Prelude.{◌≡◌, ⊤, ℕ, ◌+◌, ◌*◌, ◌-◌, ◌<◌, ◌≤◌, min, max, true, List, [], ◌++◌, take, drop, get_or}
use Rattle.clay_grid.specs.Shape.{Shape, chunk_count, chunk_length, stripe_length}
use Rattle.clay_model.specs.Code.{Codes}
use Rattle.store_core.specs.Lists.{is_among}
use Rattle.store_core.specs.Gathering.{Part}
use Rattle.run_laws.specs.Stage.{Aim}
use Rattle.version_seal.specs.Chunk.{IsChunkOf}
use Rattle.gathering.specs.Parts.{Shelf, AreChunksOf, is_there}

-- of a content the bytes from start up to end
abbrev pub bytes_between : ℕ → ℕ → List ℕ → List ℕ
bytes_between start end content = take (end - start) (drop start content)

-- those of a part come behind the bytes that were there, a chunk in their place
abbrev pub Gives : Shape → List ℕ → Aim → List ℕ → List ℕ → Type 0
Gives g content (Aim.Range part) before after = after ≡ before ++ bytes_between part.start part.end content
Gives g content (Aim.Chunk seen target) before after = IsChunkOf g content target after

-- what is gathered lies within the stripe
abbrev pub IsWithin : Shape → Aim → Type 0
IsWithin g (Aim.Range part) = (part.start < part.end) × (part.end ≤ stripe_length g)
IsWithin g (Aim.Chunk seen target) = target < chunk_count g

-- the chunks of the missing servers, made anew
pub record AreMade (g : Shape) (content gone : List ℕ) (made : Shelf) : Type 0 where
  pub chunks : AreChunksOf g content made
  pub all : (server : ℕ) → server < chunk_count g → is_among server gone ≡ true → is_there server made ≡ true

-- of a part's bytes those in a data chunk, from one up to another, counted from the chunk's start
pub record IsPiece (g : Shape) (part : Part) (chunk from to : ℕ) : Type 0 where
  pub there : chunk < g.data_count
  pub some : from < to
  pub begins : from ≡ max part.start (chunk * chunk_length g) - chunk * chunk_length g
  pub ends : to ≡ min part.end ((chunk + 1) * chunk_length g) - chunk * chunk_length g

-- by the aim
abbrev pub IsPieceOf : Shape → Aim → ℕ → ℕ → ℕ → Type 0
IsPieceOf g (Aim.Range part) chunk from to = IsPiece g part chunk from to
IsPieceOf g (Aim.Chunk seen target) chunk from to = ⊥

-- bytes of a chunk of the codeword of a content come behind those that were there
pub record Appends (g : Shape) (content : List ℕ) (chunk from to : ℕ) (before after : List ℕ) : Type 0 where
  pub word : List (List ℕ)
  pub codes : Codes g content word
  pub here : after ≡ before ++ bytes_between from to (get_or word chunk [])

-- the bytes of a part that stand in a data chunk come behind those that were there
abbrev pub AppendsChunk : Shape → List ℕ → Aim → ℕ → List ℕ → List ℕ → Type 0
AppendsChunk g content (Aim.Range part) chunk before after =
    after ≡ before ++ bytes_between (max part.start (chunk * chunk_length g)) (min part.end ((chunk + 1) * chunk_length g)) content
AppendsChunk g content (Aim.Chunk seen target) chunk before after = ⊤
