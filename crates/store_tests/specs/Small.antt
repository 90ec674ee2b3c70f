-- A put of eight bytes in a small code.
use Rattle.std.specs.Prelude.{◌≡◌, ℕ, List, [], ◌∷◌, None}
use Rattle.clay_grid.specs.Shape.{Shape, shape_of}
use Rattle.version_seal.specs.Entry.{BookOf, StampOf}
use Rattle.version_seal.specs.Sealed.{ChunkOf}

-- two data chunks and two parity chunks, of four subchunks of a byte
abbrev pub small_code : Shape
small_code = shape_of 2 2 1

-- one stripe
abbrev pub stripe_bytes : List ℕ
stripe_bytes = 1 ∷ 2 ∷ 3 ∷ 4 ∷ 5 ∷ 6 ∷ 7 ∷ 8 ∷ []

-- a book without a script, of this code
pub record IsSmall (book : BookOf) : Type 0 where
  pub free : book.script ≡ None
  pub code : book.geometry ≡ small_code

-- a stamp of the version of that stripe
pub record IsStampOf (book : BookOf) (version : ℕ) (stamp : StampOf) : Type 0 where
  pub home : stamp.home ≡ book.home
  pub number : stamp.version ≡ version
  pub stripe : stamp.stripe ≡ 0
  pub content : stamp.content ≡ stripe_bytes

-- a stamp of that stripe
pub record IsStripeOf (book : BookOf) (stamp : StampOf) : Type 0 where
  pub home : stamp.home ≡ book.home
  pub content : stamp.content ≡ stripe_bytes

-- a chunk of a stamp's version, for a server
pub record IsChunkFor (stamp : StampOf) (server : ℕ) (chunk : ChunkOf) : Type 0 where
  pub stamped : chunk.stamp ≡ stamp
  pub here : chunk.server ≡ server
  pub code : chunk.geometry ≡ small_code
