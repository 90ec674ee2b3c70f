-- The blocks of a stripe, as they are read from the sources of the shares.
use Rattle.std.specs.Prelude.{◌≡◌, ℕ, ◌<◌, ◌≤◌, ◌⊎◌, List, ◌++◌, get_or, Option, Some, None, IfSome, Vec}
use Rattle.std.specs.declared.alloc.Global.{Global}
use Rattle.file_bytes.specs.Places.{Shows, FailsIn}
use Rattle.clay_aloof.specs.Shape.{AloofShape}
use Rattle.share_format.specs.Blocks.{block_length, IsBlock}
use Rattle.share_format.specs.Shares.{block_start}
use Rattle.share_files.specs.Found.{block_in}
use Rattle.share_files.specs.Seen.{Seen, seen_of}

-- what a source shows now it showed before, and its reads that had failed are still told
pub record Grows (old new : Seen) : Type 0 where
  pub shown : (file : List ℕ) → Shows file new.given new.ends → Shows file old.given old.ends
  pub more : List ℕ
  pub failed : new.failed ≡ old.failed ++ more

abbrev pub Grow : List Seen → List Seen → Type 0
Grow olds news = (c : ℕ) → Grows (seen_of olds c) (seen_of news c)

-- a block was had as it stands in its file, and no read failed; or it isn't there, or a read of it failed
abbrev pub IsHad : AloofShape → ℕ → List ℕ → List ℕ → List ℕ → Option (Vec ℕ Global) → Type 0
IsHad a i file failed now None = (¬ IsBlock a (block_in a i file)) ⊎ FailsIn (block_start a i) (block_length a) failed now
IsHad a i file failed now (Some block) = (block.items ≡ block_in a i file) × IsBlock a (block_in a i file) × (now ≡ failed)

-- no read failed, or one of stripe i's block
abbrev pub MayFail : AloofShape → ℕ → List ℕ → List ℕ → Type 0
MayFail a i failed now = (now ≡ failed) ⊎ FailsIn (block_start a i) (block_length a) failed now

-- the block of stripe i was read: what was known of its source before and after, and the block
pub record Reads (a : AloofShape) (i : ℕ) (old new : Seen) (block : Option (Vec ℕ Global)) : Type 0 where
  pub had : (file : List ℕ) → Shows file new.given new.ends → IsHad a i file old.failed new.failed block
  pub shown : (file : List ℕ) → Shows file new.given new.ends → Shows file old.given old.ends
  pub fails : MayFail a i old.failed new.failed

-- so was that of each of the first so many sources, and the others are as they were
pub record AreRead (a : AloofShape) (i count : ℕ) (olds news : List Seen) (blocks : List (Option (Vec ℕ Global))) : Type 0 where
  pub read : (c : ℕ) → c < count → Reads a i (seen_of olds c) (seen_of news c) (get_or blocks c None)
  pub others : (c : ℕ) → count ≤ c → seen_of news c ≡ seen_of olds c

-- so was that of each source from one number on, up to another. The blocks of the sources before these stay
pub record AreReadIn (a : AloofShape) (i from to : ℕ) (olds news : List Seen) (before after : List (Option (Vec ℕ Global))) : Type 0 where
  pub read : (c : ℕ) → from ≤ c → c < to → Reads a i (seen_of olds c) (seen_of news c) (get_or after c None)
  pub good : (c : ℕ) → from ≤ c → c < to → IfSome (get_or after c None) (λ block. IsBlock a block.items)
  pub others : (c : ℕ) → (c < from) ⊎ (to ≤ c) → seen_of news c ≡ seen_of olds c
  pub kept : (c : ℕ) → c < from → get_or after c None ≡ get_or before c None
