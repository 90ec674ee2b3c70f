-- From which places something came of the source of a share.
use Rattle.std.specs.Prelude.{◌≡◌, ℕ, ◌+◌, ◌<◌, ◌≤◌, All, List, ◌++◌}
use Rattle.file_bytes.specs.Places.{Placed}
use Rattle.clay_aloof.specs.Shape.{AloofShape}
use Rattle.share_format.specs.Blocks.{block_length}
use Rattle.share_format.specs.Shares.{block_start}
use Rattle.share_files.specs.Seen.{Seen, seen_of}

-- a place of stripe i's block
abbrev pub IsIn : AloofShape → ℕ → ℕ → Type 0
IsIn a i place = (block_start a i ≤ place) × (place < block_start a i + block_length a)

-- what came of a source in between came from such places: the bytes that it handed out, the ends that it told, and the reads that failed
pub record IsAskedAt (Is : ℕ → Type 0) (old new : Seen) : Type 0 where
  pub bytes : List Placed
  pub ends : List ℕ
  pub fails : List ℕ
  pub given : new.given ≡ old.given ++ bytes
  pub told : new.ends ≡ old.ends ++ ends
  pub failed : new.failed ≡ old.failed ++ fails
  pub places : All (λ p. Is p.at) bytes × All Is ends × All Is fails

-- so it is of each, with the places of stripe i's block
abbrev pub AreAskedIn : AloofShape → ℕ → List Seen → List Seen → Type 0
AreAskedIn a i olds news = (c : ℕ) → IsAskedAt (IsIn a i) (seen_of olds c) (seen_of news c)
