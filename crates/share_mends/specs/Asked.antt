-- What a mend takes of its sources.
use Rattle.std.specs.Prelude.{◌≡◌, ◌≢◌, ℕ, ◌/◌, ◌<◌, ◌≤◌, Bool, true, false, List, length, get_or}
use Rattle.clay_grid.specs.Score.{count_below}
use Rattle.clay_aloof.specs.Shape.{AloofShape, all_chunks, rows_of, node_of}
use Rattle.file_bytes.specs.Places.{Placed, FailsIn}
use Rattle.share_format.specs.Mend.{Range}
use Rattle.share_format.specs.Blocks.{block_length}
use Rattle.share_format.specs.Shares.{block_start}
use Rattle.share_files.specs.Seen.{Seen, seen_of}
use Rattle.share_mends.specs.Places.{GivesJust}

-- whether a share helps
abbrev pub helps : List Bool → ℕ → Bool
helps marks c = get_or marks c false

-- so many marked shares as a repair has helpers, and among them each other share whose node stands in the lost one's column
pub record AreHelpers (a : AloofShape) (lost : ℕ) (marks : List Bool) : Type 0 where
  pub count : length marks ≡ all_chunks a
  pub none : helps marks lost ≡ false
  pub helpers : count_below (all_chunks a) (helps marks) ≡ a.helper_count
  pub column : (c : ℕ) → c < all_chunks a → c ≢ lost → node_of a c / rows_of a ≡ node_of a lost / rows_of a → helps marks c ≡ true

-- a helper handed out the bytes in these ranges and no others, another source nothing
abbrev pub GivesIf : Bool → List Placed → List Range → List Placed → Type 0
GivesIf true given ranges now = GivesJust given ranges now
GivesIf false given ranges now = now ≡ given

-- a source was asked for the bytes in some ranges where it helps, told no end, and none of its reads failed
pub record IsAsked (help : Bool) (ranges : List Range) (old new : Seen) : Type 0 where
  pub given : GivesIf help old.given ranges new.given
  pub ends : new.ends ≡ old.ends
  pub failed : new.failed ≡ old.failed

-- each of the first so many sources was, and the others were not touched
pub record AreAsked (marks : List Bool) (ranges : List Range) (count : ℕ) (olds news : List Seen) : Type 0 where
  pub asked : (c : ℕ) → c < count → IsAsked (helps marks c) ranges (seen_of olds c) (seen_of news c)
  pub others : (c : ℕ) → count ≤ c → seen_of news c ≡ seen_of olds c

-- one read of one helper's block of a stripe failed, and no other read
pub record FailsAt (a : AloofShape) (marks : List Bool) (stripe : ℕ) (olds news : List Seen) : Type 0 where
  pub share : ℕ
  pub helper : helps marks share ≡ true
  pub fails : FailsIn (block_start a stripe) (block_length a) (seen_of olds share).failed (seen_of news share).failed
  pub others : (c : ℕ) → c ≢ share → (seen_of news c).failed ≡ (seen_of olds c).failed

-- of one of the first so many stripes
pub record OneReadFails (a : AloofShape) (marks : List Bool) (count : ℕ) (olds news : List Seen) : Type 0 where
  pub stripe : ℕ
  pub within : stripe < count
  pub fails : FailsAt a marks stripe olds news

abbrev pub NoReadFails : List Seen → List Seen → Type 0
NoReadFails olds news = (c : ℕ) → (seen_of news c).failed ≡ (seen_of olds c).failed
