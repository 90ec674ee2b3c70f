-- Joins and mends of the shares that a cut made.
use Rattle.std.specs.Prelude.{◌≡◌, ℕ, ◌<◌, ◌≤◌, Bool, true, false, List, [], ◌∷◌, ◌++◌, get_or}
use Rattle.clay_grid.specs.Score.{count_below}
use Rattle.clay_aloof.specs.Shape.{AloofShape, all_chunks}
use Rattle.share_format.specs.Header.{Header}
use Rattle.share_format.specs.Shares.{header_of}
use Rattle.share_files.specs.Seen.{Seen, seen_of, failed_since, Show}
use Rattle.share_run.specs.Places.{Kept, filled, IsUntouched}
use Rattle.share_run.specs.declared.share_status.ShareStatus.{ShareStatus}
use Rattle.share_run.specs.declared.share_status.ShareStatus.TheVariants.{Done, Usage, TooFew, BadShare, ReadFault, WriteFault, OutOfMemory}

-- the sources show the shares that were made, but for lost ones, which are empty, and of which there are no more than parity chunks. No read of
-- the others failed
pub record ShowMade (a : AloofShape) (made : List (List ℕ)) (lost : ℕ → Bool) (olds news : List Seen) : Type 0 where
  pub few : count_below (all_chunks a) lost ≤ a.parity_count
  pub files : List (List ℕ)
  pub shown : Show news files
  pub kept : (c : ℕ) → c < all_chunks a → lost c ≡ false → get_or files c [] ≡ get_or made c []
  pub gone : (c : ℕ) → c < all_chunks a → lost c ≡ true → get_or files c [] ≡ []
  pub read : (c : ℕ) → c < all_chunks a → lost c ≡ false → failed_since (seen_of olds c) (seen_of news c) ≡ []

-- a header is that of the file's share of its number
abbrev pub TellsShare : AloofShape → List ℕ → Header → Type 0
TellsShare a file h = (h ≡ header_of a file h.share) × (h.share < all_chunks a)

-- a command put these bytes into the place, or a write, the place or memory failed and nothing was put there. It ends with no other status
abbrev pub PlacesOrFails : ShareStatus → Kept → Kept → List ℕ → Type 0
PlacesOrFails Done before after bytes = after.files ≡ before.files ++ filled 0 bytes ∷ []
PlacesOrFails Usage before after bytes = ⊥
PlacesOrFails TooFew before after bytes = ⊥
PlacesOrFails BadShare before after bytes = ⊥
PlacesOrFails ReadFault before after bytes = ⊥
PlacesOrFails WriteFault before after bytes = IsUntouched before after
PlacesOrFails OutOfMemory before after bytes = IsUntouched before after
