-- The stripes that come with a look.
use Rattle.std.specs.Prelude.{◌≡◌, ℕ, List, [], ◌∷◌, All, Result, IfOk}
use Rattle.store_core.specs.Note.{Note, Kind}
use Rattle.store_core.specs.Placements.{IsRow}
use Rattle.stripe_stamps.specs.Sealed.{Sealed}
use Rattle.stripe_stamps.specs.SeenStripes.{IsSeenIn}
use Rattle.call_steps.specs.declared.seen.Seen.{Seen}
use Rattle.stripe_dir.specs.declared.directory_answers.Look.{Look}
use Rattle.stripe_dir.specs.declared.directory_answers.Look.TheVariants as look
use Rattle.stripe_dir.specs.declared.directory_answers.RepairLook.{RepairLook}
use Rattle.stripe_dir.specs.declared.directory_answers.RepairLook.TheVariants as repair

-- the note of a repairer's look
abbrev pub repair_note : List ℕ → ℕ → Note
repair_note name stripe = record { kind = Kind.Rebuild; name = name; offset = stripe; length = 0 }

-- the stripes that a client's look gives
abbrev pub stripes_seen : {S P : Type 0} → Look S P → List Seen
stripes_seen (look.Answer seat point reply) = []
stripes_seen (look.Pinned pass point length stripes) = stripes.items
stripes_seen (look.Ready pass looked_at length stripes) = stripes.items

-- the stripe that a repairer's look gives
abbrev pub stripe_seen : {S P : Type 0} → RepairLook S P → List Seen
stripe_seen (repair.NoSuch seat) = []
stripe_seen (repair.Pinned pass seen) = seen ∷ []

-- a stripe as a directory shows it: its stamp is the directory's own and of its book, and each server took its version's chunk or was away
pub record IsShown (s : Sealed) (seen : Seen) : Type 0 where
  pub own : IsSeenIn s.stamps seen
  pub home : seen.stamp.home ≡ s.book.home
  pub row : IsRow s.core.shape seen.placed.items

-- so are all that an answer gives
abbrev pub AreShown : {A E : Type 0} → Sealed → (A → List Seen) → Result A E → Type 0
AreShown s stripes result = IfOk result (λ answer. All (IsShown s) (stripes answer))
