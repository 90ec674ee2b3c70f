-- Gatherings that are over.
use Rattle.std.proofs.Common.{◌≡◌, ℕ, Bool, true, false, List, [], ◌∷◌, ◌++◌, Option, None, Some, refl, sym, ap, ◌∙◌, append-nil}
use Rattle.std.proofs.lemmas.Bool.{true≢false}
use Rattle.clay_grid.specs.Shape.{Shape}
use Rattle.store_core.specs.Told.{Lost}
use Rattle.store_core.specs.Act.{Outcome}
use Rattle.store_core.specs.Gathering.{Part}
use Rattle.run_laws.specs.Stage.{Aim, Stage, seen_of}
use Rattle.run_laws.specs.State.{Sequel, State}
use Rattle.run_laws.specs.States.{sequel_state, stage_state, open_parts}
use Rattle.gathering.specs.Gathers.{GatherOf}
use Rattle.gather_parts.specs.declared.progress.Progress.{Progress}
use Rattle.gather_parts.specs.declared.progress.Progress.TheVariants as progress
use Rattle.gather_parts.specs.Wanted.{Wanted, parts_of, bytes_of}
use Rattle.gather_parts.specs.Gatherings.{GatheringsOf, bytes_at_work, owed}
use Rattle.gather_parts.specs.Progress.{progress_at, progress_by, progress_of, IsOver}
use Rattle.gather_parts.specs.States.{state_by, state_in}

abbrev is_done : Progress → Bool
is_done progress.Done = true
is_done now = false

abbrev is_too_many : Progress → Bool
is_too_many progress.TooMany = true
is_too_many now = false

not_done : {A : Type 0} (now : Progress) → is_done now ≡ false → now ≡ progress.Done → A
not_done now none e = absurd (true≢false (sym (ap is_done e) ∙ none))

not_many : {A : Type 0} (now : Progress) → is_too_many now ≡ false → now ≡ progress.TooMany → A
not_many now none e = absurd (true≢false (sym (ap is_too_many e) ∙ none))

never_done : (g : Shape) (aim : Aim) (stage : Stage) → is_done (progress_at g aim stage) ≡ false
never_done g aim (Stage.Asks asking) = refl
never_done g aim Stage.HasBytes = refl
never_done g aim (Stage.TooMany missing) = refl
never_done g aim Stage.AtTarget = refl
never_done g aim (Stage.TargetAway downs) = refl
never_done g aim Stage.Short = refl

module _ (g : Shape) (after : Sequel) where
  done_by : (current : Option GatherOf) (left : List Wanted) → progress_by g current left ≡ progress.Done → state_by g (parts_of left) after current ≡ sequel_state after
  done_by (Some w) left e = not_done (progress_at g w.course.aim w.course.stage) (never_done g w.course.aim w.course.stage) e
  done_by None [] e = refl
  done_by None (wanted ∷ left) e = not_done progress.Due refl e

pub done_state : (p : GatheringsOf) (after : Sequel) → progress_of p ≡ progress.Done → state_in p after ≡ sequel_state after
done_state p after e = done_by p.book.geometry after p.current p.left e

nothing_left : (g : Shape) (current : Option GatherOf) (left : List Wanted) → progress_by g current left ≡ progress.Done
    → bytes_at_work current ++ bytes_of left ≡ []
nothing_left g (Some w) left e = not_done (progress_at g w.course.aim w.course.stage) (never_done g w.course.aim w.course.stage) e
nothing_left g None [] e = refl
nothing_left g None (wanted ∷ left) e = not_done progress.Due refl e

pub done_owed : (p : GatheringsOf) → progress_of p ≡ progress.Done → owed p ≡ p.bytes
done_owed p e = ap (λ (l : List ℕ). p.bytes ++ l) (nothing_left p.book.geometry p.current p.left e) ∙ append-nil p.bytes

abbrev Ends : (Sequel → State) → Type 0
Ends at = (stripe : ℕ) × (missing : List Lost) × ((after : Sequel) → at after ≡ State.Ending (Outcome.Unavailable stripe missing))

lost_stage : (g : Shape) (aim : Aim) (parts : List Part) (stage : Stage) → progress_at g aim stage ≡ progress.TooMany
    → Ends (λ after. stage_state (open_parts g parts after) aim parts after stage)
lost_stage g aim parts (Stage.TooMany missing) e = ((seen_of aim).stripe, missing, λ after. refl)
lost_stage g aim parts (Stage.Asks asking) e = not_many (progress_at g aim (Stage.Asks asking)) refl e
lost_stage g aim parts Stage.HasBytes e = not_many progress.Due refl e
lost_stage g aim parts Stage.AtTarget e = not_many progress.Short refl e
lost_stage g aim parts (Stage.TargetAway downs) e = not_many progress.Short refl e
lost_stage g aim parts Stage.Short e = not_many progress.Short refl e

lost_by : (g : Shape) (current : Option GatherOf) (left : List Wanted) → progress_by g current left ≡ progress.TooMany
    → Ends (λ after. state_by g (parts_of left) after current)
lost_by g (Some w) left e = lost_stage g w.course.aim (parts_of left) w.course.stage e
lost_by g None [] e = not_many progress.Done refl e
lost_by g None (wanted ∷ left) e = not_many progress.Due refl e

pub lost_state : (p : GatheringsOf) → progress_of p ≡ progress.TooMany → Ends (state_in p)
lost_state p e = lost_by p.book.geometry p.current p.left e

-- gatherings that are over end the pass of a read
module _ (g : Shape) (point : ℕ) where
  abbrev Closes : State → Type 0
  Closes at = (outcome : Outcome) × (at ≡ State.Ending outcome)

  over_stage : (parts : List Part) (aim : Aim) (stage : Stage) → IsOver (progress_at g aim stage)
      → Closes (stage_state (open_parts g parts (Sequel.Serve point)) aim parts (Sequel.Serve point) stage)
  over_stage parts aim (Stage.Asks asking) over = absurd over
  over_stage parts aim Stage.HasBytes over = absurd over
  over_stage parts aim (Stage.TooMany missing) over = (Outcome.Unavailable (seen_of aim).stripe missing, refl)
  over_stage parts aim Stage.AtTarget over = (Outcome.Here, refl)
  over_stage parts aim (Stage.TargetAway downs) over = (Outcome.Away downs, refl)
  over_stage parts aim Stage.Short over = (Outcome.NoMemory, refl)

  over_by : (current : Option GatherOf) (left : List Wanted) → IsOver (progress_by g current left)
      → Closes (state_by g (parts_of left) (Sequel.Serve point) current)
  over_by (Some w) left over = over_stage (parts_of left) w.course.aim w.course.stage over
  over_by None [] over = (Outcome.Served point, refl)
  over_by None (wanted ∷ left) over = absurd over

pub over_closes : (p : GatheringsOf) (point : ℕ) → IsOver (progress_of p) → (outcome : Outcome) × (state_in p (Sequel.Serve point) ≡ State.Ending outcome)
over_closes p point over = over_by p.book.geometry point p.current p.left over
