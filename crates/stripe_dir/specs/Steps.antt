-- What the steps at a directory come to: each makes the lists, and tells, what its step of the definitions does.
use Rattle.std.specs.Prelude.{◌≡◌, ℕ, Bool, false, List, map, Result, is_err, Vec}
use Rattle.std.specs.declared.alloc.Global.{Global}
use Rattle.store_map.specs.declared.actor.Actor.{Actor}
use Rattle.store_map.specs.declared.placement.Placement.{Placement}
use Rattle.store_core.specs.Told.{Told}
use Rattle.store_core.specs.Note.{Note}
use Rattle.store_core.specs.Act.{DirectoryStep}
use Rattle.store_core.specs.Directory.{Directory}
use Rattle.store_core.specs.AtDirectory.{at_directory}
use Rattle.store_core.specs.Agreement.{Seat, HeldPass}
use Rattle.store_core.specs.Tokens.{after_look}
use Rattle.stripe_stamps.specs.Sealed.{Sealed}
use Rattle.stripe_dir.specs.Answers.{told_by_look, told_by_repair_look, told_by_draw, told_committed, told_ended, told_confirmed}
use Rattle.stripe_dir.specs.AnswerTokens.{token_look, token_repair_look, token_or_seat}
use Rattle.dir_parts.specs.Begun.{or_short}
use Rattle.stripe_dir.specs.declared.directory_answers.Look.{Look}
use Rattle.stripe_dir.specs.declared.directory_answers.RepairLook.{RepairLook}
use Rattle.stripe_dir.specs.declared.directory_answers.Drawn.{Drawn}
use Rattle.stripe_dir.specs.declared.directory_answers.Committed.{Committed}
use Rattle.stripe_dir.specs.declared.directory_answers.Ended.{Ended}
use Rattle.stripe_dir.specs.declared.directory_answers.Confirmed.{Confirmed}

-- the step of an actor's call with this number, with ample memory or without
abbrev pub IsStep : Actor → ℕ → DirectoryStep → Sealed → Sealed → Bool → Told → Type 0
IsStep who number step old new short told = (new.core, told) ≡ at_directory short who number step old.core

-- the same step, whoever makes it, with ample memory
abbrev pub IsStepOfAny : DirectoryStep → Sealed → Sealed → Told → Type 0
IsStepOfAny step old new told = (who : Actor) → (number : ℕ) → IsStep who number step old new false told

-- a look with a seat, of a client's call and of a rebuild
abbrev pub IsLook : {S P E : Type 0} → Seat → ℕ → Note → Sealed → Sealed → Result (Look S P) E → Type 0
IsLook seat number note old new look = IsStep seat.actor number (DirectoryStep.Look note) old new (is_err look) (told_by_look look)

abbrev pub IsRepairLook : {S P E : Type 0} → Seat → ℕ → Note → Sealed → Sealed → Result (RepairLook S P) E → Type 0
IsRepairLook seat number note old new look = IsStep seat.actor number (DirectoryStep.LookRepair note) old new (is_err look) (told_by_repair_look look)

-- a look that comes to this, or to nothing where memory is wanting
abbrev pub LooksTo : {S P E : Type 0} → Directory × Told → Sealed → Sealed → Result (Look S P) E → Type 0
LooksTo made old new look = (new.core, told_by_look look) ≡ or_short (is_err look) old.core made

-- the seat or the pass that comes back is the one that follows from what was told
abbrev pub LookLeaves : Seat → ℕ → Note → Result (Look Seat HeldPass) Seat → Type 0
LookLeaves seat number note look = token_or_seat token_look look ≡ after_look seat number note (told_by_look look)

abbrev pub RepairLookLeaves : Seat → ℕ → Note → Result (RepairLook Seat HeldPass) Seat → Type 0
RepairLookLeaves seat number note look = token_or_seat token_repair_look look ≡ after_look seat number note (told_by_repair_look look)

-- the rows of placements of what is committed
abbrev pub rows_in : List (Vec Placement Global) → List (List Placement)
rows_in placed = map (λ row. row.items) placed

abbrev pub commit_step : List (Vec Placement Global) → DirectoryStep
commit_step placed = DirectoryStep.Commit (rows_in placed)

-- a step on a pass that was begun
abbrev pub IsStepOn : HeldPass → DirectoryStep → Sealed → Sealed → Bool → Told → Type 0
IsStepOn held step old new short told = IsStep held.pass.actor held.pass.number step old new short told

abbrev pub IsDraw : {S P E : Type 0} → HeldPass → Sealed → Sealed → Result (Drawn S P) E → Type 0
IsDraw held old new drawn = IsStepOn held DirectoryStep.Draw old new (is_err drawn) (told_by_draw drawn)

abbrev pub IsCommit : {S : Type 0} → HeldPass → List (Vec Placement Global) → Sealed → Sealed → Committed S → Type 0
IsCommit held placed old new committed = IsStepOn held (commit_step placed) old new false (told_committed committed)

abbrev pub IsConfirm : {S P : Type 0} → HeldPass → Sealed → Sealed → Confirmed S P → Type 0
IsConfirm held old new confirmed = IsStepOn held DirectoryStep.Confirm old new false (told_confirmed confirmed)

-- one that ends it
abbrev pub IsEnd : {S : Type 0} → HeldPass → DirectoryStep → Sealed → Sealed → Ended S → Type 0
IsEnd held step old new ended = IsStepOn held step old new false (told_ended ended)
