-- The same steps by a ticket: of the call of the actor whose seat or pass it holds.
use Rattle.std.specs.Prelude.{◌≡◌, ℕ, Bool, List, Option, Result, false, is_err, IfOk}
use Rattle.store_map.specs.declared.call.Call.{Call}
use Rattle.store_core.specs.Told.{Told}
use Rattle.store_core.specs.Note.{note_of}
use Rattle.store_core.specs.Act.{DirectoryStep}
use Rattle.store_core.specs.Agreement.{HeldPass, ActorToken}
use Rattle.store_core.specs.Tokens.{actor_of}
use Rattle.version_seal.specs.Entry.{RequestOf}
use Rattle.stripe_stamps.specs.Sealed.{Sealed}
use Rattle.stripe_dir.specs.AnswerStamps.{IfDrawn}
use Rattle.stripe_dir.specs.Answers.{told_by_look, told_by_repair_look, told_by_draw, told_committed, told_ended, told_confirmed}
use Rattle.stripe_dir.specs.Shown.{repair_note}
use Rattle.stripe_dir.specs.Steps.{IsStep}
use Rattle.stripe_dir.specs.declared.directory_answers.Look.{Look}
use Rattle.stripe_dir.specs.declared.directory_answers.RepairLook.{RepairLook}
use Rattle.stripe_dir.specs.declared.directory_answers.Drawn.{Drawn}
use Rattle.stripe_dir.specs.declared.directory_answers.Committed.{Committed}
use Rattle.stripe_dir.specs.declared.directory_answers.Ended.{Ended}
use Rattle.stripe_dir.specs.declared.directory_answers.Confirmed.{Confirmed}

-- the look of a client's call, and that of a rebuild of a stripe's chunk
abbrev pub look_step : Call → DirectoryStep
look_step call = DirectoryStep.Look (note_of call)

abbrev pub repair_step : List ℕ → ℕ → DirectoryStep
repair_step name stripe = DirectoryStep.LookRepair (repair_note name stripe)

-- a step of its actor's call with this number
abbrev pub IsStepBy : ActorToken → ℕ → DirectoryStep → Sealed → Sealed → Bool → Told → Type 0
IsStepBy token number step old new short told = IsStep (actor_of token) number step old new short told

-- by what is answered
abbrev pub LooksBy : {S P E : Type 0} → ActorToken → ℕ → Call → Sealed → Sealed → Result (Look S P) E → Type 0
LooksBy token number call old new look = IsStepBy token number (look_step call) old new (is_err look) (told_by_look look)

abbrev pub LooksRepairBy : {S P E : Type 0} → ActorToken → ℕ → DirectoryStep → Sealed → Sealed → Result (RepairLook S P) E → Type 0
LooksRepairBy token number step old new look = IsStepBy token number step old new (is_err look) (told_by_repair_look look)

abbrev pub DrawsBy : {S P E : Type 0} → ActorToken → ℕ → Sealed → Sealed → Result (Drawn S P) E → Type 0
DrawsBy token number old new drawn = IsStepBy token number DirectoryStep.Draw old new (is_err drawn) (told_by_draw drawn)

-- where versions are drawn with the pass that the ticket is, they are those of the stripes that its call touches
abbrev pub DrewBy : {S P E : Type 0} → Sealed → ActorToken → Option RequestOf → Result (Drawn S P) E → Type 0
DrewBy s token request drawn = (held : HeldPass) → token ≡ ActorToken.InCall held → IfOk drawn (IfDrawn s held request)

abbrev pub CommitsBy : {S : Type 0} → ActorToken → ℕ → DirectoryStep → Sealed → Sealed → Committed S → Type 0
CommitsBy token number step old new committed = IsStepBy token number step old new false (told_committed committed)

abbrev pub ConfirmsBy : {S P : Type 0} → ActorToken → ℕ → Sealed → Sealed → Confirmed S P → Type 0
ConfirmsBy token number old new confirmed = IsStepBy token number DirectoryStep.Confirm old new false (told_confirmed confirmed)

abbrev pub EndsBy : {S : Type 0} → ActorToken → ℕ → DirectoryStep → Sealed → Sealed → Ended S → Type 0
EndsBy token number step old new ended = IsStepBy token number step old new false (told_ended ended)
