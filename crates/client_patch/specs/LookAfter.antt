-- Where a call goes on after its look, and how it begins to gather.
use Rattle.std.specs.Prelude.{◌≡◌, ⊤, ℕ, true, false, List, [], None, Result, Ok, Err}
use Rattle.std.specs.declared.alloc.AllocError.{AllocError}
use Rattle.store_map.specs.declared.call.Call.{Call}
use Rattle.store_map.specs.declared.call.Call.TheVariants as call
use Rattle.store_core.specs.Told.{Told}
use Rattle.run_laws.specs.State.{Sequel}
use Rattle.gather_parts.specs.Gatherings.{GatheringsOf, owed}
use Rattle.gather_parts.specs.Progress.{is_due}
use Rattle.gather_parts.specs.States.{state_in}
use Rattle.call_steps.specs.declared.seen.Seen.{Seen}
use Rattle.stripe_dir.specs.declared.directory_answers.Look.{Look}
use Rattle.stripe_dir.specs.Shown.{stripes_seen}
use Rattle.client_patch.specs.Patches.{is_put, is_drawing}
use Rattle.client_patch.specs.declared.patch_stage.PatchStage.{PatchStage}
use Rattle.client_patch.specs.declared.patch_stage.PatchStage.TheVariants as stage

-- gatherings of which nothing was asked yet
abbrev pub IsFresh : GatheringsOf → Type 0
IsFresh p = p.current ≡ None

-- gatherings that have begun, after their first coding where one was due
pub record IsBegun (p now : GatheringsOf) : Type 0 where
  pub state : state_in now Sequel.Draw ≡ state_in p Sequel.Draw
  pub due : is_due now ≡ false
  pub owed : owed now ≡ owed p

-- what the look of a call is answered; a put pins no stripe
abbrev pub IsPatchLook : Call → Told → Type 0
IsPatchLook written (Told.Answer point answer) = ⊤
IsPatchLook written (Told.Ready base size stripes) = (is_drawing written ≡ true) × (is_put written ≡ true → stripes ≡ [])
IsPatchLook written Told.Short = ⊤
IsPatchLook written answer = ⊥

-- where a call goes on that draws: a put at its draw, since it is told of no changes and gathers nothing
abbrev pub to_draw : Call → PatchStage
to_draw (call.Put name content) = stage.Gathering
to_draw _ = stage.Looked

-- where it goes on after its look
abbrev pub IsLooked : Call → Told → PatchStage → Type 0
IsLooked written (Told.Ready base size stripes) next = next ≡ to_draw written
IsLooked written answer next = next ≡ stage.Finished

-- of a call that goes on
abbrev pub IfReady : Told → Type 0 → Type 0
IfReady (Told.Ready base size stripes) holds = holds
IfReady answer holds = ⊤

-- the stripes that come with a look, where memory sufficed
abbrev pub looked_stripes : Result (Look ⊤ ⊤) AllocError → List Seen
looked_stripes (Ok answer) = stripes_seen answer
looked_stripes (Err e) = []

-- the object's size, where a write goes on
abbrev pub size_told : Told → ℕ
size_told (Told.Ready base size stripes) = size
size_told answer = 0
