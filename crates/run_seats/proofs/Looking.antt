-- A look of a caller's call is of the script's call.
use Rattle.std.proofs.Common.{◌≡◌, ℕ, zero, suc, Bool, true, false, List, [], ◌∷◌, length, map, nat_lt, Option, Some, IfSome, if◌then◌else◌, refl, sym, ap, subst, ◌∙◌}
use Rattle.std.proofs.lemmas.Option.{none-some, same_Some}
use Rattle.std.specs.Prelude.{option_and_then, ⊤}
use Rattle.std.specs.List.{slice_get}
use Rattle.clay_grid.specs.Shape.{Shape}
use Rattle.store_map.specs.declared.actor.Actor.{Actor}
use Rattle.store_map.specs.declared.call.Call.{Call}
use Rattle.store_map.specs.declared.call.Rebuild.{Rebuild}
use Rattle.store_map.specs.declared.script.ClientPart.{ClientPart}
use Rattle.store_map.specs.declared.script.Script.{Script}
use Rattle.store_core.specs.Act.{Act, DirectoryStep, Outcome}
use Rattle.store_core.specs.Calls.{IsNoteOf, IsOfCall}
use Rattle.store_core.specs.Gathering.{Part}
use Rattle.store_core.specs.History.{call_of}
use Rattle.store_core.specs.NextAct.{Job, job_of, rebuild_job}
use Rattle.store_core.specs.Note.{Kind}
use Rattle.store_core.specs.Tokens.{actor_of}
use Rattle.run_laws.specs.Stage.{Aim, Stage}
use Rattle.run_laws.specs.Stages.{first_stage}
use Rattle.run_laws.specs.State.{Sequel, State}
use Rattle.run_laws.specs.StateActs.{act_at, parts_act, sequel_act, stage_act, start_act}
use Rattle.call_steps.specs.CallOf.{CallOf, act_of}
use Rattle.actors.specs.Callers.{PartOf, StandsIn, who_of, work_of}
use Rattle.thread_laws.specs.Looks.{IsLookOfScript, IsOfItsCall}

-- ---- the looks of a job are of its note, and a rebuild makes none
abbrev IsClients : Kind → Type 0
IsClients Kind.Rebuild = ⊥
IsClients kind = ⊤

abbrev LooksAt : Job → Act → Type 0
LooksAt job (Act.AtDirectory (DirectoryStep.Look note)) = (note ≡ job.note) × IsClients job.note.kind
LooksAt job act = ⊤

tried : (b : Bool) (tries : ℕ) (job : Job) (pairs : List (ℕ × ℕ)) → IsClients job.note.kind → LooksAt job (if b then Act.AtDirectory (DirectoryStep.Look job.note) else Act.Finish (Outcome.Contended pairs))
tried true tries job pairs is = (refl, is)
tried false tries job pairs is = tt

starts : (kind : Kind) (tries : ℕ) (job : Job) (pairs : List (ℕ × ℕ)) → (IsClients kind → IsClients job.note.kind) → LooksAt job (start_act kind tries job pairs)
starts Kind.Write tries job pairs is = tried (nat_lt (length pairs) tries) tries job pairs (is tt)
starts Kind.Rebuild tries job pairs is = tt
starts Kind.Put tries job pairs is = (refl, is tt)
starts Kind.Get tries job pairs is = (refl, is tt)
starts Kind.ReadAt tries job pairs is = (refl, is tt)
starts Kind.Stat tries job pairs is = (refl, is tt)
starts Kind.Delete tries job pairs is = (refl, is tt)

sequels : (job : Job) (after : Sequel) → LooksAt job (sequel_act after)
sequels job (Sequel.Serve point) = tt
sequels job Sequel.Draw = tt
sequels job (Sequel.Confirm seen target) = tt

stages : (g : Shape) (job : Job) (bytes : Act) (aim : Aim) (stage : Stage) → LooksAt job bytes → LooksAt job (stage_act g bytes aim stage)
stages g job bytes aim (Stage.Asks asking) h = tt
stages g job bytes aim Stage.HasBytes h = h
stages g job bytes aim (Stage.TooMany missing) h = tt
stages g job bytes aim Stage.AtTarget h = tt
stages g job bytes aim (Stage.TargetAway downs) h = tt
stages g job bytes aim Stage.Short h = tt

gathers : (g : Shape) (job : Job) (parts : List Part) (after : Sequel) → LooksAt job (parts_act g parts after)
gathers g job [] after = sequels job after
gathers g job (part ∷ parts) after = stages g job (parts_act g parts after) (Aim.Range part) (first_stage g (Aim.Range part)) (gathers g job parts after)

looks_at : (g : Shape) (tries : ℕ) (job : Job) (pairs : List (ℕ × ℕ)) (at : State) → LooksAt job (act_at g tries job pairs at)
looks_at g tries job pairs State.Start = starts job.note.kind tries job pairs (λ h. h)
looks_at g tries job pairs (State.Parts part parts after) = gathers g job (part ∷ parts) after
looks_at g tries job pairs (State.Chunk seen target) = tt
looks_at g tries job pairs (State.Gather aim asking parts after) = tt
looks_at g tries job pairs State.Drawing = tt
looks_at g tries job pairs (State.Preparing stripe version server servers row later placed versions) = tt
looks_at g tries job pairs (State.Committing versions placed) = tt
looks_at g tries job pairs (State.Committed versions) = tt
looks_at g tries job pairs (State.Settling point place places) = tt
looks_at g tries job pairs (State.Confirming seen target) = tt
looks_at g tries job pairs (State.Installing seen target) = tt
looks_at g tries job pairs (State.Placing target epoch) = tt
looks_at g tries job pairs (State.Ending outcome) = tt
looks_at g tries job pairs (State.Finished outcome) = tt

-- ---- so they are of the script's call
if_some : {A : Type 0} (P : A → Type 0) (o : Option A) (x : A) → o ≡ Some x → P x → IfSome o P
if_some P o x is h = subst (λ (o : Option _). IfSome o P) (sym is) h

-- where the job is that of a client's call
of_call : (script : Script) (c : CallOf) (act : Act) → c.book.script ≡ Some script → LooksAt c.job act → (IsClients c.job.note.kind → IsNoteOf (call_of script) (actor_of c.token) c.number c.job.note) → IsOfItsCall c act
of_call script c (Act.AtDirectory (DirectoryStep.Look note)) its looks note_of =
    if_some (λ (x : Script). IsOfCall (call_of x) (actor_of c.token) c.number (DirectoryStep.Look note)) c.book.script script its
    (subst (IsNoteOf (call_of script) (actor_of c.token) c.number) (sym looks.0) (note_of looks.1))
of_call script c (Act.AtDirectory (DirectoryStep.LookRepair note)) its looks note_of = if_some (λ (x : Script). IsOfCall (call_of x) (actor_of c.token) c.number (DirectoryStep.LookRepair note)) c.book.script script its tt
of_call script c (Act.AtDirectory DirectoryStep.Draw) its looks note_of = if_some (λ (x : Script). IsOfCall (call_of x) (actor_of c.token) c.number DirectoryStep.Draw) c.book.script script its tt
of_call script c (Act.AtDirectory (DirectoryStep.Commit placed)) its looks note_of = if_some (λ (x : Script). IsOfCall (call_of x) (actor_of c.token) c.number (DirectoryStep.Commit placed)) c.book.script script its tt
of_call script c (Act.AtDirectory DirectoryStep.End) its looks note_of = if_some (λ (x : Script). IsOfCall (call_of x) (actor_of c.token) c.number DirectoryStep.End) c.book.script script its tt
of_call script c (Act.AtDirectory DirectoryStep.Confirm) its looks note_of = if_some (λ (x : Script). IsOfCall (call_of x) (actor_of c.token) c.number DirectoryStep.Confirm) c.book.script script its tt
of_call script c (Act.AtDirectory (DirectoryStep.Repaired server epoch)) its looks note_of =
    if_some (λ (x : Script). IsOfCall (call_of x) (actor_of c.token) c.number (DirectoryStep.Repaired server epoch)) c.book.script script its tt
of_call script c (Act.AtDirectory DirectoryStep.NextGarbage) its looks note_of = if_some (λ (x : Script). IsOfCall (call_of x) (actor_of c.token) c.number DirectoryStep.NextGarbage) c.book.script script its tt
of_call script c (Act.AtDirectory (DirectoryStep.Swept version)) its looks note_of = if_some (λ (x : Script). IsOfCall (call_of x) (actor_of c.token) c.number (DirectoryStep.Swept version)) c.book.script script its tt
of_call script c (Act.AtDirectory (DirectoryStep.Reap reaped)) its looks note_of = if_some (λ (x : Script). IsOfCall (call_of x) (actor_of c.token) c.number (DirectoryStep.Reap reaped)) c.book.script script its tt
of_call script c (Act.AtServer server step) its looks note_of = tt
of_call script c (Act.Finish outcome) its looks note_of = tt

-- ---- the job of a caller's call
-- a mapped list's element is of one of the list
got_of : {X : Type 0} (job : X → Job) (calls : List X) (number : ℕ) (its : Job) → slice_get (map job calls) number ≡ Some its → (x : X) × (slice_get calls number ≡ Some x) × (job x ≡ its)
got_of job [] number its e = absurd (none-some its e)
got_of job (x ∷ calls) zero its e = (x, refl, same_Some (job x) its e)
got_of job (x ∷ calls) (suc number) its e = got_of job calls number its e

job_is : (script : Script) (place number : ℕ) (part : PartOf) (its : Job) → StandsIn script place part → slice_get (work_of part).jobs number ≡ Some its → IsClients its.note.kind
    → IsNoteOf (call_of script) (who_of part place) number its.note
job_is script place number (PartOf.OfClient part) its stands next clients =
    let found : (call : Call) × (slice_get part.calls number ≡ Some call) × (job_of call ≡ its) = got_of job_of part.calls number its next in (
      found.0,
      ap (λ (o : Option ClientPart). option_and_then (λ (p : ClientPart). slice_get p.calls number) o) stands ∙ found.1,
      ap (λ (j : Job). j.note) found.2,
    )
job_is script place number (PartOf.OfRepairer part) its stands next clients =
    let found : (rebuild : Rebuild) × (slice_get part.calls number ≡ Some rebuild) × (rebuild_job rebuild ≡ its) = got_of rebuild_job part.calls number its next in
    absurd (subst (λ (j : Job). IsClients j.note.kind) (sym found.2) clients)

-- a call with the next job of the caller at this place of the script looks for the script's call
pub looks_of_script : (script : Script) (place number : ℕ) (part : PartOf) (its : Job) (c : CallOf) → StandsIn script place part → slice_get (work_of part).jobs number ≡ Some its → c.job ≡ its → c.number ≡ number
    → actor_of c.token ≡ who_of part place → c.book.script ≡ Some script → IsLookOfScript c
looks_of_script script place number part its c stands next job count whose written =
    of_call script c (act_of c) written (looks_at c.book.geometry c.tries c.job c.state.pairs c.state.at)
    (λ clients.
    subst (λ (who : Actor). IsNoteOf (call_of script) who c.number c.job.note) (sym whose)
    (subst (λ (n : ℕ). IsNoteOf (call_of script) (who_of part place) n c.job.note) (sym count)
    (subst (λ (j : Job). IsNoteOf (call_of script) (who_of part place) number j.note) (sym job)
    (job_is script place number part its stands next (subst (λ (j : Job). IsClients j.note.kind) job clients)))))
