-- Each pass of a run is of a call in work.
use Rattle.std.proofs.Common.{◌≡◌, ℕ, zero, suc, ◌<◌, Bool, true, false, List, [], ◌∷◌, length, drop, Option, None, Some, option_map, is_some, IfSome, IsTrue, refl, sym, ap, subst, ◌∙◌, arith, true≢false}
use Rattle.std.proofs.lemmas.Option.{none-some, same_Some}
use Rattle.std.specs.List.{slice_get}
use Rattle.store_map.specs.Limits.{size_of, tries_of}
use Rattle.store_map.specs.declared.actor.Actor.{Actor}
use Rattle.store_map.specs.declared.actor.Actor.TheVariants as actor
use Rattle.store_map.specs.declared.script.Script.{Script}
use Rattle.store_core.specs.Note.{Note}
use Rattle.store_core.specs.Act.{Act, DirectoryStep}
use Rattle.run_laws.specs.AnswerLaws.{is_on_pass}
use Rattle.store_core.specs.Core.{Core}
use Rattle.store_core.specs.Directory.{Pass, Directory}
use Rattle.store_core.specs.Lookups.{pass_of}
use Rattle.store_core.specs.NextAct.{Job, next_act}
use Rattle.store_core.specs.Told.{Told}
use Rattle.run_laws.specs.PassLaws.{IsOfCallInWork, KeepsPass, PassesAreOfCalls}
use Rattle.store_core.specs.Schedule.{run_tokens, run_core}
use Rattle.store_core.specs.Work.{Work, Calling, client_work, repairer_work}
use Rattle.run_laws.proofs.ActAnswers.{note_if}
use Rattle.run_laws.proofs.ActorSteps.{InWork, CallKept, is_looking}
use Rattle.run_laws.proofs.Drains.{start, State, run_state, if_found}
use Rattle.run_laws.proofs.RunsSound.{first_kept}
use Rattle.run_laws.proofs.Groups.{GroupKept, drop_here}
use Rattle.run_laws.proofs.Passes.{held}
use Rattle.run_laws.proofs.Phases.{phase_of, directory_phase, has_pass}
use Rattle.run_laws.proofs.Runs.{CanRun}
use Rattle.run_laws.proofs.Scripts.{can_run}

-- a step on a pass wants it
on_pass_wants : (step : DirectoryStep) → IsTrue (is_on_pass step) → has_pass (directory_phase step) ≡ true
on_pass_wants DirectoryStep.Draw h = refl
on_pass_wants (DirectoryStep.Commit placed) h = refl
on_pass_wants DirectoryStep.End h = refl
on_pass_wants DirectoryStep.Confirm h = refl
on_pass_wants (DirectoryStep.Repaired server epoch) h = refl
on_pass_wants step h = absurd (true≢false (sym h))

-- a note that is held is that of a pass
noted : (found : Option Pass) (note : Note) → option_map (λ (pass : Pass). pass.note) found ≡ Some note → IsTrue (is_some found)
noted None note e = absurd (none-some note e)
noted (Some pass) note e = refl

nothing_held : (found : Option Pass) (P : Pass → Type 0) → option_map (λ (pass : Pass). pass.note) found ≡ None → IfSome found P
nothing_held None P e = tt
nothing_held (Some pass) P e = absurd (none-some pass.note (sym e))

-- a call that has a pass has made a step
module _ (script : Script) (tried : 0 < tries_of script) (who : Actor) (d : Directory) (work : Work) (calling : Calling) (job : Job)
    (is_job : slice_get work.jobs (length calling.ended) ≡ Some job) (in_work : InWork script.geometry (size_of script) (tries_of script) job who calling d) where
  abbrev act : Act
  act = next_act script.geometry (tries_of script) job calling.told

  made_none : calling.steps ≡ 0 → held who d ≡ None
  made_none none =
      in_work.stands.pass
      ∙ ap (λ (told : List Told). note_if (has_pass (phase_of (next_act script.geometry (tries_of script) job told))) job.note) (in_work.fresh none)
      ∙ ap (λ p. note_if (has_pass p) job.note) (is_looking job.note.kind script.geometry (tries_of script) job tried)

  has_begun : (pass : Pass) → pass_of who d ≡ Some pass → (steps : ℕ) → calling.steps ≡ steps → 0 < steps
  has_begun pass found zero none = absurd (none-some pass.note (sym (made_none none) ∙ ap (option_map (λ (p : Pass). p.note)) found))
  has_begun pass found (suc n) some = omega arith

  is_noted : (pass : Pass) (b : Bool) → Some pass.note ≡ note_if b job.note → pass.note ≡ job.note
  is_noted pass true e = same_Some pass.note job.note e
  is_noted pass false e = absurd (none-some pass.note (sym e))

  call_keeps_pass : KeepsPass script who d work calling
  call_keeps_pass =
      record {
        of_call =
            if_found (IsOfCallInWork work calling) (pass_of who d)
            (λ pass found. record {
              job = job;
              in_work = is_job;
              begun = has_begun pass found calling.steps refl;
              note = is_noted pass (has_pass (phase_of act)) (sym (ap (option_map (λ (p : Pass). p.note)) found) ∙ in_work.stands.pass);
            });
        there = λ other step is_other next on.
            let same : job ≡ other = same_Some job other (sym is_job ∙ is_other) in
            let next_here : act ≡ Act.AtDirectory step = ap (λ (j : Job). next_act script.geometry (tries_of script) j calling.told) same ∙ next in
            let wants : has_pass (phase_of act) ≡ true = ap (λ a. has_pass (phase_of a)) next_here ∙ on_pass_wants step on in
            noted (pass_of who d) job.note (in_work.stands.pass ∙ ap (λ b. note_if b job.note) wants);
      }

drop_past : {X : Type 0} (xs : List X) (n : ℕ) → slice_get xs n ≡ None → drop n xs ≡ []
drop_past [] zero e = refl
drop_past [] (suc n) e = refl
drop_past (x ∷ xs) zero e = absurd (none-some x (sym e))
drop_past (x ∷ xs) (suc n) e = drop_past xs n e

-- an actor with a call in work, or without
module _ (script : Script) (tried : 0 < tries_of script) (who : Actor) (d : Directory) (work : Work) (calling : Calling)
    (kept : CallKept script.geometry (size_of script) (tries_of script) who (drop (length calling.ended) work.jobs) calling d) where
  keeps_pass : (found : Option Job) → slice_get work.jobs (length calling.ended) ≡ found → KeepsPass script who d work calling
  keeps_pass None e =
      let over : drop (length calling.ended) work.jobs ≡ [] = drop_past work.jobs (length calling.ended) e in
      let none : held who d ≡ None = subst (λ (l : List Job). CallKept script.geometry (size_of script) (tries_of script) who l calling d) over kept in
      record {
        of_call = nothing_held (pass_of who d) (IsOfCallInWork work calling) none;
        there = λ job step is_job next on. absurd (none-some job (sym e ∙ is_job));
      }
  keeps_pass (Some job) e =
      call_keeps_pass script tried who d work calling job e
      (subst (λ (l : List Job). CallKept script.geometry (size_of script) (tries_of script) who l calling d) (drop_here work.jobs (length calling.ended) job e) kept)

-- all actors of a kind
group_passes : (script : Script) (tried : 0 < tries_of script) (who_of : ℕ → Actor) (works : List Work) (callings : List Calling) (d : Directory) → GroupKept script who_of works callings d
    → (i : ℕ) → IfSome (slice_get works i) (λ work. IfSome (slice_get callings i) (KeepsPass script (who_of i) d work))
group_passes script tried who_of works callings d kept i =
    if_found (λ (work : Work). IfSome (slice_get callings i) (KeepsPass script (who_of i) d work)) (slice_get works i) (λ work is_work.
    if_found (KeepsPass script (who_of i) d work) (slice_get callings i) (λ calling is_calling.
    keeps_pass script tried (who_of i) d work calling (kept i work calling is_work is_calling) (slice_get work.jobs (length calling.ended)) refl))

-- in a run passes are of calls in work
pub passes_are_of_calls : PassesAreOfCalls
passes_are_of_calls script shortages geometry valid tokens =
    let can : CanRun script = can_run script geometry valid in
    let state : State script shortages can (run_tokens script tokens (start script shortages can)) = run_state script shortages can tokens (start script shortages can) (first_kept script can) in
    let core : Core = run_core script shortages tokens in
    record {
      clients = group_passes script can.tried actor.Client (client_work script) core.clients core.directory state.keeps.clients;
      repairers = group_passes script can.tried actor.Repairer (repairer_work script) core.repairers core.directory state.keeps.repairers;
    }
