-- Each step of a call is the one that it makes next after what the run told it before.
use Rattle.std.proofs.Common.{◌≡◌, ◌⊎◌, inl, inr, ℕ, Bool, true, false, ◌&&◌, List, [], ◌∷◌, ◌++◌, length, fold, Some, option_and_then, sym, ap, subst, ◌∙◌}
use Rattle.std.proofs.lemmas.List.{append-nil}
use Rattle.std.proofs.lemmas.List.Sums.{fold-append}
use Rattle.std.proofs.lemmas.Option.{none-some, same_Some}
use Rattle.std.specs.List.{slice_get}
use Rattle.clay_grid.specs.Shape.{Shape, chunk_count}
use Rattle.store_map.specs.Limits.{size_of, tries_of}
use Rattle.store_map.specs.declared.actor.Actor.{Actor}
use Rattle.store_map.specs.declared.actor.Actor.TheVariants as actor
use Rattle.store_map.specs.declared.script.Script.{Script}
use Rattle.store_map.specs.declared.call_name.CallName.{CallName}
use Rattle.store_core.specs.ActPlace.{is_in_pass}
use Rattle.store_core.specs.Core.{Core}
use Rattle.store_core.specs.NextAct.{Job, next_act}
use Rattle.store_core.specs.Run.{places_in}
use Rattle.store_core.specs.Shown.{client_name, repairer_name}
use Rattle.store_core.specs.Step.{Shortage, Places, told_first}
use Rattle.store_core.specs.Sweep.{next_sweep}
use Rattle.store_core.specs.Tell.{tell}
use Rattle.store_core.specs.Told.{Told}
use Rattle.store_core.specs.Work.{Work, Calling, client_work, repairer_work}
use Rattle.run_laws.specs.ToldInSteps.{act_after}
use Rattle.run_laws.proofs.Runs.{CanRun}
use Rattle.run_laws.proofs.Scripts.{can_run}
use Rattle.history_laws.specs.LineCauses.{told_to, job_of_call}
use Rattle.history_laws.specs.Moments.{IsOf}
use Rattle.history_laws.specs.Trace.{Made, call_made, act_made}
use Rattle.history_laws.proofs.CausedCalls.{CauseThen}
use Rattle.history_laws.proofs.CausedLines.{CausesSoFar, causes_kept, first_causes}
use Rattle.history_laws.proofs.Past.{never_empty, last_or_not}
use Rattle.history_laws.proofs.Traced.{KeptByMade, run_traced}
use Rattle.history_laws.specs.Over.{answers_to}
use Rattle.history_laws.specs.NextSteps.{told_before, StepsAreNext, RunsStepNext}

-- ---- one step more
-- what is told first
first_is : (g : Shape) (job : Job) (answers : List Told) (coding has : Bool) → told_first coding has g job (fold (tell g job) [] answers) ≡ fold (tell g job) [] (answers ++ told_before (coding && has))
first_is g job answers true true = sym (fold-append (tell g job) [] answers (Told.Short ∷ []))
first_is g job answers true false = ap (fold (tell g job) []) (sym (append-nil answers))
first_is g job answers false true = ap (fold (tell g job) []) (sym (append-nil answers))
first_is g job answers false false = ap (fold (tell g job) []) (sym (append-nil answers))

module _ (script : Script) where
  abbrev g : Shape
  g = script.geometry

  abbrev IsNext : List Made → Made → Type 0
  IsNext before made =
      (call : CallName) (job : Job) → job_of_call script call ≡ Some job → IsOf call made → made.act ≡ act_after script.geometry (tries_of script) job (answers_to call before ++ told_before made.short)

  one_more : (trace : List Made) (made : Made) → IsNext trace made → StepsAreNext script trace → StepsAreNext script (trace ++ made ∷ [])
  one_more trace made next all call job is before m after split of = by (last_or_not trace made before m after split)
    where
      by : ((before ≡ trace) × (m ≡ made)) ⊎ ((rest : List Made) × (trace ≡ before ++ m ∷ rest)) → m.act ≡ act_after script.geometry (tries_of script) job (answers_to call before ++ told_before m.short)
      by (inl same) =
          subst (λ (x : Made). x.act ≡ act_after script.geometry (tries_of script) job (answers_to call before ++ told_before x.short)) (sym same.1)
          (subst (λ b. made.act ≡ act_after script.geometry (tries_of script) job (answers_to call b ++ told_before made.short)) (sym same.0) (next call job is (subst (IsOf call) same.1 of)))
      by (inr earlier) = all call job is before m earlier.0 earlier.1 of

  -- of an actor with calls
  call_next : (trace : List Made) (who : Actor) (jobs : List Job) (c : Calling) (job : Job) (shortage : Shortage) (places : Places) → slice_get jobs (length c.ended) ≡ Some job
      → CauseThen script.geometry (size_of script) (tries_of script) trace who jobs c
      → (call_made script shortage who c places job).act ≡ act_after script.geometry (tries_of script) job (told_to who (length c.ended) trace ++ told_before (call_made script shortage who c places job).short)
  call_next trace who jobs c job shortage places is h =
      ap (next_act script.geometry (tries_of script) job)
      (ap (told_first shortage.coding (is_in_pass (next_act script.geometry (tries_of script) job c.told)) script.geometry job) (sym (h.in_work job is).kept)
      ∙ first_is script.geometry job (told_to who (length c.ended) trace) shortage.coding (is_in_pass (next_act script.geometry (tries_of script) job c.told)))

  client_next : (trace : List Made) (i : ℕ) (work : Work) (c : Calling) (job : Job) (shortage : Shortage) (places : Places) → slice_get (client_work script) i ≡ Some work → slice_get work.jobs (length c.ended) ≡ Some job
      → CauseThen script.geometry (size_of script) (tries_of script) trace (actor.Client i) work.jobs c → IsNext trace (call_made script shortage (actor.Client i) c places job)
  client_next trace i work c job shortage places is_work is_job h call other is_other of =
      subst (λ n. Goal n) (same_Some (client_name i (length c.ended)) call of)
      (subst (λ j. (call_made script shortage (actor.Client i) c places job).act ≡ act_after script.geometry (tries_of script) j (told_to (actor.Client i) (length c.ended) trace ++ told_before (call_made script shortage (actor.Client i) c places job).short)) same
      (call_next trace (actor.Client i) work.jobs c job shortage places is_job h))
    where
      Goal : CallName → Type 0
      Goal n = (call_made script shortage (actor.Client i) c places job).act ≡ act_after script.geometry (tries_of script) other (answers_to n trace ++ told_before (call_made script shortage (actor.Client i) c places job).short)

      here : job_of_call script (client_name i (length c.ended)) ≡ Some job
      here = ap (option_and_then (λ (w : Work). slice_get w.jobs (length c.ended))) is_work ∙ is_job

      same : job ≡ other
      same = same_Some job other (sym here ∙ ap (job_of_call script) (same_Some (client_name i (length c.ended)) call of) ∙ is_other)

  repairer_next : (trace : List Made) (i : ℕ) (work : Work) (c : Calling) (job : Job) (shortage : Shortage) (places : Places) → slice_get (repairer_work script) i ≡ Some work → slice_get work.jobs (length c.ended) ≡ Some job
      → CauseThen script.geometry (size_of script) (tries_of script) trace (actor.Repairer i) work.jobs c → IsNext trace (call_made script shortage (actor.Repairer i) c places job)
  repairer_next trace i work c job shortage places is_work is_job h call other is_other of =
      subst (λ n. Goal n) (same_Some (repairer_name i (length c.ended)) call of)
      (subst (λ j. (call_made script shortage (actor.Repairer i) c places job).act ≡ act_after script.geometry (tries_of script) j (told_to (actor.Repairer i) (length c.ended) trace ++ told_before (call_made script shortage (actor.Repairer i) c places job).short)) same
      (call_next trace (actor.Repairer i) work.jobs c job shortage places is_job h))
    where
      Goal : CallName → Type 0
      Goal n = (call_made script shortage (actor.Repairer i) c places job).act ≡ act_after script.geometry (tries_of script) other (answers_to n trace ++ told_before (call_made script shortage (actor.Repairer i) c places job).short)

      here : job_of_call script (repairer_name i (length c.ended)) ≡ Some job
      here = ap (option_and_then (λ (w : Work). slice_get w.jobs (length c.ended))) is_work ∙ is_job

      same : job ≡ other
      same = same_Some job other (sym here ∙ ap (job_of_call script) (same_Some (repairer_name i (length c.ended)) call of) ∙ is_other)

-- ---- in every run
record NextSoFar (script : Script) (trace : List Made) (core : Core) : Type 0 where
  causes : CausesSoFar script trace core
  next : StepsAreNext script trace

module _ (script : Script) (can : CanRun script) where
  next_kept : KeptByMade script can (NextSoFar script)
  next_kept =
      record {
        client = λ trace core kept has i work calling job is_work is_calling is_job shortage kept_after.
            record {
              causes = (causes_kept script can).client trace core kept has.causes i work calling job is_work is_calling is_job shortage kept_after;
              next = one_more script trace (call_made script shortage (actor.Client i) calling (places_in core) job) (client_next script trace i work calling job shortage (places_in core) is_work is_job (has.causes.clients i calling is_calling work is_work)) has.next;
            };
        repairer = λ trace core kept has i work calling job is_work is_calling is_job shortage kept_after.
            record {
              causes = (causes_kept script can).repairer trace core kept has.causes i work calling job is_work is_calling is_job shortage kept_after;
              next = one_more script trace (call_made script shortage (actor.Repairer i) calling (places_in core) job) (repairer_next script trace i work calling job shortage (places_in core) is_work is_job (has.causes.repairers i calling is_calling work is_work)) has.next;
            };
        sweeper = λ trace core kept has.
            record {
              causes = (causes_kept script can).sweeper trace core kept has.causes;
              next = one_more script trace (act_made actor.Sweeper (next_sweep (chunk_count script.geometry) core.sweeper) (places_in core)) (λ call job is of. absurd (none-some call of)) has.next;
            };
        operator = λ trace core kept has a is own.
            record {
              causes = (causes_kept script can).operator trace core kept has.causes a is own;
              next = one_more script trace (act_made actor.Operator a (places_in core)) (λ call job is of. absurd (none-some call of)) has.next;
            };
      }

pub runs_step_next : RunsStepNext
runs_step_next script shortages geometry valid tokens =
    let can : CanRun script = can_run script geometry valid in
    (run_traced script can (NextSoFar script) (next_kept script can) shortages (record { causes = first_causes script can; next = λ call job is before made after split of. absurd (never_empty before made after split) }) tokens).1.next
