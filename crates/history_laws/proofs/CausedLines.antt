-- Each refusal and each rebuild's result that a run shows has its cause.
use Rattle.std.proofs.Common.{◌≡◌, ℕ, ◌<◌, ◌≤◌, List, [], ◌∷◌, ◌++◌, length, All, Option, None, Some, option_and_then, refl, sym, ap, subst, ◌∙◌, arith}
use Rattle.std.proofs.lemmas.List.Elements.{All-nil, All-cons}
use Rattle.std.proofs.lemmas.Option.{none-some, same_Some, slice_get_within}
use Rattle.std.specs.List.{slice_get}
use Rattle.clay_grid.specs.Shape.{chunk_count}
use Rattle.store_map.specs.Limits.{size_of, tries_of}
use Rattle.store_map.specs.declared.actor.Actor.{Actor}
use Rattle.store_map.specs.declared.actor.Actor.TheVariants as actor
use Rattle.store_map.specs.declared.actor.Token.{Token}
use Rattle.store_map.specs.declared.script.Script.{Script}
use Rattle.store_map.specs.declared.call_name.ClientCall.{ClientCall}
use Rattle.store_map.specs.declared.call_name.RepairCall.{RepairCall}
use Rattle.store_map.specs.declared.call_name.CallName.{CallName}
use Rattle.store_map.specs.declared.call_name.CallName.TheVariants as name
use Rattle.store_map.specs.declared.cause.Cause.{Cause}
use Rattle.store_map.specs.declared.cause.RepairResult.{RepairResult}
use Rattle.store_map.specs.declared.line.XLine.{XLine}
use Rattle.store_map.specs.declared.line.RLine.{RLine}
use Rattle.store_core.specs.Act.{Act, Outcome}
use Rattle.store_core.specs.Core.{Core, first_core}
use Rattle.store_core.specs.NextAct.{Job}
use Rattle.store_core.specs.Outcomes.{cause_of, result_of}
use Rattle.store_core.specs.RowLines.{client, repair}
use Rattle.store_core.specs.Run.{places_in}
use Rattle.store_core.specs.Schedule.{run_core}
use Rattle.store_core.specs.Shown.{shown, refused_line, repair_line, lines_of_ended}
use Rattle.store_core.specs.Step.{Shortage, Places, actor_step}
use Rattle.store_core.specs.Sweep.{next_sweep}
use Rattle.store_core.specs.Work.{Work, Calling, client_work, repairer_work, new_calling}
use Rattle.run_laws.specs.ToldInSteps.{AreTold, act_after}
use Rattle.run_laws.proofs.StepOutcomes.{outcomes_in_steps}
use Rattle.run_laws.proofs.Runs.{CanRun}
use Rattle.run_laws.proofs.Scripts.{can_run, replicated}
use Rattle.history_laws.proofs.ActorLines.{each_changed}
use Rattle.history_laws.proofs.AtWork.{AtWork, client_at, repairer_at}
use Rattle.history_laws.proofs.NamedCalls.{inside}
use Rattle.history_laws.proofs.OrderEnds.{EndKnown, client_has, repairer_has}
use Rattle.history_laws.proofs.OrderLists.{all_indexed}
use Rattle.history_laws.proofs.OrderRuns.{end_known}
use Rattle.history_laws.specs.InTimeLaws.{RunsShowCauses}
use Rattle.history_laws.specs.LineCauses.{told_to, caller_of, number_of, job_of_call, WasCaused, LinesAreCaused}
use Rattle.history_laws.specs.Steps.{run_trace}
use Rattle.history_laws.specs.Trace.{Made, call_made, act_made}
use Rattle.history_laws.proofs.CausedCalls.{CauseThen, stays, own_step}
use Rattle.history_laws.proofs.Traced.{KeptByMade, run_traced}

-- ---- in every run
pub record CausesSoFar (script : Script) (trace : List Made) (core : Core) : Type 0 where
  pub clients : (i : ℕ) (c : Calling) → slice_get core.clients i ≡ Some c → (work : Work) → slice_get (client_work script) i ≡ Some work → CauseThen script.geometry (size_of script) (tries_of script) trace (actor.Client i) work.jobs c
  pub repairers : (i : ℕ) (c : Calling) → slice_get core.repairers i ≡ Some c → (work : Work) → slice_get (repairer_work script) i ≡ Some work → CauseThen script.geometry (size_of script) (tries_of script) trace (actor.Repairer i) work.jobs c

module _ (script : Script) (can : CanRun script) where
  abbrev Then : List Made → Actor → List Job → Calling → Type 0
  Then trace who jobs c = CauseThen script.geometry (size_of script) (tries_of script) trace who jobs c

  pub causes_kept : KeptByMade script can (CausesSoFar script)
  causes_kept =
      record {
        client = λ trace core kept has i work calling job is_work is_calling is_job shortages kept_after.
            let at : AtWork script (actor.Client i) job calling (places_in core) = client_at script can core kept i work calling job is_work is_calling is_job in
            let next : Places × Calling = actor_step script.geometry (tries_of script) shortages (actor.Client i) job calling (places_in core) in
            record {
              clients =
                  each_changed (λ j c. (w : Work) → slice_get (client_work script) j ≡ Some w → Then (trace ++ call_made script shortages (actor.Client i) calling (places_in core) job ∷ []) (actor.Client j) w.jobs c) i calling next.1 core.clients is_calling
                  (λ w is.
                  subst (λ (x : Work). Then (trace ++ call_made script shortages (actor.Client i) calling (places_in core) job ∷ []) (actor.Client i) x.jobs next.1) (same_Some work w (sym is_work ∙ is))
                  (own_step script (actor.Client i) work.jobs job calling is_job (places_in core) at shortages trace (has.clients i calling is_calling work is_work)))
                  (λ j differ c e w is.
                  stays script.geometry (size_of script) (tries_of script) trace (call_made script shortages (actor.Client i) calling (places_in core) job) (actor.Client j) w.jobs c (can.clients.apart i j differ) (has.clients j c e w is));
              repairers = λ j c e w is.
                  stays script.geometry (size_of script) (tries_of script) trace (call_made script shortages (actor.Client i) calling (places_in core) job) (actor.Repairer j) w.jobs c refl (has.repairers j c e w is);
            };
        repairer = λ trace core kept has i work calling job is_work is_calling is_job shortages kept_after.
            let at : AtWork script (actor.Repairer i) job calling (places_in core) = repairer_at script can core kept i work calling job is_work is_calling is_job in
            let next : Places × Calling = actor_step script.geometry (tries_of script) shortages (actor.Repairer i) job calling (places_in core) in
            record {
              clients = λ j c e w is.
                  stays script.geometry (size_of script) (tries_of script) trace (call_made script shortages (actor.Repairer i) calling (places_in core) job) (actor.Client j) w.jobs c refl (has.clients j c e w is);
              repairers =
                  each_changed (λ j c. (w : Work) → slice_get (repairer_work script) j ≡ Some w → Then (trace ++ call_made script shortages (actor.Repairer i) calling (places_in core) job ∷ []) (actor.Repairer j) w.jobs c) i calling next.1 core.repairers is_calling
                  (λ w is.
                  subst (λ (x : Work). Then (trace ++ call_made script shortages (actor.Repairer i) calling (places_in core) job ∷ []) (actor.Repairer i) x.jobs next.1) (same_Some work w (sym is_work ∙ is))
                  (own_step script (actor.Repairer i) work.jobs job calling is_job (places_in core) at shortages trace (has.repairers i calling is_calling work is_work)))
                  (λ j differ c e w is.
                  stays script.geometry (size_of script) (tries_of script) trace (call_made script shortages (actor.Repairer i) calling (places_in core) job) (actor.Repairer j) w.jobs c (can.repairers.apart i j differ) (has.repairers j c e w is));
            };
        sweeper = λ trace core kept has.
            record {
              clients = λ j c e w is.
                  stays script.geometry (size_of script) (tries_of script) trace (act_made actor.Sweeper (next_sweep (chunk_count script.geometry) core.sweeper) (places_in core)) (actor.Client j) w.jobs c refl (has.clients j c e w is);
              repairers = λ j c e w is.
                  stays script.geometry (size_of script) (tries_of script) trace (act_made actor.Sweeper (next_sweep (chunk_count script.geometry) core.sweeper) (places_in core)) (actor.Repairer j) w.jobs c refl (has.repairers j c e w is);
            };
        operator = λ trace core kept has a is own.
            record {
              clients = λ j c e w there. stays script.geometry (size_of script) (tries_of script) trace (act_made actor.Operator a (places_in core)) (actor.Client j) w.jobs c refl (has.clients j c e w there);
              repairers = λ j c e w there. stays script.geometry (size_of script) (tries_of script) trace (act_made actor.Operator a (places_in core)) (actor.Repairer j) w.jobs c refl (has.repairers j c e w there);
            };
      }

  fresh : (who : Actor) (jobs : List Job) (c : Calling) → new_calling (chunk_count script.geometry) ≡ c → Then [] who jobs c
  fresh who jobs c e = subst (Then [] who jobs) e (record { in_work = λ job is. record { are_told = tt; kept = refl }; later = λ k high. refl; ended = λ k job x is_job is. absurd (none-some x is) })

  pub first_causes : CausesSoFar script [] (first_core script)
  first_causes =
      record {
        clients = λ i c e work is. fresh (actor.Client i) work.jobs c (replicated (length script.clients) i (new_calling (chunk_count script.geometry)) c e);
        repairers = λ i c e work is. fresh (actor.Repairer i) work.jobs c (replicated (length script.repairers) i (new_calling (chunk_count script.geometry)) c e);
      }

  pub all_causes : (shortages : List Shortage) (tokens : List Token) → CausesSoFar script (run_trace script shortages tokens) (run_core script shortages tokens)
  all_causes shortages tokens = (run_traced script can (CausesSoFar script) causes_kept shortages first_causes tokens).1

-- ---- by lines
module _ (script : Script) (some : 0 < script.geometry.parity_count) (trace : List Made) (call : CallName) (job : Job) (is_call : job_of_call script call ≡ Some job) where
  abbrev EndsSo : Outcome → Type 0
  EndsSo outcome =
      AreTold script.geometry (size_of script) (tries_of script) job (told_to (caller_of call) (number_of call) trace)
      × (act_after script.geometry (tries_of script) job (told_to (caller_of call) (number_of call) trace) ≡ Act.Finish outcome)

  caused : (outcome : Outcome) (Shows : Outcome → Type 0) → EndsSo outcome → Shows outcome → WasCaused script trace call Shows
  caused outcome Shows so shows =
      record {
        job = job;
        is_call = is_call;
        are_told = so.0;
        outcome = outcome;
        ends = so.1;
        shows = shows;
        caused = (outcomes_in_steps script.geometry (size_of script) (tries_of script) job).causes (told_to (caller_of call) (number_of call) trace) outcome some so.0 so.1;
      }

module _ (script : Script) (some : 0 < script.geometry.parity_count) (trace : List Made) where
  abbrev Q : XLine → Type 0
  Q line = WasCaused script trace (name.Client line.call) (λ outcome. cause_of outcome ≡ Some line.cause)

  abbrev R : RLine → Type 0
  R line = WasCaused script trace (name.Repairer line.call) (λ outcome. result_of outcome ≡ Some line.result)

  refused_one : (call : ClientCall) (job : Job) (is_call : job_of_call script (name.Client call) ≡ Some job) (outcome : Outcome) → EndsSo script some trace (name.Client call) job is_call outcome
      → (found : Option Cause) → cause_of outcome ≡ found → All Q (refused_line call found)
  refused_one call job is_call outcome so None e = All-nil Q
  refused_one call job is_call outcome so (Some cause) e =
      All-cons Q (record { call = call; cause = cause }) [] (caused script some trace (name.Client call) job is_call outcome (λ o. cause_of o ≡ Some cause) so e) (All-nil Q)

  repair_one : (call : RepairCall) (job : Job) (is_call : job_of_call script (name.Repairer call) ≡ Some job) (outcome : Outcome) → EndsSo script some trace (name.Repairer call) job is_call outcome
      → (found : Option RepairResult) → result_of outcome ≡ found → All R (repair_line call found)
  repair_one call job is_call outcome so None e = All-nil R
  repair_one call job is_call outcome so (Some result) e =
      All-cons R (record { call = call; result = result }) [] (caused script some trace (name.Repairer call) job is_call outcome (λ o. result_of o ≡ Some result) so e) (All-nil R)

module _ (script : Script) (trace : List Made) (core : Core) (known : EndKnown script core) (some : 0 < script.geometry.parity_count) (has : CausesSoFar script trace core) where
  lines_are_caused : LinesAreCaused script trace (shown script core)
  lines_are_caused =
      record {
        refused =
            all_indexed (λ j. lines_of_ended (λ number ended. refused_line (client j number) (cause_of ended.outcome))) (λ (line : XLine). WasCaused script trace (name.Client line.call) (λ outcome. cause_of outcome ≡ Some line.cause)) core.clients
            (λ i c is_c.
            all_indexed (λ number ended. refused_line (client i number) (cause_of ended.outcome)) (λ (line : XLine). WasCaused script trace (name.Client line.call) (λ outcome. cause_of outcome ≡ Some line.cause)) c.ended
            (λ number e is_e.
            let work : (w : Work) × (slice_get (client_work script) i ≡ Some w) = client_has script core known i c is_c in
            let most : length c.ended ≤ length work.0.jobs = (known.calls.clients i c is_c work.0 work.1).below in
            let low : number < length c.ended = slice_get_within c.ended number e is_e in
            let job : (j : Job) × (slice_get work.0.jobs number ≡ Some j) = inside work.0.jobs number (omega (arith, most, low)) in
            refused_one script some trace (client i number) job.0 (ap (option_and_then (λ (w : Work). slice_get w.jobs number)) work.1 ∙ job.1) e.outcome
            ((has.clients i c is_c work.0 work.1).ended number job.0 e job.1 is_e) (cause_of e.outcome) refl));
        repairs =
            all_indexed (λ j. lines_of_ended (λ number ended. repair_line (repair j number) (result_of ended.outcome))) (λ (line : RLine). WasCaused script trace (name.Repairer line.call) (λ outcome. result_of outcome ≡ Some line.result)) core.repairers
            (λ i c is_c.
            all_indexed (λ number ended. repair_line (repair i number) (result_of ended.outcome)) (λ (line : RLine). WasCaused script trace (name.Repairer line.call) (λ outcome. result_of outcome ≡ Some line.result)) c.ended
            (λ number e is_e.
            let work : (w : Work) × (slice_get (repairer_work script) i ≡ Some w) = repairer_has script core known i c is_c in
            let most : length c.ended ≤ length work.0.jobs = (known.calls.repairers i c is_c work.0 work.1).below in
            let low : number < length c.ended = slice_get_within c.ended number e is_e in
            let job : (j : Job) × (slice_get work.0.jobs number ≡ Some j) = inside work.0.jobs number (omega (arith, most, low)) in
            repair_one script some trace (repair i number) job.0 (ap (option_and_then (λ (w : Work). slice_get w.jobs number)) work.1 ∙ job.1) e.outcome
            ((has.repairers i c is_c work.0 work.1).ended number job.0 e job.1 is_e) (result_of e.outcome) refl));
      }

pub runs_show_causes : RunsShowCauses
runs_show_causes script shortages geometry valid tokens =
    let some : 0 < script.geometry.parity_count = (let two : 2 ≤ script.geometry.parity_count = geometry.limits.parity_chunks.0 in omega (arith, two)) in
    lines_are_caused script (run_trace script shortages tokens) (run_core script shortages tokens) (end_known script geometry valid shortages tokens) some (all_causes script (can_run script geometry valid) shortages tokens)
