-- Calls that nothing hindered are answered, and what a run shows as a whole.
use Rattle.std.proofs.Common.{◌≡◌, ◌⊎◌, inl, inr, ℕ, List, [], ◌∷◌, Some, refl, sym, ap, subst, arith}
use Rattle.std.proofs.lemmas.List.Elements.{All-head}
use Rattle.std.specs.List.{slice_get}
use Rattle.clay_grid.specs.Limits.{IsGeometry}
use Rattle.store_map.specs.Naming.{IsValid}
use Rattle.store_map.specs.declared.actor.Token.{Token}
use Rattle.store_map.specs.declared.script.Script.{Script}
use Rattle.store_map.specs.declared.call_name.ClientCall.{ClientCall}
use Rattle.store_map.specs.declared.call_name.CallName.{CallName}
use Rattle.store_map.specs.declared.call_name.CallName.TheVariants as name
use Rattle.store_map.specs.declared.transcript.Transcript.{Transcript}
use Rattle.hist_rules.specs.Finished.{Finished}
use Rattle.hist_rules.specs.IsHistory.{IsHistory}
use Rattle.hist_rules.proofs.HistoryLaw.{legal_is_history}
use Rattle.store_core.specs.NextAct.{Job}
use Rattle.store_core.specs.Schedule.{run_core}
use Rattle.store_core.specs.Shown.{shown}
use Rattle.store_core.specs.Step.{Shortage}
use Rattle.store_core.specs.Work.{Work, client_work, repairer_work}
use Rattle.run_laws.specs.StepLaws.{HasTarget}
use Rattle.run_laws.proofs.Runs.{CanRun}
use Rattle.run_laws.proofs.Scripts.{can_run}
use Rattle.history_laws.proofs.Finishing.{runs_finish}
use Rattle.history_laws.specs.LineCauses.{job_of_call, LinesAreCaused}
use Rattle.history_laws.specs.LossesInTime.{HasLossesInTime}
use Rattle.history_laws.specs.Steps.{run_trace}
use Rattle.history_laws.specs.Trace.{Made}
use Rattle.history_laws.proofs.CausedLines.{runs_show_causes}
use Rattle.history_laws.proofs.LossLines.{runs_have_losses_in_time}
use Rattle.history_laws.proofs.PointLines.{runs_have_points_in_time}
use Rattle.history_laws.proofs.Shows.{runs_show_histories}
use Rattle.history_laws.specs.Answered.{IsAnswered, IsRefused, TellsEnds}
use Rattle.history_laws.specs.Faithful.{IsFaithful}
use Rattle.history_laws.specs.Unhindered.{SkipsChunk, AtMost}
use Rattle.history_laws.specs.PlayedLaws.{RunsAnswer, RunsArePlayed}
use Rattle.history_laws.proofs.Ample.{ample_runs_are_one}
use Rattle.history_laws.proofs.Overs.{job_there, runs_tell_ends, enough_steps_end_calls}
use Rattle.history_laws.proofs.Acts.{runs_step_next}
use Rattle.history_laws.proofs.TakesOfRuns.{runs_take_least}
use Rattle.history_laws.proofs.TargetsAway.{target_told}
use Rattle.history_laws.proofs.NeverPrepares.{never_skips}
use Rattle.history_laws.proofs.Refusals.{not_refused, is_done}

answered : (t : Transcript) (call : ClientCall) → (IsRefused t call → ⊥) → IsAnswered t call ⊎ IsRefused t call → IsAnswered t call × (IsRefused t call → ⊥)
answered t call never (inl has) = (has, never)
answered t call never (inr refused) = absurd (never refused)

-- a rebuild of the script has a target that there is
targets : (script : Script) → CanRun script → (call : CallName) (job : Job) → job_of_call script call ≡ Some job → HasTarget script.geometry job
targets script can (name.Client call) job is =
    let there : (work : Work) × (slice_get (client_work script) call.client ≡ Some work) × (slice_get work.jobs call.number ≡ Some job) = job_there (client_work script) call.client call.number job is in
    can.clients.targets call.client there.0 there.1 call.number job there.2
targets script can (name.Repairer call) job is =
    let there : (work : Work) × (slice_get (repairer_work script) call.repairer ≡ Some work) × (slice_get work.jobs call.number ≡ Some job) = job_there (repairer_work script) call.repairer call.number job is in
    can.repairers.targets call.repairer there.0 there.1 call.number job there.2

-- what holds of no server holds of few
none_at_all : (most : ℕ) (Is : ℕ → Type 0) → ((server : ℕ) → Is server → ⊥) → AtMost most Is
none_at_all most Is never [] differ all = omega arith
none_at_all most Is never (server ∷ servers) differ all = absurd (never server (All-head Is server servers all))

pub runs_answer : RunsAnswer
runs_answer script shortages geometry valid tokens =
    let t : Transcript = shown script (run_core script shortages tokens) in
    let trace : List Made = run_trace script shortages tokens in
    let ends : TellsEnds script trace t = runs_tell_ends script shortages geometry valid tokens in
    let losses : HasLossesInTime trace t = runs_have_losses_in_time script shortages geometry valid tokens in
    let causes : LinesAreCaused script trace t = runs_show_causes script shortages geometry valid tokens in
    record {
      clients = λ call over free tries.
          answered t call (not_refused script trace t (targets script (can_run script geometry valid)) losses causes call free tries) (ends.clients call over);
      repairers = λ call over free place.
          is_done script trace t (targets script (can_run script geometry valid)) losses causes call free place
          (target_told script trace (runs_step_next script shortages geometry valid tokens) call)
          (λ job is version. none_at_all script.geometry.parity_count (SkipsChunk trace (name.Repairer call) version) (never_skips script trace (runs_step_next script shortages geometry valid tokens) call job is (targets script (can_run script geometry valid) (name.Repairer call) job is) version)) (ends.repairers call over);
    }

-- what a run by any tokens shows is faithful to its steps, where it is a history
pub runs_are_faithful : (script : Script) (shortages : List Shortage) → IsGeometry script.geometry → IsValid script → (tokens : List Token) → IsHistory script (shown script (run_core script shortages tokens))
    → IsFaithful script (run_trace script shortages tokens) (shown script (run_core script shortages tokens))
runs_are_faithful script shortages geometry valid tokens history =
    record {
      history = history;
      legal = (legal_is_history script (shown script (run_core script shortages tokens))).1 history;
      points = runs_have_points_in_time script shortages geometry valid tokens;
      losses = runs_have_losses_in_time script shortages geometry valid tokens;
      causes = runs_show_causes script shortages geometry valid tokens;
      ends = runs_tell_ends script shortages geometry valid tokens;
      enough = enough_steps_end_calls script shortages geometry valid tokens;
      answers = runs_answer script shortages geometry valid tokens;
      takes = runs_take_least script shortages geometry valid tokens;
    }

pub runs_are_played : RunsArePlayed
runs_are_played script shortages geometry valid =
    record {
      shortages = shortages;
      shows = refl;
      ample = λ all. ap (shown script) (ample_runs_are_one script shortages all script.schedule);
      faithful = runs_are_faithful script shortages geometry valid script.schedule (runs_show_histories script shortages geometry valid);
      finished = λ tokens is.
          subst (λ schedule. Finished (record script { schedule = schedule }) (shown script (run_core script shortages schedule))) (sym is) (runs_finish script shortages geometry valid tokens);
    }
