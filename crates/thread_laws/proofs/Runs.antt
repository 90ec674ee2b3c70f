-- What a threaded run shows, part by part and as a whole.
use Rattle.std.proofs.Common.{◌≡◌, ℕ, ◌<◌, ◌≤◌, List, filter, sym, ap, subst, ◌∙◌, arith}
use Rattle.clay_grid.specs.Limits.{IsGeometry}
use Rattle.clay_grid.specs.Shape.{chunk_count}
use Rattle.store_map.specs.Naming.{IsValid}
use Rattle.store_map.specs.declared.actor.Token.{Token}
use Rattle.store_map.specs.declared.script.Script.{Script}
use Rattle.store_map.specs.declared.transcript.Transcript.{Transcript}
use Rattle.hist_rules.specs.Finished.{Finished}
use Rattle.store_core.specs.Work.{client_work, repairer_work}
use Rattle.hist_rules.specs.FoundMissing.{FoundMissing}
use Rattle.hist_rules.specs.GivenUpOrLost.{NameOwnResults}
use Rattle.hist_rules.specs.IsHistory.{IsHistory}
use Rattle.store_core.specs.Core.{Core}
use Rattle.store_core.specs.Schedule.{run_core}
use Rattle.store_core.specs.Shown.{shown}
use Rattle.store_core.specs.Step.{Shortage}
use Rattle.run_laws.proofs.Runs.{CanRun}
use Rattle.run_laws.proofs.Scripts.{can_run}
use Rattle.history_laws.specs.HistoryLaws.{HasFewWipes}
use Rattle.history_laws.proofs.Finishing.{ends_finished}
use Rattle.history_laws.proofs.GivenUpLines.{runs_give_up}
use Rattle.history_laws.proofs.OrderEnds.{EndKnown}
use Rattle.history_laws.proofs.OrderRuns.{runs_keep_call_order, end_known}
use Rattle.history_laws.proofs.Replayed.{runs_reply}
use Rattle.history_laws.proofs.LossesServers.{wiped, made_away}
use Rattle.history_laws.proofs.FoundRuns.{AllSure, all_sure}
use Rattle.history_laws.proofs.FoundLines.{found_missing}
use Rattle.history_laws.proofs.OwnRuns.{AllOwn, all_own}
use Rattle.history_laws.proofs.OwnLines.{named_losses}
use Rattle.history_laws.proofs.RaceLines.{runs_lose_races, runs_name_changes}
use Rattle.history_laws.proofs.ColumnRuns.{runs_add_up}
use Rattle.history_laws.specs.Faithful.{IsFaithful}
use Rattle.history_laws.proofs.Shows.{all_names}
use Rattle.history_laws.proofs.Ample.{ample_runs_are_one}
use Rattle.history_laws.proofs.Plays.{runs_are_faithful}
use Rattle.thread_laws.specs.Threaded.{IsThreadedRun, is_line, lines_of}
use Rattle.thread_laws.proofs.Showing.{shows_core}
use Rattle.thread_laws.specs.Ended.{HaveEnded}
use Rattle.thread_laws.specs.Run.{core_of, steps_of}
use Rattle.thread_laws.specs.RunLaws.{ThreadedRunsAreRuns, StepsShowRuns}
use Rattle.thread_laws.proofs.Lines.{same_wipes, same_downs, few_in_lines}
use Rattle.thread_laws.proofs.Carried.{order_carried, replies_carried, races_carried, changes_carried, given_up_carried, takes_carried}
use Rattle.thread_laws.proofs.Endings.{none_of_all}

-- ---- by whatever tokens that have the script's lines
module _ (script : Script) (geometry : IsGeometry script.geometry) (valid : IsValid script) (shortages : List Shortage) (tokens : List Token) (lines : filter is_line tokens ≡ lines_of script) where
  abbrev core : Core
  core = run_core script shortages tokens

  abbrev t : Transcript
  t = shown script (run_core script shortages tokens)

  few : HasFewWipes tokens
  few = few_in_lines script tokens lines valid

  can : CanRun script
  can = can_run script geometry valid

  chunks : 0 < chunk_count script.geometry
  chunks = let two : 2 ≤ script.geometry.data_count = geometry.limits.data_chunks in omega (arith, two)

  parity : 0 < script.geometry.parity_count
  parity = let two : 2 ≤ script.geometry.parity_count = geometry.limits.parity_chunks.0 in omega (arith, two)

  wipes_are : wiped tokens ≡ wiped script.schedule
  wipes_are = λ i server. same_wipes script tokens lines server i

  downs_are : made_away tokens ≡ made_away script.schedule
  downs_are = λ i server. same_downs script tokens lines server i

  known : EndKnown script core
  known = end_known script geometry valid shortages tokens

  missing : FoundMissing script t
  missing =
      found_missing script geometry valid core known
      (subst (λ (most : ℕ → ℕ). AllSure most (made_away script.schedule) script core) wipes_are
      (subst (λ (downs : ℕ → ℕ). AllSure (wiped tokens) downs script core) downs_are (all_sure script can chunks parity tokens few shortages)))

  results : NameOwnResults script t
  results =
      all_names script t t.repairs (changes_carried script tokens t (runs_name_changes script shortages geometry valid tokens few))
      (named_losses script core known
      (subst (λ (most : ℕ → ℕ). AllOwn most (made_away script.schedule) script core) wipes_are
      (subst (λ (downs : ℕ → ℕ). AllOwn (wiped tokens) downs script core) downs_are (all_own script can chunks parity tokens few shortages))))

  pub history : IsHistory script t
  history =
      record {
        order = order_carried script tokens t (runs_keep_call_order script shortages geometry valid tokens few);
        replies = replies_carried script tokens t (runs_reply script shortages geometry valid tokens few);
        missing = missing;
        given_up = given_up_carried script tokens lines t (runs_give_up script shortages geometry valid tokens few);
        races = races_carried script tokens t (runs_lose_races script shortages geometry valid tokens few);
        results = results;
        takes = takes_carried script tokens lines t (runs_add_up script shortages geometry valid tokens few);
      }

-- ---- the whole
pub threaded_runs_are_runs : ThreadedRunsAreRuns
threaded_runs_are_runs script t geometry valid run ended =
    record {
      run = run;
      ample = λ all. run.shows ∙ ap (shown script) (ample_runs_are_one script run.shortages all run.tokens);
      faithful =
          subst (IsFaithful script (steps_of script t run)) back
          (runs_are_faithful script run.shortages geometry valid run.tokens (history script geometry valid run.shortages run.tokens run.lines));
      finished =
          subst (Finished script) back
          (ends_finished script (core_of script t run) (end_known script geometry valid run.shortages run.tokens)
          (none_of_all (client_work script) (core_of script t run).clients ended.clients)
          (none_of_all (repairer_work script) (core_of script t run).repairers ended.repairers));
    }
  where
    back : shown script (run_core script run.shortages run.tokens) ≡ t
    back = sym run.shows

pub steps_show_runs : StepsShowRuns
steps_show_runs script h end geometry valid ran =
    let both : (run : IsThreadedRun script (shown script end)) × (end ≡ run_core script run.shortages run.tokens) = shows_core script h ran.twice ran.go ran.lines end ran.ends in
    threaded_runs_are_runs script (shown script end) geometry valid both.0 (subst (HaveEnded script) both.1 ran.ended)
