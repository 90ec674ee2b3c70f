-- What a run shows is a history: its parts together.
use Rattle.std.proofs.Common.{List, [], ◌∷◌, Option, None, Some, IfSome, All}
use Rattle.std.proofs.lemmas.List.Elements.{All-nil, All-cons, All-head, All-tail}
use Rattle.store_map.specs.declared.call.Rebuild.{Rebuild}
use Rattle.store_map.specs.declared.script.Script.{Script}
use Rattle.store_map.specs.declared.cause.RepairResult.{RepairResult}
use Rattle.store_map.specs.declared.cause.RepairResult.TheVariants as result
use Rattle.store_map.specs.declared.line.RLine.{RLine}
use Rattle.store_map.specs.declared.transcript.Transcript.{Transcript}
use Rattle.hist_rules.specs.Calls.{rebuild_of}
use Rattle.hist_rules.proofs.HistoryLaw.{legal_is_history}
use Rattle.hist_rules.specs.GivenUpOrLost.{NamesOwn}
use Rattle.store_core.specs.Shown.{shown_of}
use Rattle.history_laws.specs.HistoryLaws.{HasFewWipes}
use Rattle.history_laws.proofs.FewWipes.{few_wipes}
use Rattle.history_laws.proofs.GivenUpLines.{runs_give_up}
use Rattle.history_laws.proofs.OrderRuns.{runs_keep_call_order}
use Rattle.history_laws.proofs.Replayed.{runs_reply}
use Rattle.history_laws.specs.OwnResults.{NamesLoss}
use Rattle.history_laws.proofs.FoundLines.{runs_find_missing}
use Rattle.history_laws.proofs.OwnLines.{runs_name_losses}
use Rattle.history_laws.specs.RaceLaws.{NamesChange}
use Rattle.history_laws.proofs.RaceLines.{runs_lose_races, runs_name_changes}
use Rattle.history_laws.proofs.ColumnRuns.{runs_add_up}
use Rattle.history_laws.specs.ShowsLaws.{RunsShowHistories, RunsAreLegal}

module _ (script : Script) (t : Transcript) where
  -- a rebuild's result names its own change, or its own loss
  names_own : (what : RepairResult) (rebuild : Rebuild) → NamesChange script t what rebuild → NamesLoss script what rebuild → NamesOwn script t what rebuild
  names_own (result.Superseded newer) rebuild change loss = change
  names_own (result.Unavailable stripe missing) rebuild change loss = loss
  names_own (result.Away told) rebuild change loss = loss
  names_own result.Rebuilt rebuild change loss = tt
  names_own result.Here rebuild change loss = tt
  names_own result.NoSuch rebuild change loss = tt
  names_own (result.Reaped point) rebuild change loss = tt
  names_own result.NoMemory rebuild change loss = tt

  line_names : (found : Option Rebuild) (what : RepairResult) → IfSome found (NamesChange script t what) → IfSome found (NamesLoss script what) → IfSome found (NamesOwn script t what)
  line_names None what change loss = tt
  line_names (Some rebuild) what change loss = names_own what rebuild change loss

  abbrev pub OfChange : RLine → Type 0
  OfChange line = IfSome (rebuild_of script line.call) (NamesChange script t line.result)

  abbrev pub OfLoss : RLine → Type 0
  OfLoss line = IfSome (rebuild_of script line.call) (NamesLoss script line.result)

  abbrev pub OfOwn : RLine → Type 0
  OfOwn line = IfSome (rebuild_of script line.call) (NamesOwn script t line.result)

  pub all_names : (lines : List RLine) → All OfChange lines → All OfLoss lines → All OfOwn lines
  all_names [] change loss = All-nil OfOwn
  all_names (line ∷ lines) change loss =
      All-cons OfOwn line lines (line_names (rebuild_of script line.call) line.result (All-head OfChange line lines change) (All-head OfLoss line lines loss))
      (all_names lines (All-tail OfChange line lines change) (All-tail OfLoss line lines loss))

pub runs_show_histories : RunsShowHistories
runs_show_histories script shortages geometry valid =
    let few : HasFewWipes script.schedule = few_wipes script valid in
    record {
      order = runs_keep_call_order script shortages geometry valid script.schedule few;
      replies = runs_reply script shortages geometry valid script.schedule few;
      missing = runs_find_missing script shortages geometry valid;
      given_up = runs_give_up script shortages geometry valid script.schedule few;
      races = runs_lose_races script shortages geometry valid script.schedule few;
      results = all_names script (shown_of script shortages) (shown_of script shortages).repairs (runs_name_changes script shortages geometry valid script.schedule few) (runs_name_losses script shortages geometry valid);
      takes = runs_add_up script shortages geometry valid script.schedule few;
    }

pub runs_are_legal : RunsAreLegal
runs_are_legal script shortages geometry valid = (legal_is_history script (shown_of script shortages)).1 (runs_show_histories script shortages geometry valid)
