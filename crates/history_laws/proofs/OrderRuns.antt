-- What a run shows keeps the order of calls.
use Rattle.std.proofs.Common.{List}
use Rattle.store_map.specs.declared.actor.Token.{Token}
use Rattle.clay_grid.specs.Limits.{IsGeometry}
use Rattle.store_map.specs.Naming.{IsValid}
use Rattle.store_map.specs.declared.script.Script.{Script}
use Rattle.store_core.specs.Core.{Core}
use Rattle.store_core.specs.Schedule.{run_core}
use Rattle.store_core.specs.Step.{Shortage}
use Rattle.run_laws.proofs.Runs.{CanRun}
use Rattle.run_laws.proofs.RunsSound.{RunKeeps}
use Rattle.run_laws.proofs.Scripts.{can_run}
use Rattle.run_laws.proofs.ToldRuns.{calls_are_told}
use Rattle.history_laws.specs.HistoryLaws.{RunsKeepCallOrder}
use Rattle.history_laws.proofs.AnsweredPoints.{answers_have_points}
use Rattle.history_laws.proofs.HistoryOrder.{lines_in_order, lines_rise}
use Rattle.history_laws.proofs.Induction.{run_has}
use Rattle.history_laws.proofs.NamedCalls.{AllCalls, calls_kept, first_calls}
use Rattle.history_laws.proofs.NamedLines.{all_named}
use Rattle.history_laws.proofs.OrderCalls.{answered, effects, unanswered, takes}
use Rattle.history_laws.proofs.OrderEnds.{EndKnown}
use Rattle.history_laws.proofs.OrderPoints.{ClientsFit, fits_kept, fits_first}
use Rattle.history_laws.proofs.PointsOfCalls.{PointsOfScript, points_kept, no_points}

-- what is known of the core at a run's end
pub end_known : (script : Script) → IsGeometry script.geometry → IsValid script → (shortages : List Shortage) (tokens : List Token) → EndKnown script (run_core script shortages tokens)
end_known script geometry valid shortages tokens =
    let can : CanRun script = can_run script geometry valid in
    let core : Core = run_core script shortages tokens in
    let fits : RunKeeps script core × ClientsFit script tokens core = run_has script can (ClientsFit script) (fits_kept script can) shortages (fits_first script can) tokens in
    let points : RunKeeps script core × PointsOfScript script tokens core = run_has script can (PointsOfScript script) (points_kept script can) shortages (no_points script can) tokens in
    let calls : RunKeeps script core × AllCalls script tokens core = run_has script can (AllCalls script) (calls_kept script can) shortages (first_calls script can) tokens in
    record {
      can = can;
      kept = fits.0;
      fits = fits.1;
      points = points.1;
      has_points = answers_have_points script shortages geometry valid tokens;
      told = calls_are_told script shortages geometry valid tokens;
      calls = record { clients = calls.1.clients; repairers = calls.1.repairers };
      order = lines_in_order script can shortages tokens;
    }

pub runs_keep_call_order : RunsKeepCallOrder
runs_keep_call_order script shortages geometry valid tokens few =
    let can : CanRun script = can_run script geometry valid in
    let core : Core = run_core script shortages tokens in
    let known : EndKnown script core = end_known script geometry valid shortages tokens in
    record {
      there = all_named script can shortages tokens;
      rising = lines_rise script can shortages tokens;
      answered = answered script core known;
      effects = effects script core known;
      unanswered = unanswered script core known;
      takes = takes script core known;
    }
