-- What a run shows has its points in time.
use Rattle.std.proofs.Common.{◌≡◌, ℕ, ◌<◌, ◌≤◌, List, [], ◌∷◌, All, Some, refl, ◌∙◌, arith}
use Rattle.std.proofs.lemmas.List.Elements.{All-nil, All-cons, All-head, All-tail}
use Rattle.std.specs.List.{slice_get}
use Rattle.store_map.specs.declared.actor.Actor.{Actor}
use Rattle.store_map.specs.declared.actor.Actor.TheVariants as actor
use Rattle.store_map.specs.declared.script.Script.{Script}
use Rattle.store_map.specs.declared.call_name.ClientCall.{ClientCall}
use Rattle.store_map.specs.declared.call_name.RepairCall.{RepairCall}
use Rattle.store_map.specs.declared.call_name.CallName.{CallName}
use Rattle.store_map.specs.declared.call_name.CallName.TheVariants as name
use Rattle.store_map.specs.declared.line.XLine.{XLine}
use Rattle.store_map.specs.declared.line.RLine.{RLine}
use Rattle.store_core.specs.Act.{Outcome}
use Rattle.store_core.specs.Core.{Core}
use Rattle.store_core.specs.Outcomes.{cause_of, result_of}
use Rattle.store_core.specs.PlaceLaws.{new_point}
use Rattle.store_core.specs.RowLines.{client, repair}
use Rattle.store_core.specs.Schedule.{run_core}
use Rattle.store_core.specs.Shown.{shown, refused_line, repair_line, lines_of_ended}
use Rattle.store_core.specs.Work.{Work, client_work, repairer_work}
use Rattle.run_laws.proofs.Scripts.{can_run}
use Rattle.history_laws.proofs.OrderEnds.{EndKnown, client_has, repairer_has}
use Rattle.history_laws.proofs.OrderLists.{all_indexed}
use Rattle.history_laws.proofs.OrderRuns.{end_known}
use Rattle.history_laws.specs.Trace.{Made}
use Rattle.history_laws.specs.Moments.{Happened, name_of, IsOf}
use Rattle.history_laws.specs.PointsInTime.{ComesWithin, AnyStep, ReapsIts, NamesPoints, ResultNamesPoints, HasPointsInTime}
use Rattle.history_laws.specs.InTimeLaws.{RunsHavePointsInTime}
use Rattle.history_laws.specs.Steps.{run_trace}
use Rattle.history_laws.proofs.Callers.{ComesOwn, LostOwn, EndedThen}
use Rattle.history_laws.proofs.Past.{weaker}
use Rattle.history_laws.proofs.PointRuns.{PointsSoFar, all_points}
use Rattle.history_laws.proofs.Timely.{keeps_time}
use Rattle.history_laws.proofs.Within.{Own, Comes, PointWithin, ReapOf}

-- ---- by the call's name
module _ (trace : List Made) (who : Actor) (number : ℕ) (call : CallName) (named : name_of who number ≡ Some call) where
  is_of : (made : Made) → Own who number made → IsOf call made
  is_of made own = (λ i. name_of (own.0 i) (own.1 i)) ∙ named

  comes : (By Less : Made → Type 0) → ((made : Made) → By made → Less made) → (point : ℕ) → ComesOwn trace who number By point → ComesWithin trace call Less point
  comes By Less less point h =
      weaker (λ before made. Own who number made × PointWithin before who number By point)
      (λ before made. IsOf call made × Happened before (λ early m. (new_point m.answer ≡ Some point) × Less m × Happened early (λ _ first. IsOf call first)))
      (λ before made k. (
        is_of made k.0,
        weaker (Comes who number By point) (λ early m. (new_point m.answer ≡ Some point) × Less m × Happened early (λ _ first. IsOf call first))
            (λ early m c. (c.0, less m c.1, weaker (λ _ first. Own who number first) (λ _ first. IsOf call first) (λ _ first own. is_of first own) early c.2)) before k.1,
      ))
      trace h

  reaps_its : (made : Made) → ReapOf who made → ReapsIts call made
  reaps_its made is = (who, number, is, named)

  pairs_come : (pairs : List (ℕ × ℕ)) → All (LostOwn trace who number) pairs → All (λ (pair : ℕ × ℕ). ComesWithin trace call AnyStep pair.1) pairs
  pairs_come [] h = All-nil (λ (pair : ℕ × ℕ). ComesWithin trace call AnyStep pair.1)
  pairs_come (pair ∷ pairs) h =
      All-cons (λ (p : ℕ × ℕ). ComesWithin trace call AnyStep p.1) pair pairs (comes AnyStep AnyStep (λ made k. k) pair.1 (All-head (LostOwn trace who number) pair pairs h))
      (pairs_come pairs (All-tail (LostOwn trace who number) pair pairs h))

-- ---- one line
module _ (trace : List Made) where
  abbrev Q : XLine → Type 0
  Q line = NamesPoints trace (name.Client line.call) line.cause

  refused_one : (call : ClientCall) (outcome : Outcome) → EndedThen trace (actor.Client call.client) call.number outcome → All Q (refused_line call (cause_of outcome))
  refused_one call (Outcome.Contended pairs) h = All-cons Q _ [] (pairs_come trace (actor.Client call.client) call.number (name.Client call) refl pairs h) (All-nil Q)
  refused_one call (Outcome.Reaped point) h = All-cons Q _ [] (comes trace (actor.Client call.client) call.number (name.Client call) refl (ReapOf (actor.Client call.client)) (ReapsIts (name.Client call)) (reaps_its trace (actor.Client call.client) call.number (name.Client call) refl) point h) (All-nil Q)
  refused_one call (Outcome.Unavailable stripe missing) h = All-cons Q _ [] tt (All-nil Q)
  refused_one call Outcome.NoMemory h = All-cons Q _ [] tt (All-nil Q)
  refused_one call outcome h = All-nil Q

  abbrev R : RLine → Type 0
  R line = ResultNamesPoints trace (name.Repairer line.call) line.result

  repair_one : (call : RepairCall) (outcome : Outcome) → EndedThen trace (actor.Repairer call.repairer) call.number outcome → All R (repair_line call (result_of outcome))
  repair_one call (Outcome.Superseded newer) h = All-cons R _ [] (comes trace (actor.Repairer call.repairer) call.number (name.Repairer call) refl AnyStep AnyStep (λ made k. k) newer h) (All-nil R)
  repair_one call (Outcome.Reaped point) h = All-cons R _ [] (comes trace (actor.Repairer call.repairer) call.number (name.Repairer call) refl (ReapOf (actor.Repairer call.repairer)) (ReapsIts (name.Repairer call)) (reaps_its trace (actor.Repairer call.repairer) call.number (name.Repairer call) refl) point h) (All-nil R)
  repair_one call (Outcome.Unavailable stripe missing) h = All-cons R _ [] tt (All-nil R)
  repair_one call (Outcome.Away downs) h = All-cons R _ [] tt (All-nil R)
  repair_one call Outcome.Rebuilt h = All-cons R _ [] tt (All-nil R)
  repair_one call Outcome.Here h = All-cons R _ [] tt (All-nil R)
  repair_one call Outcome.NoSuch h = All-cons R _ [] tt (All-nil R)
  repair_one call Outcome.NoMemory h = All-cons R _ [] tt (All-nil R)
  repair_one call outcome h = All-nil R

-- ---- all lines
module _ (script : Script) (trace : List Made) (core : Core) (known : EndKnown script core) (has : PointsSoFar script trace core) where
  lines_in_time : HasPointsInTime trace (shown script core)
  lines_in_time =
      record {
        order = keeps_time script trace core has.points;
        refused =
            all_indexed (λ j. lines_of_ended (λ number ended. refused_line (client j number) (cause_of ended.outcome))) (λ (line : XLine). NamesPoints trace (name.Client line.call) line.cause) core.clients
            (λ i c is_c.
            all_indexed (λ number ended. refused_line (client i number) (cause_of ended.outcome)) (λ (line : XLine). NamesPoints trace (name.Client line.call) line.cause) c.ended
            (λ number e is_e.
            let work : (w : Work) × (slice_get (client_work script) i ≡ Some w) = client_has script core known i c is_c in
            refused_one trace (client i number) e.outcome ((has.clients i c is_c work.0 work.1).ended number e is_e)));
        repairs =
            all_indexed (λ j. lines_of_ended (λ number ended. repair_line (repair j number) (result_of ended.outcome))) (λ (line : RLine). ResultNamesPoints trace (name.Repairer line.call) line.result) core.repairers
            (λ i c is_c.
            all_indexed (λ number ended. repair_line (repair i number) (result_of ended.outcome)) (λ (line : RLine). ResultNamesPoints trace (name.Repairer line.call) line.result) c.ended
            (λ number e is_e.
            let work : (w : Work) × (slice_get (repairer_work script) i ≡ Some w) = repairer_has script core known i c is_c in
            repair_one trace (repair i number) e.outcome ((has.repairers i c is_c work.0 work.1).ended number e is_e)));
      }

pub runs_have_points_in_time : RunsHavePointsInTime
runs_have_points_in_time script shortages geometry valid tokens =
    let some : 0 < script.geometry.parity_count = (let two : 2 ≤ script.geometry.parity_count = geometry.limits.parity_chunks.0 in omega (arith, two)) in
    lines_in_time script (run_trace script shortages tokens) (run_core script shortages tokens) (end_known script geometry valid shortages tokens) (all_points script (can_run script geometry valid) some shortages tokens)
