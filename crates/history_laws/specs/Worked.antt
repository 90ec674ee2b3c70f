-- Worked calls that are over and that nothing hindered, and worked calls that took no more than they had to.
use Rattle.std.specs.Prelude.{◌≡◌, ℕ, List, [], Some, Contains}
use Rattle.store_map.specs.declared.call.Call.{Call}
use Rattle.store_map.specs.declared.call_name.ClientCall.{ClientCall}
use Rattle.store_map.specs.declared.call_name.RepairCall.{RepairCall}
use Rattle.store_map.specs.declared.call_name.CallName.TheVariants as name
use Rattle.store_map.specs.declared.cause.RepairResult.TheVariants as result
use Rattle.hist_rules.specs.Calls.{call_of}
use Rattle.store_core.specs.Note.{note_of}
use Rattle.store_core.specs.Rows.{Row, Shows}
use Rattle.history_laws.specs.Steps.{run_trace}
use Rattle.history_laws.specs.Trace.{Made}
use Rattle.history_laws.specs.LeastTakes.{TookLeast, TookRange}
use Rattle.history_laws.specs.TakesOfCalls.{missing_count}
use Rattle.history_laws.specs.Over.{answers_to, IsOver}
use Rattle.history_laws.specs.Takes.{takes_shown}
use Rattle.history_laws.specs.Unhindered.{IsUnhindered, CouldWrite, HasItsPlace}

-- the trace of a row's run
abbrev pub row_trace : Row → List Made
row_trace row = run_trace row.script [] row.script.schedule

-- a client's call that the law answers
pub record IsAnswerable (row : Row) (call : ClientCall) : Type 0 where
  pub over : IsOver row.script (row_trace row) (name.Client call)
  pub free : IsUnhindered row.script (row_trace row) (name.Client call)
  pub writes : CouldWrite row.script (row_trace row) (name.Client call)

-- a rebuild that it answers
pub record IsRebuildable (row : Row) (call : RepairCall) : Type 0 where
  pub over : IsOver row.script (row_trace row) (name.Repairer call)
  pub free : IsUnhindered row.script (row_trace row) (name.Repairer call)
  pub place : HasItsPlace row.script (row_trace row) (name.Repairer call)

-- a rebuild of which the law of takes speaks: what its line tells is as the law says, and these other takes are not
pub record TookOnePart (row : Row) (call : RepairCall) (server : ℕ) (wrong : List ℕ) : Type 0 where
  pub shows : Shows row
  pub rebuilt : Contains row.transcript.repairs (record { call = call; result = result.Rebuilt })
  pub alone : missing_count (answers_to (name.Repairer call) (row_trace row)) ≡ 1
  pub told : TookLeast row.script.geometry server (takes_shown row.transcript (name.Repairer call))
  pub refused : ¬ TookLeast row.script.geometry server wrong

-- a read of which it speaks
pub record TookItsBytes (row : Row) (call : ClientCall) (asked : Call) (wrong : List ℕ) : Type 0 where
  pub shows : Shows row
  pub is_call : call_of row.script call ≡ Some asked
  pub none : missing_count (answers_to (name.Client call) (row_trace row)) ≡ 0
  pub told : TookRange row.script.geometry (note_of asked) (answers_to (name.Client call) (row_trace row)) (takes_shown row.transcript (name.Client call))
  pub refused : ¬ TookRange row.script.geometry (note_of asked) (answers_to (name.Client call) (row_trace row)) wrong
