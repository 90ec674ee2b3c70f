-- Worked calls that lack one thing alone that the law of answers asks for.
use Rattle.std.specs.Prelude.{◌≡◌, true, List, [], Contains}
use Rattle.store_map.specs.declared.call_name.ClientCall.{ClientCall}
use Rattle.store_map.specs.declared.call_name.RepairCall.{RepairCall}
use Rattle.store_map.specs.declared.call_name.CallName.{CallName}
use Rattle.store_map.specs.declared.call_name.CallName.TheVariants.{Client}
use Rattle.store_map.specs.declared.transcript.Transcript.{Transcript}
use Rattle.store_core.specs.Shown.{shown_of}
use Rattle.store_core.specs.Step.{Shortage}
use Rattle.store_core.specs.Rows.{Row}
use Rattle.history_laws.specs.Steps.{run_trace}
use Rattle.history_laws.specs.Answered.{HasResult, IsDone}
use Rattle.history_laws.specs.Facts.{Facts, facts_of}

-- a row's run with these shortages says so of the call that is so named, and shows it so
pub record WasHindered {Call : Type 0} (row : Row) (shortages : List Shortage) (named : Call → CallName) (call : Call) (facts : Facts) (IsShown : Transcript → Call → Type 0) : Type 0 where
  pub known : facts_of row.script (run_trace row.script shortages row.script.schedule) (named call) ≡ facts
  pub shows : shown_of row.script shortages ≡ row.transcript
  pub told : IsShown row.transcript call

-- a call that was unhindered but for what is said
abbrev pub nothing : Facts
nothing = record { over = true; ample = true; kept = true; lacking = []; skipped = []; changes = 0; found = true; current = true; reached = true }

-- it is listed as a call without a reply, a refusal or a result
abbrev pub IsLeft : Transcript → ClientCall → Type 0
IsLeft t call = Contains t.unanswered (record { call = Client call })

-- a rebuild ends without its chunk at its target
abbrev pub IsUnmade : Transcript → RepairCall → Type 0
IsUnmade t call = HasResult (λ what. ¬ IsDone what) t call
