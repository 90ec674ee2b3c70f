-- The rule on lost chunks, line by line.
use Rattle.std.specs.Prelude.{Option}
use Rattle.store_map.specs.declared.call_name.CallName.TheVariants.{Client, Repairer}
use Rattle.store_map.specs.declared.script.Script.{Script}
use Rattle.store_map.specs.declared.line.XLine.{XLine}
use Rattle.store_map.specs.declared.line.RLine.{RLine}
use Rattle.hist_rules.specs.declared.verdict.Verdict.{Verdict}
use Rattle.hist_rules.specs.First.{first_fault}
use Rattle.hist_rules.specs.LostChunks.{missing_of_cause, missing_of_result, chunks_lost}

-- of a client's refusal
abbrev pub refusal_for_loss : Script → XLine → Option Verdict
refusal_for_loss script line = first_fault (chunks_lost script) (missing_of_cause (Client line.call) line.cause)

-- of a rebuild's result
abbrev pub result_for_loss : Script → RLine → Option Verdict
result_for_loss script line = first_fault (chunks_lost script) (missing_of_result (Repairer line.call) line.result)
