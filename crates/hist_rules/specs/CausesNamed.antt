-- A rebuild's result names its own object, stripe and server.
use Rattle.std.specs.Prelude.{nat_eq, Option, None, option_and_then}
use Rattle.store_map.specs.declared.call.Rebuild.{Rebuild}
use Rattle.store_map.specs.declared.script.Script.{Script}
use Rattle.store_map.specs.declared.call_name.CallName.{CallName}
use Rattle.store_map.specs.declared.call_name.CallName.TheVariants.{Repairer}
use Rattle.store_map.specs.declared.cause.RepairResult.{RepairResult}
use Rattle.store_map.specs.declared.cause.RepairResult.TheVariants as result
use Rattle.store_map.specs.declared.transcript.Transcript.{Transcript}
use Rattle.hist_rules.specs.declared.verdict.Verdict.{Verdict}
use Rattle.hist_rules.specs.declared.verdict.Verdict.TheVariants.{BadCause}
use Rattle.hist_rules.specs.First.{unless, first_fault}
use Rattle.hist_rules.specs.Calls.{rebuild_of}
use Rattle.hist_rules.specs.Counts.{downs}
use Rattle.hist_rules.specs.Named.{is_change_point}
use Rattle.hist_rules.specs.MissingChunk.{is_told_downs}

-- the point of a change of its object, or 1 and 0; its stripe, or that stripe and the one named; downs of its server, or those of the schedule and those told
abbrev pub result_named : Script → Transcript → CallName → RepairResult → Rebuild → Option Verdict
result_named script t call (result.Superseded newer) rebuild = unless (is_change_point script t rebuild.name newer) (BadCause call 1 0)
result_named script t call (result.Unavailable stripe missing) rebuild = unless (nat_eq rebuild.stripe stripe) (BadCause call rebuild.stripe stripe)
result_named script t call (result.Away told) rebuild = unless (is_told_downs script rebuild.server told) (BadCause call (downs script rebuild.server) told)
result_named script t call _ rebuild = None

-- the first result that names others
abbrev pub causes_named : Script → Transcript → Option Verdict
causes_named script t = first_fault (λ line. option_and_then (result_named script t (Repairer line.call) line.result) (rebuild_of script line.call)) t.repairs
