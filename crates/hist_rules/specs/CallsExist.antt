-- Each call that a line names is a call of the script.
use Rattle.std.specs.Prelude.{nat_lt, ◌++◌, map, Option}
use Rattle.store_map.specs.declared.script.Script.{Script}
use Rattle.store_map.specs.declared.call_name.CallName.{CallName}
use Rattle.store_map.specs.declared.transcript.Transcript.{Transcript}
use Rattle.hist_rules.specs.declared.verdict.Verdict.{Verdict}
use Rattle.hist_rules.specs.declared.verdict.Verdict.TheVariants.{Misplaced}
use Rattle.hist_rules.specs.First.{unless, first_fault}
use Rattle.hist_rules.specs.Calls.{number_of, calls_of}
use Rattle.hist_rules.specs.Named.{listed_calls}

-- the actor has so many calls; the fault tells how many, and the number named
abbrev pub call_exists : Script → CallName → Option Verdict
call_exists script call = unless (nat_lt (number_of call) (calls_of script call)) (Misplaced call (calls_of script call) (number_of call))

-- the first line whose call isn't there
abbrev pub calls_exist : Script → Transcript → Option Verdict
calls_exist script t = first_fault (call_exists script) (listed_calls t ++ map (λ line. line.call) t.takes)
