use Rattle.std.proofs.Common.{◌≡◌, drop}
use Rattle.store_map.specs.declared.transcript.Transcript.{Transcript}
use Rattle.hist_rules.specs.First.{first_fault}
use Rattle.hist_rules.specs.Named.{listed_calls}
use Rattle.hist_rules.specs.TakesHaveCalls.{has_call}
use Rattle.hist_tables.specs.Tables.{IsSetOf}
use Rattle.hist_check.proofs.unlisted.find_missing.Given as goal

abbrev pub invariant-loop-line : goal.invariant-loop-line
invariant-loop-line l =
    (t : Transcript) → IsSetOf l.listed (listed_calls t)
    → first_fault (λ line. has_call t line.call) (drop l.line-index l.lines) ≡ first_fault (λ line. has_call t line.call) l.lines
