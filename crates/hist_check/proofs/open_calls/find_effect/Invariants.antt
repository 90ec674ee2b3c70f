use Rattle.std.proofs.Common.{◌≡◌, map, drop}
use Rattle.store_map.specs.declared.call_name.CallName.TheVariants.{Client}
use Rattle.store_map.specs.declared.transcript.Transcript.{Transcript}
use Rattle.hist_rules.specs.First.{first_fault}
use Rattle.hist_rules.specs.OneOpenCall.{is_unanswered}
use Rattle.hist_tables.specs.Tables.{IsSetOf}
use Rattle.hist_check.proofs.open_calls.find_effect.Given as goal

abbrev pub invariant-loop-line : goal.invariant-loop-line
invariant-loop-line l =
    (t : Transcript) → IsSetOf l.unanswered (map (λ other. other.call) t.unanswered)
    → first_fault (λ line. is_unanswered l.script t (Client line.call) line.reply) (drop l.line-index l.lines) ≡ first_fault (λ line. is_unanswered l.script t (Client line.call) line.reply) l.lines
