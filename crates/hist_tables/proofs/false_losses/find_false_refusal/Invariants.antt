use Rattle.std.proofs.Common.{◌≡◌, drop}
use Rattle.hist_rules.specs.First.{first_fault}
use Rattle.hist_tables.specs.Lines.{refusal_for_loss}
use Rattle.hist_tables.proofs.false_losses.find_false_refusal.Given as goal

abbrev pub invariant-loop-line : goal.invariant-loop-line
invariant-loop-line l = first_fault (refusal_for_loss l.script) (drop l.line-index l.lines) ≡ first_fault (refusal_for_loss l.script) l.lines
