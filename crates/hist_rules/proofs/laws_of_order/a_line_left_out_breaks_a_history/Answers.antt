use Rattle.hist_rules.proofs.SpoiledLaws.{answer_breaks, outcome_breaks}
use Rattle.hist_rules.proofs.laws_of_order.a_line_left_out_breaks_a_history.Goals as goal

pub returns-clause-answer : goal.returns-clause-answer
returns-clause-answer c = answer_breaks

pub returns-clause-outcome : goal.returns-clause-outcome
returns-clause-outcome c = outcome_breaks
