use Rattle.hist_rules.proofs.LineLaws.{has_each_reply}
use Rattle.hist_rules.proofs.laws_of_order.each_line_has_a_reply.Goals as goal

pub returns : goal.returns
returns c = has_each_reply
