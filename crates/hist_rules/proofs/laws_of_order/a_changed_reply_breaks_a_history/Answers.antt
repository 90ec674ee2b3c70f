use Rattle.hist_rules.proofs.SpoiledLaws.{reply_breaks}
use Rattle.hist_rules.proofs.laws_of_order.a_changed_reply_breaks_a_history.Goals as goal

pub returns : goal.returns
returns c = reply_breaks
