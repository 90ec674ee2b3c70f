use Rattle.hist_rules.proofs.PairLaws.{orders_pairs}
use Rattle.hist_rules.proofs.laws_of_order.histories_order_all_lines.Goals as goal

pub returns : goal.returns
returns c = orders_pairs
