use Rattle.hist_rules.proofs.SpoiledLaws.{servers_break, races_break}
use Rattle.hist_rules.proofs.laws_of_order.a_short_refusal_breaks_a_history.Goals as goal

pub returns-clause-servers : goal.returns-clause-servers
returns-clause-servers c = servers_break

pub returns-clause-races : goal.returns-clause-races
returns-clause-races c = races_break
