use Rattle.hist_rules.proofs.SpoiledLaws.{objects_break, takes_break}
use Rattle.hist_rules.proofs.laws_of_order.changed_ends_break_a_history.Goals as goal

pub returns-clause-objects : goal.returns-clause-objects
returns-clause-objects c = objects_break

pub returns-clause-takes : goal.returns-clause-takes
returns-clause-takes c = takes_break
