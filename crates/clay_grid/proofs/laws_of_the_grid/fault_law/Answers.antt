use Rattle.clay_grid.proofs.LimitLaws.{within_or_fault, fault_outside}
use Rattle.clay_grid.proofs.laws_of_the_grid.fault_law.Goals as goal

pub returns : goal.returns
returns c = record { either = within_or_fault; not_both = fault_outside }
