use Rattle.clay_aloof.proofs.Faults.{within_or_fault, fault_outside}
use Rattle.clay_aloof.proofs.laws_of_aloof_codes.fault_law.Goals as goal

pub returns-clause-either : goal.returns-clause-either
returns-clause-either c = within_or_fault

pub returns-clause-not_both : goal.returns-clause-not_both
returns-clause-not_both c = fault_outside
