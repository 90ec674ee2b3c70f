use Rattle.read_ledger.proofs.Adding.{are_sums}
use Rattle.read_ledger.proofs.laws_of_sums.takes_are_sums.Goals as goal

pub returns : goal.returns
returns c = are_sums
