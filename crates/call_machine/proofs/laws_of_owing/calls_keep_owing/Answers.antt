use Rattle.call_machine.proofs.Owing.{calls_keep_owing}
use Rattle.call_machine.proofs.laws_of_owing.calls_keep_owing.Goals as goal

pub returns : goal.returns
returns c = calls_keep_owing
