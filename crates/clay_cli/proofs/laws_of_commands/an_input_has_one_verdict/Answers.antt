use Rattle.clay_cli.proofs.OneVerdict.{one_verdict}
use Rattle.clay_cli.proofs.laws_of_commands.an_input_has_one_verdict.Goals as goal

pub returns : goal.returns
returns c = one_verdict
