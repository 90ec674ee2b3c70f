use Rattle.clay_cli.proofs.GeneratedLaws.{generated_are_scripts}
use Rattle.clay_cli.proofs.laws_of_commands.generated_scripts_are_scripts.Goals as goal

pub returns : goal.returns
returns c = generated_are_scripts
