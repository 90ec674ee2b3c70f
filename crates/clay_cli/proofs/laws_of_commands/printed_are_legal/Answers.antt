use Rattle.clay_cli.proofs.Printed.{played_are_legal, run_are_legal}
use Rattle.clay_cli.proofs.laws_of_commands.printed_are_legal.Goals as goal

pub returns-clause-play : goal.returns-clause-play
returns-clause-play c = played_are_legal

pub returns-clause-run : goal.returns-clause-run
returns-clause-run c = run_are_legal
