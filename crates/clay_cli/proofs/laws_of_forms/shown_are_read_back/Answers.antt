use Rattle.clay_cli.proofs.Back.{are_read_back, shown_are_read_legal}
use Rattle.clay_cli.proofs.laws_of_forms.shown_are_read_back.Goals as goal

pub returns-clause-back : goal.returns-clause-back
returns-clause-back c = are_read_back

pub returns-clause-legal : goal.returns-clause-legal
returns-clause-legal c = shown_are_read_legal
