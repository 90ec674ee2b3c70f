use Rattle.clay_cli.proofs.Whole.{threaded_are_well_formed}
use Rattle.clay_cli.proofs.laws_of_forms.threaded_are_well_formed.Goals as goal

pub returns : goal.returns
returns c = threaded_are_well_formed
