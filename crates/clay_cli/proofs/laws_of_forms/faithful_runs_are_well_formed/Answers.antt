use Rattle.clay_cli.proofs.Whole.{faithful_runs_are_well_formed}
use Rattle.clay_cli.proofs.laws_of_forms.faithful_runs_are_well_formed.Goals as goal

pub returns : goal.returns
returns c = faithful_runs_are_well_formed
