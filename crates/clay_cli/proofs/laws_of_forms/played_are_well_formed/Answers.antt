use Rattle.clay_cli.proofs.Whole.{played_are_well_formed, runs_are_well_formed}
use Rattle.clay_cli.proofs.laws_of_forms.played_are_well_formed.Goals as goal

pub returns-clause-played : goal.returns-clause-played
returns-clause-played c = played_are_well_formed

pub returns-clause-runs : goal.returns-clause-runs
returns-clause-runs c = runs_are_well_formed
