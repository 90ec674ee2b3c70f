use Rattle.run_laws.proofs.NeverAway.{servers_stay_in_form_one as law}
use Rattle.run_laws.proofs.laws_of_runs.servers_are_never_away_in_form_one.Goals as goal

pub returns : goal.returns
returns c = law
