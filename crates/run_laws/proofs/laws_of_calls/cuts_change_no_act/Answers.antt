use Rattle.run_laws.proofs.Cuts.{cuts_change_no_act}
use Rattle.run_laws.proofs.laws_of_calls.cuts_change_no_act.Goals as goal

pub returns : goal.returns
returns c = cuts_change_no_act
