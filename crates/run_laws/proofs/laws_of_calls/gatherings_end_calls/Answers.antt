use Rattle.run_laws.proofs.Gathered.{gatherings_end_calls}
use Rattle.run_laws.proofs.laws_of_calls.gatherings_end_calls.Goals as goal

pub returns : goal.returns
returns c = gatherings_end_calls
