use Rattle.run_laws.proofs.Gatherings.{gatherings_end}
use Rattle.run_laws.proofs.laws_of_calls.gatherings_end_at_too_many.Goals as goal

pub returns : goal.returns
returns c = gatherings_end
