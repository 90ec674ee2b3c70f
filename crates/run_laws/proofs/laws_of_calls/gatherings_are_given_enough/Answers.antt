use Rattle.run_laws.proofs.Given.{gatherings_are_given}
use Rattle.run_laws.proofs.laws_of_calls.gatherings_are_given_enough.Goals as goal

pub returns : goal.returns
returns c = gatherings_are_given
