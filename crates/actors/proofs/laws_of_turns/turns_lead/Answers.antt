use Rattle.actors.proofs.Leading.{all_turns_lead}
use Rattle.actors.proofs.laws_of_turns.turns_lead.Goals as goal

pub returns : goal.returns
returns c = all_turns_lead
