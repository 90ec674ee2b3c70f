use Rattle.thread_laws.proofs.JoinedTurns.{joined_turns_see_all}
use Rattle.thread_laws.proofs.laws_of_lists.joined_turns_see_all.Goals as goal

pub returns : goal.returns
returns c = joined_turns_see_all
