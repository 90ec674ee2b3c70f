use Rattle.thread_laws.proofs.Seen.{new_turns_begin}
use Rattle.thread_laws.proofs.laws_of_lists.new_turns_begin.Goals as goal

pub returns : goal.returns
returns c = new_turns_begin
