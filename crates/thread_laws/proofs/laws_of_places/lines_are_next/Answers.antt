use Rattle.thread_laws.proofs.Operated.{lines_are_next}
use Rattle.thread_laws.proofs.laws_of_places.lines_are_next.Goals as goal

pub returns : goal.returns
returns c = lines_are_next
