use Rattle.thread_laws.proofs.DirectoryAdding.{directories_stand_on}
use Rattle.thread_laws.proofs.laws_of_places.directories_stand_on.Goals as goal

pub returns : goal.returns
returns c = directories_stand_on
