use Rattle.thread_laws.proofs.Room.{actors_have_room}
use Rattle.thread_laws.proofs.laws_of_lists.actors_have_room.Goals as goal

pub returns : goal.returns
returns c = actors_have_room
