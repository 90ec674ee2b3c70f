use Rattle.store_tests.proofs.Walks.{walks_after}
use Rattle.store_tests.proofs.stray_tests.leave_strays.Goals as goal

pub place-requires-2-clause-walk : goal.place-requires-2-clause-walk
place-requires-2-clause-walk g c κs within =
    walks_after c.args.book.now c.place.new.directory c.give_up.new.directory c.place.new.put.call c.place.ensures.walk c.give_up.ensures.directory

pub place-requires-2-clause-servers : goal.place-requires-2-clause-servers
place-requires-2-clause-servers g c κs within = c.give_up.ensures.servers c.args.book.now c.place.ensures.servers
