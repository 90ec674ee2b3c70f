use Rattle.store_tests.proofs.Walks.{seats, opened}
use Rattle.store_tests.proofs.walk.begin.Goals as goal

pub returns-clause-walk : goal.returns-clause-walk
returns-clause-walk c =
    opened c.args.book.now c.opening.result c.opening-2.result c.in_ok-directory.directory c.new-put.result c.last-first.result c.args.call.now c.requires.free c.opening.ensures c.opening-2.ensures c.in_ok-directory.ensures.directory
    (seats c.in_ok-directory.seats.items c.last-waiting.new.seats.items c.last-first.new.seats.items c.last-first.result c.last-waiting.result c.in_ok-directory.ensures.seats c.last-waiting.ensures c.last-first.ensures).0 c.new-put.ensures

pub returns-clause-waiting : goal.returns-clause-waiting
returns-clause-waiting c =
    (seats c.in_ok-directory.seats.items c.last-waiting.new.seats.items c.last-first.new.seats.items c.last-first.result c.last-waiting.result c.in_ok-directory.ensures.seats c.last-waiting.ensures c.last-first.ensures).1
