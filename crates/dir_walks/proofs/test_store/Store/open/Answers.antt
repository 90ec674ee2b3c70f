use Rattle.dir_walks.proofs.Opens.{opens}
use Rattle.dir_walks.proofs.test_store.Store.open.Goals as goal

pub invariant_of-result : goal.invariant_of-result
invariant_of-result c =
    opens c.args.book.now c.opening.result c.in_ok-directory.directory c.in_ok-directory.seats.items c.last-first.new.seats.items c.last-first.result c.new-2.result c.args.max c.requires.free c.opening.ensures
    c.in_ok-directory.ensures.directory c.in_ok-directory.ensures.seats c.last-first.ensures c.new-2.ensures
