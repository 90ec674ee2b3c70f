use Rattle.store_world.proofs.First.{parts_are, stands_first, reached_first}
use Rattle.store_world.proofs.new_world.first_world.Goals as goal

pub invariant_of-result : goal.invariant_of-result
invariant_of-result c =
    stands_first _
    (parts_are c.args.script.now c.args.book.now c.args.directory c.args.servers.items c.args.clients.items c.args.repairers.items c.new-sweeper.result c.n.result
    c.n.ensures.geometry c.requires.valid c.requires.written c.requires.code c.requires.directory c.requires.servers c.requires.clients c.requires.repairers c.new-sweeper.ensures c.n.ensures.value)

pub returns-clause-reached : goal.returns-clause-reached
returns-clause-reached c =
    reached_first _
    (parts_are c.args.script.now c.args.book.now c.args.directory c.args.servers.items c.args.clients.items c.args.repairers.items c.new-sweeper.result c.n.result
    c.n.ensures.geometry c.requires.valid c.requires.written c.requires.code c.requires.directory c.requires.servers c.requires.clients c.requires.repairers c.new-sweeper.ensures c.n.ensures.value)
