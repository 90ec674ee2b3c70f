use Rattle.store_tests.proofs.Walks.{at_directory}
use Rattle.store_tests.proofs.walk.at_directory.Goals as goal

pub returns : goal.returns
returns c =
    at_directory c.args.book.now c.args.directory.now c.args.put.now.call c.on_directory.new.self.call c.on_directory.new.directory c.requires.walk
    c.on_directory.ensures.step c.on_directory.ensures.book c.on_directory.ensures.agrees
