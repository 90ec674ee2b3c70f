use Rattle.std.proofs.Common.{false, refl}
use Rattle.store_map.specs.declared.actor.Actor.TheVariants as actor
use Rattle.store_core.specs.Told.{Told}
use Rattle.store_core.specs.Act.{DirectoryStep}
use Rattle.dir_walks.specs.StoreInside.{store_in}
use Rattle.dir_walks.proofs.Goes.{kept, others_agree}
use Rattle.dir_walks.proofs.test_store.Store.swept.Goals as goal

pub invariant_of-self : goal.invariant_of-self
invariant_of-self c =
    kept (store_in c.self.inside) c.swept.new.self actor.Sweeper refl c.self.invariant
    (others_agree false actor.Sweeper 0 (DirectoryStep.Swept c.args.version.0) c.self.inside.directory.core c.swept.new.self.core Told.Made (c.swept.ensures.step actor.Sweeper 0)) c.swept.ensures.book
