use Rattle.std.proofs.Common.{false, option_map, refl}
use Rattle.store_map.specs.declared.actor.Actor.TheVariants as actor
use Rattle.store_core.specs.Told.{Told}
use Rattle.store_core.specs.Act.{DirectoryStep}
use Rattle.dir_walks.specs.StoreInside.{store_in}
use Rattle.dir_walks.proofs.Goes.{kept, others_agree}
use Rattle.dir_walks.proofs.test_store.Store.next_garbage.Goals as goal

pub invariant_of-self : goal.invariant_of-self
invariant_of-self c =
    kept (store_in c.self.inside) c.next_garbage.new.self actor.Sweeper refl c.self.invariant
    (others_agree false actor.Sweeper 0 DirectoryStep.NextGarbage c.self.inside.directory.core c.next_garbage.new.self.core (Told.Taken (option_map (λ version. version.0) c.next_garbage.result)) (c.next_garbage.ensures.step actor.Sweeper 0)) c.next_garbage.ensures.book
