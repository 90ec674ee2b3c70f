-- The actors that are kept as numbers.
use Rattle.std.proofs.Common.{◌≡◌, refl}
use Rattle.store_map.specs.declared.actor.Actor.{Actor}
use Rattle.store_map.specs.declared.actor.Actor.TheVariants as actor
use Rattle.dir_parts.specs.Codec.{number, both}
use Rattle.dir_parts.specs.ToldActors.{actor_to, actor_from, an_actor}
use Rattle.dir_parts.proofs.Codec.{ReadsBack, number_back, both_back, other_back}

pub actor_back : ReadsBack an_actor
actor_back = other_back (both number number) actor_to actor_from same (both_back number number number_back number_back)
  where
    same : (a : Actor) → actor_from (actor_to a) ≡ a
    same (actor.Client i) = refl
    same (actor.Repairer i) = refl
    same actor.Sweeper = refl
    same actor.Operator = refl
