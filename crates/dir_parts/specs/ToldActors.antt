-- Actors as numbers, for contracts alone.
use Rattle.std.specs.Prelude.{ℕ, zero, suc}
use Rattle.store_map.specs.declared.actor.Actor.{Actor}
use Rattle.store_map.specs.declared.actor.Actor.TheVariants as actor
use Rattle.dir_parts.specs.Codec.{Codec, number, both, as_other}

-- ---- as numbers
abbrev pub actor_to : Actor → ℕ × ℕ
actor_to (actor.Client i) = (0, i)
actor_to (actor.Repairer i) = (1, i)
actor_to actor.Sweeper = (2, 0)
actor_to actor.Operator = (3, 0)

abbrev pub actor_by : ℕ → ℕ → Actor
actor_by zero i = actor.Client i
actor_by (suc zero) i = actor.Repairer i
actor_by (suc (suc zero)) i = actor.Sweeper
actor_by (suc (suc (suc kind))) i = actor.Operator

abbrev pub actor_from : ℕ × ℕ → Actor
actor_from p = actor_by p.0 p.1

abbrev pub an_actor : Codec Actor
an_actor = as_other (both number number) actor_to actor_from
