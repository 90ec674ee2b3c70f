-- Whose number it is.
use Rattle.std.specs.Prelude.{◌≡◌, ℕ, ◌+◌, ◌<◌}
use Rattle.store_map.specs.declared.actor.Actor.TheVariants as actor
use Rattle.thread_laws.specs.Numbers.{Counts, actor_at}

abbrev pub ClientsComeFirst : Type 0
ClientsComeFirst = (of : Counts) (i : ℕ) → i < of.clients → actor_at of i ≡ actor.Client i

abbrev pub RepairersFollow : Type 0
RepairersFollow = (of : Counts) (i : ℕ) → i < of.repairers → actor_at of (of.clients + i) ≡ actor.Repairer i
