-- The numbers of the turns at each lock: clients, repairers, the sweeper, the operator.
use Rattle.std.specs.Prelude.{◌≡◌, ℕ, ◌+◌, ◌-◌, ◌<◌, nat_lt, nat_eq, if◌then◌else◌}
use Rattle.store_map.specs.declared.actor.Actor.{Actor}
use Rattle.store_map.specs.declared.actor.Actor.TheVariants as actor

-- how many clients and repairers there are
pub record Counts : Type 0 where
  pub clients : ℕ
  pub repairers : ℕ

-- whose turn has this number
abbrev pub actor_at : Counts → ℕ → Actor
actor_at of number =
    if nat_lt number of.clients then actor.Client number
    else
    (if nat_lt number (of.clients + of.repairers) then actor.Repairer (number - of.clients)
    else (if nat_eq number (of.clients + of.repairers) then actor.Sweeper else actor.Operator))

-- it is this actor's, and there is such a turn
pub record IsTurnOf (of : Counts) (number : ℕ) (who : Actor) : Type 0 where
  pub below : number < of.clients + of.repairers + 2
  pub whose : who ≡ actor_at of number
