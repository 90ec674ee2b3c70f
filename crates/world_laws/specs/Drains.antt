-- Drains of a world, round by round.
use Rattle.std.specs.Prelude.{◌≡◌, ℕ, ◌+◌, ◌-◌, ◌^◌, ◌<◌, true, false, List, [], ◌∷◌, ◌++◌}
use Rattle.clay_grid.specs.Limits.{IsGeometry}
use Rattle.store_map.specs.Naming.{IsValid}
use Rattle.store_map.specs.declared.actor.Token.{Token}
use Rattle.store_map.specs.declared.actor.Token.TheVariants as token
use Rattle.store_map.specs.declared.script.Script.{Script}
use Rattle.store_core.specs.Schedule.{is_unfinished, round}
use Rattle.store_core.specs.Step.{Shortage}
use Rattle.world_laws.specs.World.{WorldOf}
use Rattle.world_laws.specs.Known.{core_of}
use Rattle.world_laws.specs.RunLaws.{Reaches, ReachesInDrain}
use Rattle.world_laws.specs.Goes.{IsReached, Leads, GoesBy}

-- so many rounds after these tokens reach the world with these shortages and then some more
pub record IsReachedInDrain (script : Script) (tokens : List Token) (count : ℕ) (shortages : List Shortage) (w : WorldOf) : Type 0 where
  pub more : List Shortage
  pub reaches : ReachesInDrain script tokens count (shortages ++ more) w

-- whatever tokens reach the first world, with whatever shortages, so many rounds after them reach the second one with the same shortages before
abbrev pub GoesByRounds : Script → ℕ → WorldOf → WorldOf → Type 0
GoesByRounds script count w after =
    (tokens : List Token) (shortages : List Shortage) → Reaches script tokens shortages w → IsReachedInDrain script tokens count shortages after

-- a drain begins with no round and goes on by rounds; somebody has a step only before fewer rounds than a count of 64 bits holds; where nobody has one, the drain is made
pub record DrainsGo (script : Script) : Type 0 where
  pub begins : (w : WorldOf) → GoesByRounds script 0 w w
  pub next :
      (count : ℕ) (w middle after : WorldOf) → GoesByRounds script count w middle → Leads script (round script) middle after → GoesByRounds script (count + 1) w after
  pub fits :
      (count : ℕ) (w after : WorldOf) → IsReached script w → GoesByRounds script count w after → is_unfinished script (core_of script after) ≡ true →
      count < 2 ^ 64 - 1
  pub ends :
      (count : ℕ) (w after : WorldOf) → GoesByRounds script count w after → is_unfinished script (core_of script after) ≡ false → GoesBy script (token.Drain ∷ []) w after

-- so it is in every drain of a valid script
abbrev pub DrainsOfValidScriptsGo : Type 0
DrainsOfValidScriptsGo = (script : Script) → IsGeometry script.geometry → IsValid script → DrainsGo script
