-- Runs of the world, token by token, and their drains.
use Rattle.std.specs.Prelude.{◌≡◌, ℕ, ◌+◌, ◌-◌, ◌^◌, ◌<◌, true, false, List, [], ◌∷◌, ◌++◌}
use Rattle.clay_grid.specs.Limits.{IsGeometry}
use Rattle.store_map.specs.Naming.{IsValid}
use Rattle.store_map.specs.declared.actor.Token.{Token}
use Rattle.store_map.specs.declared.actor.Token.TheVariants as token
use Rattle.store_map.specs.declared.script.Script.{Script}
use Rattle.store_core.specs.Core.{first_core}
use Rattle.store_core.specs.Fuel.{fuel_of}
use Rattle.store_core.specs.Schedule.{is_unfinished, round, step_core, run_tokens, run_core}
use Rattle.store_core.specs.Step.{Shortage}
use Rattle.run_laws.specs.RoundLaws.{rounds}
use Rattle.world_laws.specs.World.{WorldOf}
use Rattle.world_laws.specs.Known.{core_of}
use Rattle.world_laws.specs.StandsFor.{StandsFor}
use Rattle.world_laws.specs.FirstWorld.{IsFirstWorld}
use Rattle.world_laws.specs.Leads.{IsAt, LeadsWorld}

-- the run of these tokens comes to a core that the world stands for, and uses up these shortages and no others
abbrev pub Reaches : Script → List Token → List Shortage → WorldOf → Type 0
Reaches script tokens shortages w =
    (more : List Shortage) → IsAt script w more (run_tokens script tokens (record { core = first_core script; shortages = shortages ++ more }))

-- the same of so many rounds after these tokens
abbrev pub ReachesInDrain : Script → List Token → ℕ → List Shortage → WorldOf → Type 0
ReachesInDrain script tokens count shortages w =
    (more : List Shortage) → IsAt script w more (rounds count script (run_tokens script tokens (record { core = first_core script; shortages = shortages ++ more })))

-- the first world is reached by no token, and a token's step leads on; what is reached is the core of these tokens and shortages
pub record RunsReach (script : Script) : Type 0 where
  pub first : (w : WorldOf) → IsFirstWorld script w → Reaches script [] [] w
  pub next :
      (tokens : List Token) (token : Token) (w after : WorldOf) (shortages more : List Shortage) → Reaches script tokens shortages w →
      LeadsWorld script (step_core script token) w more after → Reaches script (tokens ++ token ∷ []) (shortages ++ more) after
  pub core : (tokens : List Token) (w : WorldOf) (shortages : List Shortage) → Reaches script tokens shortages w → StandsFor script w (run_core script shortages tokens)

-- a drain of a valid script: it begins with no round, and ends where nobody has a step; as long as somebody has one, fewer rounds were made than its fuel, and than a count of 64 bits holds
pub record DrainsReach (script : Script) (tokens : List Token) : Type 0 where
  pub begins : (w : WorldOf) (shortages : List Shortage) → Reaches script tokens shortages w → ReachesInDrain script tokens 0 shortages w
  pub next :
      (count : ℕ) (w after : WorldOf) (shortages more : List Shortage) → ReachesInDrain script tokens count shortages w →
      LeadsWorld script (round script) w more after → ReachesInDrain script tokens (count + 1) (shortages ++ more) after
  pub few :
      (count : ℕ) (w : WorldOf) (shortages : List Shortage) → ReachesInDrain script tokens count shortages w →
      is_unfinished script (core_of script w) ≡ true → count < fuel_of script (run_core script shortages tokens)
  pub fits :
      (count : ℕ) (w : WorldOf) (shortages : List Shortage) → ReachesInDrain script tokens count shortages w →
      is_unfinished script (core_of script w) ≡ true → count < 2 ^ 64 - 1
  pub ends :
      (count : ℕ) (w : WorldOf) (shortages : List Shortage) → ReachesInDrain script tokens count shortages w →
      is_unfinished script (core_of script w) ≡ false → Reaches script (tokens ++ token.Drain ∷ []) shortages w

-- so it is in every drain of a valid script
abbrev pub DrainsOfValidScriptsReach : Type 0
DrainsOfValidScriptsReach = (script : Script) → IsGeometry script.geometry → IsValid script → (tokens : List Token) → DrainsReach script tokens
