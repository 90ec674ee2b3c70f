-- A step changes one place and one actor.
use Rattle.std.specs.Prelude.{◌≡◌, ◌≢◌, ℕ, Bool}
use Rattle.std.specs.List.{slice_get}
use Rattle.store_map.specs.declared.actor.Actor.{Actor}
use Rattle.store_map.specs.declared.script.Script.{Script}
use Rattle.store_core.specs.Act.{Act}
use Rattle.store_core.specs.Core.{Core}
use Rattle.store_core.specs.Step.{Places, at_places}
use Rattle.store_core.specs.Run.{Run, operator_step, sweeper_step, client_step, repairer_step}

-- an act changes the place that it names, and no other
abbrev pub ChangesOnePlace : Act → Places → Places → Type 0
ChangesOnePlace (Act.AtDirectory step) before after = after.servers ≡ before.servers
ChangesOnePlace (Act.AtServer server step) before after =
    (after.directory ≡ before.directory)
    × ((other : ℕ) → other ≢ server → slice_get after.servers other ≡ slice_get before.servers other)
ChangesOnePlace (Act.Finish outcome) before after = after ≡ before

-- so does each act
abbrev pub ActsChangeOnePlace : Type 0
ActsChangeOnePlace =
    (short : Bool) (who : Actor) (number : ℕ) (act : Act) (places : Places) →
    ChangesOnePlace act places (at_places short who number act places).0

-- the actors that a step leaves as they were
pub record KeepsOtherClients (i : ℕ) (before after : Core) : Type 0 where
  pub clients : (other : ℕ) → other ≢ i → slice_get after.clients other ≡ slice_get before.clients other
  pub repairers : after.repairers ≡ before.repairers
  pub sweeper : after.sweeper ≡ before.sweeper

-- after a step of repairer i
pub record KeepsOtherRepairers (i : ℕ) (before after : Core) : Type 0 where
  pub clients : after.clients ≡ before.clients
  pub repairers : (other : ℕ) → other ≢ i → slice_get after.repairers other ≡ slice_get before.repairers other
  pub sweeper : after.sweeper ≡ before.sweeper

-- after a step of the sweeper or the operator
pub record KeepsCalls (before after : Core) : Type 0 where
  pub clients : after.clients ≡ before.clients
  pub repairers : after.repairers ≡ before.repairers

-- a step changes one actor
pub record StepsChangeOneActor (script : Script) (run : Run) : Type 0 where
  pub client : (i : ℕ) → KeepsOtherClients i run.core (client_step script i run).core
  pub repairer : (i : ℕ) → KeepsOtherRepairers i run.core (repairer_step script i run).core
  pub sweeper : KeepsCalls run.core (sweeper_step script run).core
  pub operator : (act : Act) → KeepsCalls run.core (operator_step act run).core × ((operator_step act run).core.sweeper ≡ run.core.sweeper)
