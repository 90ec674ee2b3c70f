-- A part of a run as it leads from one world to another.
use Rattle.std.specs.Prelude.{◌≡◌, List, ◌++◌}
use Rattle.store_map.specs.declared.script.Script.{Script}
use Rattle.store_core.specs.Core.{Core}
use Rattle.store_core.specs.Step.{Shortage}
use Rattle.store_core.specs.Run.{Run}
use Rattle.world_laws.specs.World.{WorldOf}
use Rattle.world_laws.specs.StandsFor.{StandsFor}

-- the run has come to a core that the world stands for, with these shortages to come
pub record IsAt (script : Script) (w : WorldOf) (more : List Shortage) (run : Run) : Type 0 where
  pub stands : StandsFor script w run.core
  pub left : run.shortages ≡ more

-- the part leads from each core that the first world stands for to one that the second stands for, and uses up these shortages and no others
abbrev pub LeadsWorld : Script → (Run → Run) → WorldOf → List Shortage → WorldOf → Type 0
LeadsWorld script part w shortages after =
    (core : Core) (more : List Shortage) → StandsFor script w core → IsAt script after more (part (record { core = core; shortages = shortages ++ more }))

-- parts one after the other
abbrev pub PartsLeadWorlds : Type 0
PartsLeadWorlds =
    (script : Script) (first second : Run → Run) (w middle after : WorldOf) (shortages more : List Shortage) →
    LeadsWorld script first w shortages middle → LeadsWorld script second middle more after →
    LeadsWorld script (λ run. second (first run)) w (shortages ++ more) after
