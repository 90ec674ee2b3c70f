-- A world that is reached has made few steps in each call in work.
use Rattle.std.specs.Prelude.{◌≡◌, ℕ, ◌+◌, ◌^◌, ◌<◌, true, Some}
use Rattle.std.specs.List.{slice_get}
use Rattle.clay_grid.specs.Limits.{IsGeometry}
use Rattle.store_map.specs.Naming.{IsValid}
use Rattle.store_map.specs.declared.script.Script.{Script}
use Rattle.store_core.specs.Work.{Work, client_work, repairer_work, has_step}
use Rattle.world_laws.specs.World.{ActorOf, WorldOf, steps_of}
use Rattle.world_laws.specs.Known.{calling_of}
use Rattle.world_laws.specs.Goes.{IsReached}

-- an actor that has a step: with it, fewer than a count of 64 bits holds
abbrev pub MakesFewSteps : Script → Work → ActorOf → Type 0
MakesFewSteps script work a = has_step work (calling_of script a) ≡ true → steps_of a.doing + 1 < 2 ^ 64

-- so do all actors of a world
pub record MakeFewSteps (script : Script) (w : WorldOf) : Type 0 where
  pub clients :
      (i : ℕ) (work : Work) (a : ActorOf) → slice_get (client_work script) i ≡ Some work → slice_get w.clients i ≡ Some a → MakesFewSteps script work a
  pub repairers :
      (i : ℕ) (work : Work) (a : ActorOf) → slice_get (repairer_work script) i ≡ Some work → slice_get w.repairers i ≡ Some a → MakesFewSteps script work a

-- of a valid script
abbrev pub WorldsMakeFewSteps : Type 0
WorldsMakeFewSteps = (script : Script) (w : WorldOf) → IsGeometry script.geometry → IsValid script → IsReached script w → MakeFewSteps script w
