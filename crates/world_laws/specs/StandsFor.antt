-- When a world stands for a core of a script.
use Rattle.std.specs.Prelude.{◌≡◌, ℕ, ⊤, List, [], ◌∷◌, length, Some}
use Rattle.std.specs.List.{slice_get}
use Rattle.clay_grid.specs.Shape.{chunk_count}
use Rattle.store_map.specs.Limits.{tries_of}
use Rattle.store_map.specs.declared.script.Script.{Script}
use Rattle.store_core.specs.NextAct.{Job}
use Rattle.store_core.specs.Work.{Calling, Work, client_work, repairer_work}
use Rattle.store_core.specs.Core.{Core}
use Rattle.call_steps.specs.CallOf.{CallOf}
use Rattle.call_steps.specs.Stands.{Stands, IsBetweenCalls}
use Rattle.world_laws.specs.World.{DoingOf, ActorOf, WorldOf}

-- an actor that waits: its next call has not begun
pub record Waits (script : Script) (calling : Calling) : Type 0 where
  pub between : IsBetweenCalls script.geometry calling
  pub none : calling.steps ≡ 0

-- an actor in a call: it is that of the next of its jobs, and its machine stands for the actor
pub record IsInCall (script : Script) (jobs : List Job) (calling : Calling) (call : CallOf) (steps : ℕ) : Type 0 where
  pub job : Job
  pub is_next : slice_get jobs (length calling.ended) ≡ Some job
  pub stands : Stands script.geometry (tries_of script) job calling call
  pub made : calling.steps ≡ steps

-- by what the actor does
abbrev pub DoingStands : Script → List Job → Calling → DoingOf → Type 0
DoingStands script jobs calling (DoingOf.Between token) = Waits script calling
DoingStands script jobs calling (DoingOf.InCall call steps) = IsInCall script jobs calling call steps

-- an actor of the world stands for one of the core, which has these jobs
pub record ActorStands (script : Script) (jobs : List Job) (calling : Calling) (a : ActorOf) : Type 0 where
  pub ended : calling.ended ≡ a.ended
  pub doing : DoingStands script jobs calling a.doing

-- one after the other; there are as many on each side
abbrev pub AllStand : Script → List Work → List Calling → List ActorOf → Type 0
AllStand script [] [] [] = ⊤
AllStand script (work ∷ works) (calling ∷ callings) (a ∷ actors) = ActorStands script work.jobs calling a × AllStand script works callings actors
AllStand script works callings actors = ⊥

-- directory and servers are the core's, the actors stand for the core's, and the sweeper stands where the core's does, for as many servers
pub record StandsFor (script : Script) (w : WorldOf) (core : Core) : Type 0 where
  pub directory : core.directory ≡ w.directory
  pub servers : core.servers ≡ w.servers
  pub clients : AllStand script (client_work script) core.clients w.clients
  pub repairers : AllStand script (repairer_work script) core.repairers w.repairers
  pub sweeper : core.sweeper ≡ w.sweeper.at
  pub width : w.sweeper.servers ≡ chunk_count script.geometry
