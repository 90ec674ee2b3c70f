-- What the sweeper's turn and the operator's actions are in a trace.
use Rattle.std.specs.Prelude.{ℕ, List, [], ◌∷◌}
use Rattle.store_map.specs.declared.actor.Actor.{Actor}
use Rattle.store_map.specs.declared.actor.Actor.TheVariants as actor
use Rattle.store_map.specs.declared.actor.Token.{Token}
use Rattle.store_map.specs.declared.actor.Token.TheVariants as token
use Rattle.store_map.specs.declared.script.Script.{Script}
use Rattle.store_core.specs.Act.{Act, DirectoryStep, ServerStep}
use Rattle.store_core.specs.Step.{Shortage}
use Rattle.history_laws.specs.Trace.{act_made}
use Rattle.sweeper.specs.Sweeps.{act_of}
use Rattle.world_laws.specs.World.{WorldOf}
use Rattle.world_laws.specs.TurnMade.{places_of}
use Rattle.world_laws.specs.Telling.{TellsOf}

-- one act of an actor without calls, whatever is wanting of memory
abbrev pub TellsAct : Script → Token → Actor → Act → WorldOf → Type 0
TellsAct script its who act w = (shortages : List Shortage) → TellsOf script (its ∷ []) w shortages (act_made who act (places_of w) ∷ [])

-- the sweeper's turn
abbrev pub SweeperTells : Script → WorldOf → Type 0
SweeperTells script w = TellsAct script token.Sweep actor.Sweeper (act_of w.sweeper) w

-- the operator's actions
pub record OperatorTells (script : Script) (w : WorldOf) : Type 0 where
  pub wipe : (server : ℕ) → TellsAct script (token.Wipe server) actor.Operator (Act.AtServer server ServerStep.Wipe) w
  pub down : (server : ℕ) → TellsAct script (token.Down server) actor.Operator (Act.AtServer server ServerStep.Down) w
  pub up : (server : ℕ) → TellsAct script (token.Up server) actor.Operator (Act.AtServer server ServerStep.Up) w
  pub reap_client : (i : ℕ) → TellsAct script (token.ReapClient i) actor.Operator (Act.AtDirectory (DirectoryStep.Reap (actor.Client i))) w
  pub reap_repairer : (i : ℕ) → TellsAct script (token.ReapRepairer i) actor.Operator (Act.AtDirectory (DirectoryStep.Reap (actor.Repairer i))) w
