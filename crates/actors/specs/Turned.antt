-- An actor's turn in the world, and where it leads.
use Rattle.std.specs.Prelude.{◌≡◌, List}
use Rattle.store_map.specs.declared.script.Script.{Script}
use Rattle.store_map.specs.declared.actor.Actor.{Actor}
use Rattle.store_core.specs.Agreement.{Agrees}
use Rattle.store_core.specs.Step.{Places, Shortage}
use Rattle.store_core.specs.Run.{Run}
use Rattle.store_core.specs.Work.{Work}
use Rattle.call_steps.specs.CallOf.{CallOf}
use Rattle.call_steps.specs.Steps.{HoldsItsPass}
use Rattle.world_laws.specs.World.{ActorOf, WorldOf}
use Rattle.world_laws.specs.ActorAfter.{HasTurn, actor_after}
use Rattle.world_laws.specs.Leads.{LeadsWorld}
use Rattle.world_laws.specs.Tokens.{TokensAgree}
use Rattle.actors.specs.Turns.{IsTurn}

-- an actor that makes a turn in the call that it has or begins
pub record MakesTurn (script : Script) (who : Actor) (work : Work) (a : ActorOf) (p : Places) (after : ActorOf) (q : Places) : Type 0 where
  pub call : CallOf
  pub has : HasTurn script who work a call
  pub pass : HoldsItsPass call
  pub next : CallOf
  pub turn : IsTurn call p next q
  pub agrees : Agrees q.directory next.token
  pub actor : after ≡ actor_after next a

-- directory and servers of a world
abbrev pub places_in : WorldOf → Places
places_in w = record { directory = w.directory; servers = w.servers }

-- a world with others
abbrev pub with_places : Places → WorldOf → WorldOf
with_places q w = record w { directory = q.directory; servers = q.servers }

-- a part of a run leads from the first world to the second one, with these shortages, and the directory agrees with the tickets of all actors again
pub record Leads (script : Script) (part : Run → Run) (w : WorldOf) (shortages : List Shortage) (after : WorldOf) : Type 0 where
  pub leads : LeadsWorld script part w shortages after
  pub agree : TokensAgree after
