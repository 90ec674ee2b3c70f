-- What the turns of clients and repairers are in a trace.
use Rattle.std.specs.Prelude.{◌≡◌, ℕ, Bool, false, [], ◌∷◌, None, Some}
use Rattle.std.specs.List.{slice_get}
use Rattle.store_map.specs.declared.actor.Actor.{Actor}
use Rattle.store_map.specs.declared.actor.Actor.TheVariants as actor
use Rattle.store_map.specs.declared.actor.Token.{Token}
use Rattle.store_map.specs.declared.actor.Token.TheVariants as token
use Rattle.store_map.specs.declared.script.Script.{Script}
use Rattle.store_core.specs.Work.{Work, client_work, repairer_work, has_step}
use Rattle.call_steps.specs.CallOf.{CallOf}
use Rattle.call_steps.specs.Ready.{shortage_of}
use Rattle.world_laws.specs.World.{ActorOf, WorldOf}
use Rattle.world_laws.specs.Known.{calling_of}
use Rattle.world_laws.specs.ActorAfter.{HasTurn}
use Rattle.world_laws.specs.TurnMade.{turn_made, places_of}
use Rattle.world_laws.specs.Telling.{TellsOf}

-- an actor's token: its turn is one step, wherever it is made, by the shortage that is used up; without a turn there is none
pub record TurnTells (script : Script) (its : Token) (who : Actor) (work : Work) (a : ActorOf) (w : WorldOf) : Type 0 where
  pub turn :
      (c : CallOf) (coding short : Bool) → HasTurn script who work a c →
      TellsOf script (its ∷ []) w (shortage_of coding short c ∷ []) (turn_made who coding short c (places_of w) ∷ [])
  pub none : has_step work (calling_of script a) ≡ false → TellsOf script (its ∷ []) w [] []

-- client i, and one that isn't there
pub record ClientsTell (script : Script) (i : ℕ) (w : WorldOf) : Type 0 where
  pub turns :
      (work : Work) (a : ActorOf) → slice_get (client_work script) i ≡ Some work → slice_get w.clients i ≡ Some a →
      TurnTells script (token.Client i) (actor.Client i) work a w
  pub absent : slice_get w.clients i ≡ None → TellsOf script (token.Client i ∷ []) w [] []

-- repairer i, and one that isn't there
pub record RepairersTell (script : Script) (i : ℕ) (w : WorldOf) : Type 0 where
  pub turns :
      (work : Work) (a : ActorOf) → slice_get (repairer_work script) i ≡ Some work → slice_get w.repairers i ≡ Some a →
      TurnTells script (token.Repairer i) (actor.Repairer i) work a w
  pub absent : slice_get w.repairers i ≡ None → TellsOf script (token.Repairer i ∷ []) w [] []
