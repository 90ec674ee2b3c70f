-- The turns of the world's actors lead it as their steps lead a run.
use Rattle.std.specs.Prelude.{◌≡◌, ℕ, [], ◌∷◌, Some}
use Rattle.std.specs.List.{slice_get}
use Rattle.store_map.specs.declared.script.Script.{Script}
use Rattle.store_map.specs.declared.actor.Actor.TheVariants as actor
use Rattle.store_core.specs.Step.{Places}
use Rattle.store_core.specs.Run.{client_step, repairer_step}
use Rattle.store_core.specs.Work.{Work, client_work, repairer_work}
use Rattle.call_steps.specs.Ready.{shortage_of}
use Rattle.world_laws.specs.World.{ActorOf, WorldOf, with_client, with_repairer}
use Rattle.world_laws.specs.Tokens.{TokensAgree}
use Rattle.actors.specs.Turned.{MakesTurn, Leads, places_in, with_places}

-- where the directory agrees with the tickets of all actors, a client's turn is its step, and a repairer's is its own; it uses up one shortage, of its coding and its step
pub record TurnsLead (script : Script) (i : ℕ) (w : WorldOf) : Type 0 where
  pub client :
      (work : Work) (a after : ActorOf) (q : Places) → slice_get (client_work script) i ≡ Some work → slice_get w.clients i ≡ Some a →
      (m : MakesTurn script (actor.Client i) work a (places_in w) after q) →
      Leads script (client_step script i) w (shortage_of m.turn.coding m.turn.short m.call ∷ []) (with_client i after (with_places q w))
  pub repairer :
      (work : Work) (a after : ActorOf) (q : Places) → slice_get (repairer_work script) i ≡ Some work → slice_get w.repairers i ≡ Some a →
      (m : MakesTurn script (actor.Repairer i) work a (places_in w) after q) →
      Leads script (repairer_step script i) w (shortage_of m.turn.coding m.turn.short m.call ∷ []) (with_repairer i after (with_places q w))

-- so in every world
abbrev pub AllTurnsLead : Type 0
AllTurnsLead = (script : Script) (i : ℕ) (w : WorldOf) → TokensAgree w → TurnsLead script i w
