-- A turn in the world is the actor's step in a run.
use Rattle.std.proofs.Common.{◌≡◌, [], ◌∷◌, ℕ, refl, sym, ap, subst, ◌∙◌}
use Rattle.store_map.specs.declared.script.Script.{Script}
use Rattle.store_map.specs.declared.actor.Actor.{Actor}
use Rattle.store_map.specs.declared.actor.Actor.TheVariants as actor
use Rattle.store_core.specs.Directory.{Directory}
use Rattle.store_core.specs.Server.{Server}
use Rattle.store_core.specs.Agreement.{Agrees}
use Rattle.store_core.specs.Step.{Places}
use Rattle.store_core.specs.Run.{Run, client_step, repairer_step}
use Rattle.store_core.specs.Work.{Work}
use Rattle.call_steps.specs.declared.need.Need.{Need}
use Rattle.call_steps.specs.declared.need.Need.TheVariants as need
use Rattle.call_steps.specs.CallOf.{CallOf}
use Rattle.call_steps.specs.Steps.{need_of, stepped_at_directory, stepped_at_server}
use Rattle.call_steps.specs.Ready.{ready, shortage_of}
use Rattle.world_laws.specs.World.{ActorOf, WorldOf, with_client, with_directory, with_repairer, with_server}
use Rattle.world_laws.specs.ActorAfter.{actor_after}
use Rattle.world_laws.specs.Leads.{LeadsWorld}
use Rattle.world_laws.specs.Tokens.{TokensAgree}
use Rattle.world_laws.specs.TurnLaws.{MakesTurns}
use Rattle.world_laws.specs.TokenLaws.{TurnsAgree}
use Rattle.actors.specs.Turns.{IsMadeAt, IsMadeAtDirectory, IsMadeAtServer}
use Rattle.actors.specs.Turned.{MakesTurn, Leads, places_in, with_places}
use Rattle.world_laws.proofs.Agreed.{worlds_stay_agreed}
use Rattle.world_laws.proofs.TurnLaws.{clients_make_turns, repairers_make_turns}
use Rattle.actors.specs.LeadLaws.{AllTurnsLead}

module _ (script : Script) (part : Run → Run) (who : Actor) (work : Work) (a after : ActorOf) (put : ActorOf → WorldOf → WorldOf) (w : WorldOf) (q : Places) (makes : MakesTurns script part who work a put w) (stays : TurnsAgree script who a put w) (m : MakesTurn script who work a (places_in w) after q) where
  abbrev now : CallOf
  now = ready m.turn.coding m.call

  -- at the directory
  at_directory : need_of now ≡ need.Directory → IsMadeAtDirectory m.turn.short m.turn.due now (places_in w) m.next q → Leads script part w (shortage_of m.turn.coding m.turn.short m.call ∷ []) (put after (with_places q w))
  at_directory needs made =
      let stepped : Directory × CallOf = stepped_at_directory m.turn.short m.turn.due now w.directory in
      let agrees : Agrees stepped.0 stepped.1.token = subst (λ (c : CallOf). Agrees stepped.0 c.token) made.call (subst (λ (d : Directory). Agrees d m.next.token) made.directory m.agrees) in
      let same : put (actor_after stepped.1 a) (with_directory stepped.0 w) ≡ put after (with_places q w) =
      λ i. put ((ap (λ (c : CallOf). actor_after c a) (sym made.call) ∙ sym m.actor) i) (record w { directory = sym made.directory i; servers = sym made.servers i }) in
      record {
        leads =
            subst (λ (v : WorldOf). LeadsWorld script part w (shortage_of m.turn.coding m.turn.short m.call ∷ []) v) same
            (makes.directory m.call m.turn.coding m.turn.short m.turn.due m.has needs (stays.pass work m.call m.has m.pass));
        agree = subst (λ (v : WorldOf). TokensAgree v) same (stays.directory work m.call m.turn.coding m.turn.short m.turn.due m.has agrees);
      }

  at_server : (server : ℕ) → need_of now ≡ need.Server server → IsMadeAtServer server m.turn.short m.turn.due now (places_in w) m.next q → Leads script part w (shortage_of m.turn.coding m.turn.short m.call ∷ []) (put after (with_places q w))
  at_server server needs made =
      let stepped : Server × CallOf = stepped_at_server m.turn.short m.turn.due now made.before in
      let same : put (actor_after stepped.1 a) (with_server server stepped.0 w) ≡ put after (with_places q w) =
      λ i. put ((ap (λ (c : CallOf). actor_after c a) (sym made.call) ∙ sym m.actor) i) (record w { directory = sym made.directory i; servers = sym made.servers i }) in
      record {
        leads =
            subst (λ (v : WorldOf). LeadsWorld script part w (shortage_of m.turn.coding m.turn.short m.call ∷ []) v) same
            (makes.server m.call server made.before m.turn.coding m.turn.short m.turn.due m.has needs made.there);
        agree = subst (λ (v : WorldOf). TokensAgree v) same (stays.server work m.call server made.before m.turn.coding m.turn.short m.turn.due m.has);
      }

  by_need : (at : Need) → need_of now ≡ at → IsMadeAt at m.turn.short m.turn.due now (places_in w) m.next q → Leads script part w (shortage_of m.turn.coding m.turn.short m.call ∷ []) (put after (with_places q w))
  by_need need.Directory needs made = at_directory needs made
  by_need (need.Server server) needs made = at_server server needs made
  by_need need.Coder needs made = absurd made
  by_need need.Finished needs made = absurd made

  pub turn_leads : Leads script part w (shortage_of m.turn.coding m.turn.short m.call ∷ []) (put after (with_places q w))
  turn_leads = by_need (need_of now) refl m.turn.made

-- so it is in every world
pub all_turns_lead : AllTurnsLead
all_turns_lead script i w agree =
    record {
      client = λ work a after q is_work is_a makes.
          turn_leads script (client_step script i) (actor.Client i) work a after (with_client i) w q ((clients_make_turns script i w).turns work a is_work is_a)
          ((worlds_stay_agreed script w agree).client i a is_a) makes;
      repairer = λ work a after q is_work is_a makes.
          turn_leads script (repairer_step script i) (actor.Repairer i) work a after (with_repairer i) w q ((repairers_make_turns script i w).turns work a is_work is_a)
          ((worlds_stay_agreed script w agree).repairer i a is_a) makes;
    }
