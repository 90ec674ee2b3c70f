-- What is told of a step in the world is the step that its token makes.
use Rattle.std.proofs.Common.{◌≡◌, ℕ, List, [], ◌∷◌, false, slice_get, Option, None, Some, option_map, refl, sym, ap, ◌∙◌}
use Rattle.store_map.specs.declared.actor.Actor.{Actor}
use Rattle.store_map.specs.declared.actor.Actor.TheVariants as actor
use Rattle.store_map.specs.declared.actor.Point.{Point}
use Rattle.store_map.specs.declared.actor.Token.{Token}
use Rattle.store_map.specs.declared.script.Script.{Script}
use Rattle.store_core.specs.Act.{Act, DirectoryStep, ServerStep}
use Rattle.store_core.specs.ActPlace.{place_of}
use Rattle.store_core.specs.AtDirectory.{at_directory}
use Rattle.store_core.specs.Directory.{Directory}
use Rattle.store_core.specs.Schedule.{step_core}
use Rattle.store_core.specs.Server.{Server, at_server}
use Rattle.store_core.specs.Step.{Shortage, Places, at_places, at_server_there}
use Rattle.store_core.specs.Told.{Told}
use Rattle.store_core.specs.Work.{Work}
use Rattle.history_laws.specs.Trace.{Made, act_made}
use Rattle.call_steps.specs.declared.act.Act.{Act as ActTold}
use Rattle.call_steps.specs.declared.answer.DirectoryAnswer.{DirectoryAnswer}
use Rattle.call_steps.specs.declared.answer.DirectoryAnswer.TheVariants as said
use Rattle.call_steps.specs.declared.answer.ServerAnswer.{ServerAnswer}
use Rattle.call_steps.specs.declared.need.Need.{Need}
use Rattle.call_steps.specs.declared.need.Need.TheVariants as need
use Rattle.call_steps.specs.Acts.{act_by, server_act}
use Rattle.call_steps.specs.Answers.{directory_answer, server_told}
use Rattle.sweeper.specs.Sweeps.{need_at, told_at_directory_by, told_at_server_by}
use Rattle.call_steps.specs.declared.step_made.StepAnswer.TheVariants as answer
use Rattle.call_steps.specs.declared.step_made.Step.{Step}
use Rattle.world_laws.specs.StepsTold.{IsStep}
use Rattle.world_laws.specs.World.{ActorOf}
use Rattle.world_laws.specs.Goes.{Leads}
use Rattle.world_laws.specs.Telling.{TellsOf}
use Rattle.world_laws.specs.TurnMade.{turn_made}
use Rattle.actors.specs.Turned.{MakesTurn}
use Rattle.store_world.specs.Stored.{StoredWorld, world_of}
use Rattle.store_world.specs.Telling.{LeadsTold, act_told, server_act_told, reap_told}

-- an actor's turn with the step that is told of it
pub record IsToldTurn (script : Script) (who : Actor) (work : Work) (a : ActorOf) (p : Places) (after : ActorOf) (q : Places) (step : Step) : Type 0 where
  pub makes : MakesTurn script who work a p after q
  pub told : IsStep step (turn_made who makes.turn.coding makes.turn.short makes.call p)

-- it leads
pub leads_of : (t : Token) (before after : StoredWorld) (steps : List Step) → LeadsTold t before after steps → Leads before.script (step_core before.script t) (world_of before) (world_of after)
leads_of t before after steps its = record { shortages = its.leads.shortages; leads = its.leads.leads }

-- a token leads on and makes one step, whatever is wanting of memory
pub one_told : (t : Token) (before after : StoredWorld) (made : Made) (step : Step) → Leads before.script (step_core before.script t) (world_of before) (world_of after)
    → ((shortages : List Shortage) → TellsOf before.script (t ∷ []) (world_of before) shortages (made ∷ [])) → IsStep step made → LeadsTold t before after (step ∷ [])
one_told t before after made step leads tells is =
    record {
      made = made ∷ [];
      leads = record { shortages = leads.shortages; leads = leads.leads; tells = tells leads.shortages };
      are = (is, tt);
    }

-- ---- the sweeper
server_of : ℕ → Need → ℕ
server_of other (need.Server server) = server
server_of other needs = other

told_there : (act : Act) (who : Actor) (number : ℕ) (places : Places) → need_at (place_of act) ≡ need.Directory
    → told_at_directory_by act who number places.directory ≡ (at_places false who number act places).1
told_there (Act.AtDirectory step) who number places needs = refl
told_there (Act.AtServer server step) who number places needs = cc
told_there (Act.Finish outcome) who number places needs = cc

told_here : (act : Act) (who : Actor) (number i : ℕ) (x : Server) (places : Places) → need_at (place_of act) ≡ need.Server i → slice_get places.servers i ≡ Some x
    → told_at_server_by act x ≡ (at_places false who number act places).1
unfolding server_of
told_here (Act.AtDirectory step) who number i x places needs there = cc
told_here (Act.AtServer server step) who number i x places needs there =
    let same : server ≡ i = ap (server_of i) needs in
    ap (λ (o : Option Server). (at_server_there false server step places o).1) (sym (ap (slice_get places.servers) same ∙ there))
told_here (Act.Finish outcome) who number i x places needs there = cc

pub sweep_is_told : (act : Act) (places : Places) (step : ActTold) (its : DirectoryAnswer) → need_at (place_of act) ≡ need.Directory → step ≡ act_by act false
    → directory_answer (told_at_directory_by act actor.Sweeper 0 places.directory) ≡ Some its
    → IsStep (act_told actor.Sweeper step (answer.Directory its)) (act_made actor.Sweeper act places)
sweep_is_told act places step its needs is hears =
    record {
      who = refl;
      number = refl;
      short = refl;
      act = is;
      answer = ap directory_answer (sym (told_there act actor.Sweeper 0 places needs)) ∙ hears;
    }

pub discard_is_told : (act : Act) (i : ℕ) (x : Server) (places : Places) (step : ActTold) (its : ServerAnswer) → need_at (place_of act) ≡ need.Server i → slice_get places.servers i ≡ Some x
    → step ≡ act_by act false → server_told its ≡ told_at_server_by act x
    → IsStep (act_told actor.Sweeper step (answer.Server its)) (act_made actor.Sweeper act places)
discard_is_told act i x places step its needs there is hears =
    record {
      who = refl;
      number = refl;
      short = refl;
      act = is;
      answer = hears ∙ told_here act actor.Sweeper 0 i x places needs there;
    }

-- ---- the operator
pub action_is_told : (i : ℕ) (x after : Server) (places : Places) (step : ServerStep) → slice_get places.servers i ≡ Some x → (after, Told.Made) ≡ at_server false step x
    → IsStep (server_act_told i (server_act step)) (act_made actor.Operator (Act.AtServer i step) places)
action_is_told i x after places step there made =
    record {
      who = refl;
      number = refl;
      short = refl;
      act = refl;
      answer =
          ap (λ (both : Server × Told). both.1) made
          ∙ ap (λ (o : Option Server). (at_server_there false i step places o).1) (sym there);
    }

reap_answer : (at : Option Point) → directory_answer (Told.GivenUp (option_map (λ (point : Point). point.0) at)) ≡ Some (said.GivenUp at)
reap_answer None = refl
reap_answer (Some point) = refl

pub reap_is_told : (who : Actor) (at : Option Point) (after : Directory) (places : Places)
    → (after, Told.GivenUp (option_map (λ (point : Point). point.0) at)) ≡ at_directory false actor.Operator 0 (DirectoryStep.Reap who) places.directory
    → IsStep (reap_told who at) (act_made actor.Operator (Act.AtDirectory (DirectoryStep.Reap who)) places)
reap_is_told who at after places made =
    record {
      who = refl;
      number = refl;
      short = refl;
      act = refl;
      answer = ap (λ (both : Directory × Told). directory_answer both.1) (sym made) ∙ reap_answer at;
    }
