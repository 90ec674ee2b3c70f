-- What the step of an actor's turn makes in the core.
use Rattle.std.proofs.Common.{◌≡◌, ℕ, Bool, false, List, Option, Some, sym, ap, subst, ◌∙◌}
use Rattle.std.specs.List.{slice_get}
use Rattle.store_map.specs.Limits.{tries_of}
use Rattle.store_map.specs.declared.script.Script.{Script}
use Rattle.store_map.specs.declared.actor.Actor.{Actor}
use Rattle.store_core.specs.Lists.{change_at}
use Rattle.store_core.specs.Core.{Core}
use Rattle.store_core.specs.Act.{Act, DirectoryStep, ServerStep}
use Rattle.store_core.specs.Directory.{Directory}
use Rattle.store_core.specs.Server.{Server}
use Rattle.store_core.specs.Step.{Places, Shortage, actor_step}
use Rattle.store_core.specs.CallStep.{step_of}
use Rattle.store_core.specs.Run.{places_in}
use Rattle.store_core.specs.Work.{Work, Calling, has_step}
use Rattle.call_steps.specs.declared.need.Need.TheVariants as need
use Rattle.call_steps.specs.CallOf.{CallOf, act_of}
use Rattle.call_steps.specs.Steps.{need_of, stepped_at_directory, stepped_at_server}
use Rattle.call_steps.specs.Ready.{ready, shortage_of}
use Rattle.call_steps.specs.After.{StepsTo}
use Rattle.call_steps.specs.StandLaws.{HasPassOfItsKind}
use Rattle.call_steps.proofs.Needs.{needs_tell_acts}
use Rattle.call_steps.proofs.Steps.{steps_at_directory, steps_at_servers}
use Rattle.run_laws.specs.ShortageLaws.{may_turn}
use Rattle.world_laws.specs.World.{ActorOf}
use Rattle.world_laws.specs.Known.{calling_of}
use Rattle.world_laws.specs.StandsFor.{ActorStands, AllStand}
use Rattle.world_laws.specs.ActorAfter.{HasTurn, actor_after}
use Rattle.world_laws.proofs.Actors.{Found, found, same_turn}
use Rattle.world_laws.proofs.Turns.{Ready, ready_for, after_stands, steps_made}

-- an actor's step, the places after it and the actor for which it leaves one of the world
pub record Made (script : Script) (who : Actor) (core : Core) (work : Work) (works : Option Work) (callings : Option Calling) (shortage : Shortage) (d : Directory) (servers : List Server) (a : ActorOf) : Type 0 where
  pub after : Places × Calling
  pub made : step_of script shortage who works callings (places_in core) ≡ Some after
  pub directory : after.0.directory ≡ d
  pub servers_left : after.0.servers ≡ servers
  pub stands : ActorStands script work.jobs after.1 a

module _ (script : Script) (who : Actor) (core : Core) (d : Directory) (servers : List Server) (same_directory : core.directory ≡ d) (same_servers : core.servers ≡ servers)
    (works : List Work) (callings : List Calling) (actors : List ActorOf) (all : AllStand script works callings actors)
    (i : ℕ) (work : Work) (a : ActorOf) (is_work : slice_get works i ≡ Some work) (is_a : slice_get actors i ≡ Some a) where
  -- an actor that has no step
  pub none_turns : has_step work (calling_of script a) ≡ false → may_turn (slice_get works i) (slice_get callings i) ≡ false
  none_turns none =
      let one : Found script work callings a i = found script works callings actors i work a all is_work is_a in
      (λ k. may_turn (is_work k) (one.is_calling k)) ∙ same_turn script work one.calling a one.stands ∙ none

  module _ (c : CallOf) (coding short due : Bool) (turn : HasTurn script who work a c) where
    -- at the directory
    pub made_at_directory : need_of (ready coding c) ≡ need.Directory → HasPassOfItsKind d c
        → Made script who core work (slice_get works i) (slice_get callings i) (shortage_of coding short c) (stepped_at_directory short due (ready coding c) d).0 servers
        (actor_after (stepped_at_directory short due (ready coding c) d).1 a)
    made_at_directory needs its =
        let one : Found script work callings a i = found script works callings actors i work a all is_work is_a in
        let its_call : Ready script work.jobs one.calling c = ready_for script work.jobs one.calling a c one.stands turn.call in
        let acts : (step : DirectoryStep) × (act_of (ready coding c) ≡ Act.AtDirectory step) × ((ready coding c).due ≡ false) = needs_tell_acts.directory (ready coding c) needs in
        let after : Places × Calling = actor_step script.geometry (tries_of script) (shortage_of coding short c) who its_call.job one.calling (places_in core) in
        let stepped : Directory × CallOf = stepped_at_directory short due (ready coding c) core.directory in
        let steps : StepsTo script.geometry (tries_of script) its_call.job one.calling after (record (places_in core) { directory = stepped.0 }) stepped.1 =
        steps_at_directory script.geometry (tries_of script) its_call.job one.calling c who (places_in core) acts.0 coding short due its_call.stands turn.due turn.whose acts.1
        (subst (λ (e : Directory). HasPassOfItsKind e c) (sym same_directory) its) in
        record {
          after = after;
          made = steps_made script (shortage_of coding short c) who (places_in core) (slice_get works i) (slice_get callings i) work one.calling its_call.job is_work one.is_calling
              (same_turn script work one.calling a one.stands ∙ turn.may) its_call.is_next;
          directory = ap (λ (p : Places). p.directory) steps.places ∙ ap (λ (e : Directory). (stepped_at_directory short due (ready coding c) e).0) same_directory;
          servers_left = ap (λ (p : Places). p.servers) steps.places ∙ same_servers;
          stands =
              subst (λ (e : Directory). ActorStands script work.jobs after.1 (actor_after (stepped_at_directory short due (ready coding c) e).1 a)) same_directory
              (after_stands script work.jobs one.calling after.1 a its_call.job one.stands its_call.is_next stepped.1 steps.actor);
        }

    -- at a server
    pub made_at_server : (server : ℕ) (s : Server) → need_of (ready coding c) ≡ need.Server server → slice_get servers server ≡ Some s
        → Made script who core work (slice_get works i) (slice_get callings i) (shortage_of coding short c) d (change_at server (λ _. (stepped_at_server short due (ready coding c) s).0) servers)
        (actor_after (stepped_at_server short due (ready coding c) s).1 a)
    made_at_server server s needs there =
        let one : Found script work callings a i = found script works callings actors i work a all is_work is_a in
        let its_call : Ready script work.jobs one.calling c = ready_for script work.jobs one.calling a c one.stands turn.call in
        let acts : (step : ServerStep) × (act_of (ready coding c) ≡ Act.AtServer server step) × ((ready coding c).due ≡ false) = needs_tell_acts.server (ready coding c) server needs in
        let after : Places × Calling = actor_step script.geometry (tries_of script) (shortage_of coding short c) who its_call.job one.calling (places_in core) in
        let stepped : Server × CallOf = stepped_at_server short due (ready coding c) s in
        let steps : StepsTo script.geometry (tries_of script) its_call.job one.calling after (record (places_in core) { servers = change_at server (λ _. stepped.0) core.servers }) stepped.1 =
        steps_at_servers script.geometry (tries_of script) its_call.job one.calling c who (places_in core) server acts.0 s coding short due its_call.stands turn.due acts.1
        (ap (λ (l : List Server). slice_get l server) same_servers ∙ there) in
        record {
          after = after;
          made = steps_made script (shortage_of coding short c) who (places_in core) (slice_get works i) (slice_get callings i) work one.calling its_call.job is_work one.is_calling
              (same_turn script work one.calling a one.stands ∙ turn.may) its_call.is_next;
          directory = ap (λ (p : Places). p.directory) steps.places ∙ same_directory;
          servers_left = ap (λ (p : Places). p.servers) steps.places ∙ ap (change_at server (λ _. stepped.0)) same_servers;
          stands = after_stands script work.jobs one.calling after.1 a its_call.job one.stands its_call.is_next stepped.1 steps.actor;
        }
