-- A machine of a call does step by step what the store's definitions say of its actor.
use Rattle.std.specs.Prelude.{◌≡◌, ℕ, Bool, true, length, IfSome, Some}
use Rattle.std.specs.List.{slice_get}
use Rattle.clay_grid.specs.Shape.{Shape}
use Rattle.store_map.specs.declared.actor.Actor.{Actor}
use Rattle.store_core.specs.Lists.{change_at}
use Rattle.store_core.specs.Act.{Act, DirectoryStep, ServerStep}
use Rattle.store_core.specs.NextAct.{Job, next_act}
use Rattle.store_core.specs.Directory.{Directory}
use Rattle.store_core.specs.Lookups.{pass_of}
use Rattle.store_core.specs.Tokens.{actor_of}
use Rattle.store_core.specs.Server.{Server}
use Rattle.store_core.specs.Step.{Places, actor_step}
use Rattle.store_core.specs.Work.{Calling}
use Rattle.call_steps.specs.CallOf.{CallOf, act_of}
use Rattle.call_steps.specs.Steps.{stepped_at_directory, stepped_at_server, IsDueInPass}
use Rattle.call_steps.specs.Stands.{Stands, IsFirst, IsBetweenCalls}
use Rattle.call_steps.specs.Ready.{ready, shortage_of, actor_coded}
use Rattle.call_steps.specs.After.{StepsTo}

-- the machine of an actor's next call stands for it before the first step
abbrev pub FirstsStand : Type 0
FirstsStand =
    (g : Shape) (tries : ℕ) (job : Job) (actor : Calling) (c : CallOf) → IsFirst g tries job (length actor.ended) c → IsBetweenCalls g actor →
    Stands g tries job actor c

-- a machine that stands for its actor does next what the actor does; after a coding it stands for the actor that was told of it first; a coding that wants memory leads to the end of the pass
pub record ActsStand : Type 0 where
  pub now : (g : Shape) (tries : ℕ) (job : Job) (actor : Calling) (c : CallOf) → Stands g tries job actor c → next_act g tries job actor.told ≡ act_of c
  pub coded :
      (g : Shape) (tries : ℕ) (job : Job) (actor : Calling) (c : CallOf) (coding : Bool) → Stands g tries job actor c → IsDueInPass c →
      Stands g tries job (actor_coded g job coding c actor) (ready coding c)
  pub next :
      (g : Shape) (tries : ℕ) (job : Job) (actor : Calling) (c : CallOf) (coding : Bool) → Stands g tries job actor c → IsDueInPass c →
      next_act g tries job (actor_coded g job coding c actor).told ≡ act_of (ready coding c)
  pub wanting : (c : CallOf) → c.due ≡ true → IsDueInPass c → act_of (ready true c) ≡ Act.AtDirectory DirectoryStep.End

-- the pass that the directory has of the call's actor, if it has one, is of a call of this kind
abbrev pub HasPassOfItsKind : Directory → CallOf → Type 0
HasPassOfItsKind d c = IfSome (pass_of (actor_of c.token) d) (λ pass. pass.note.kind ≡ c.job.note.kind)

-- a step at the directory
abbrev pub StepsAtDirectory : Type 0
StepsAtDirectory =
    (g : Shape) (tries : ℕ) (job : Job) (actor : Calling) (c : CallOf) (who : Actor) (places : Places) (step : DirectoryStep) (coding short due : Bool) →
    Stands g tries job actor c → IsDueInPass c → actor_of c.token ≡ who → act_of (ready coding c) ≡ Act.AtDirectory step → HasPassOfItsKind places.directory c →
    let stepped : Directory × CallOf = stepped_at_directory short due (ready coding c) places.directory in
    StepsTo g tries job actor (actor_step g tries (shortage_of coding short c) who job actor places) (record places { directory = stepped.0 }) stepped.1

-- a step at a server that is there
abbrev pub StepsAtServers : Type 0
StepsAtServers =
    (g : Shape) (tries : ℕ) (job : Job) (actor : Calling) (c : CallOf) (who : Actor) (places : Places) (server : ℕ) (step : ServerStep) (s : Server)
    (coding short due : Bool) →
    Stands g tries job actor c → IsDueInPass c → act_of (ready coding c) ≡ Act.AtServer server step → slice_get places.servers server ≡ Some s →
    let stepped : Server × CallOf = stepped_at_server short due (ready coding c) s in
    StepsTo g tries job actor (actor_step g tries (shortage_of coding short c) who job actor places)
    (record places { servers = change_at server (λ _. stepped.0) places.servers }) stepped.1
