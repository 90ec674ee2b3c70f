-- A history for each place and for each actor, and when together they are what a run leaves.
use Rattle.std.specs.Prelude.{◌≡◌, ℕ, List, [], filter, Option, None, Some}
use Rattle.std.specs.List.{slice_get}
use Rattle.store_map.specs.declared.script.Script.{Script}
use Rattle.store_map.specs.declared.actor.Actor.{Actor}
use Rattle.store_map.specs.declared.actor.Actor.TheVariants as actor
use Rattle.store_map.specs.declared.actor.Token.{Token}
use Rattle.store_core.specs.ActPlace.{ActPlace}
use Rattle.store_core.specs.Work.{Work, Calling, client_work, repairer_work}
use Rattle.store_core.specs.Core.{Core}
use Rattle.thread_laws.specs.MadeSteps.{MadeStep, is_by, is_at, MomentsRise, MomentsDontFall}
use Rattle.thread_laws.specs.AtPlaces.{AllCome, directory_next, DirectoryAnswers, server_next, ServerAnswers}
use Rattle.thread_laws.specs.ByActors.{calling_next, IsNext, sweeper_next, IsNextSweep}
use Rattle.thread_laws.specs.Lines.{lines_next, IsNextLine}

-- a list of steps for each place, and one for each actor
pub record Histories : Type 0 where
  pub at : ActPlace → List MadeStep
  pub of : Actor → List MadeStep

-- each step stands once in its place's list and once in its actor's list, in one order, and moments rise strictly along each list
pub record StandTwice (h : Histories) : Type 0 where
  pub here : (place : ActPlace) → filter (is_at place) (h.at place) ≡ h.at place
  pub own : (who : Actor) → filter (is_by who) (h.of who) ≡ h.of who
  pub both : (place : ActPlace) (who : Actor) → filter (is_by who) (h.at place) ≡ filter (is_at place) (h.of who)
  pub rise_at : (place : ActPlace) → MomentsRise (h.at place)
  pub rise_of : (who : Actor) → MomentsRise (h.of who)

-- the steps may come in this order from a server or an actor on; at one that isn't there none is made
abbrev pub ComeIfThere : {S : Type 0} → (List MadeStep → S → Type 0) → List MadeStep → Option S → Type 0
ComeIfThere Come steps None = steps ≡ []
ComeIfThere Come steps (Some s) = Come steps s

-- the steps of an actor with this work
abbrev pub ComeOfActor : Script → List MadeStep → Option Work → Option Calling → Type 0
ComeOfActor script steps None calling = steps ≡ []
ComeOfActor script steps (Some work) calling = ComeIfThere (AllCome (calling_next script work) (IsNext script work)) steps calling

-- from a core on, each place gives the answers that its list names, and each actor makes the steps of its list; the operator has these lines to make
pub record GoOn (script : Script) (lines : List Token) (core : Core) (at : ActPlace → List MadeStep) (of : Actor → List MadeStep) : Type 0 where
  pub directory : AllCome directory_next DirectoryAnswers (at ActPlace.Directory) core.directory
  pub servers : (j : ℕ) → ComeIfThere (AllCome server_next ServerAnswers) (at (ActPlace.Server j)) (slice_get core.servers j)
  pub clients : (i : ℕ) → ComeOfActor script (of (actor.Client i)) (slice_get (client_work script) i) (slice_get core.clients i)
  pub repairers : (i : ℕ) → ComeOfActor script (of (actor.Repairer i)) (slice_get (repairer_work script) i) (slice_get core.repairers i)
  pub sweeper : AllCome (sweeper_next script) (IsNextSweep script) (of actor.Sweeper) core.sweeper
  pub operator : AllCome lines_next IsNextLine (of actor.Operator) lines

-- a list of all steps in the order of their moments
pub record IsInOrder (h : Histories) (steps : List MadeStep) : Type 0 where
  pub order : MomentsDontFall steps
  pub of : (who : Actor) → filter (is_by who) steps ≡ h.of who
