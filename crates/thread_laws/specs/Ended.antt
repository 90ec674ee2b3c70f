-- Actors that have made their steps to their end.
use Rattle.std.specs.Prelude.{◌≡◌, ℕ, false, List, [], IfSome}
use Rattle.std.specs.List.{slice_get}
use Rattle.store_map.specs.declared.actor.Actor.TheVariants as actor
use Rattle.store_map.specs.declared.script.Script.{Script}
use Rattle.store_core.specs.Core.{Core, first_core}
use Rattle.store_core.specs.Work.{Work, Calling, client_work, repairer_work, has_step}
use Rattle.thread_laws.specs.AtPlaces.{after_all}
use Rattle.thread_laws.specs.Histories.{Histories, StandTwice, GoOn}
use Rattle.thread_laws.specs.Lines.{lines_next}
use Rattle.thread_laws.specs.Merging.{EndAs}
use Rattle.thread_laws.specs.Threaded.{lines_of}

-- of a group of actors with this work none has a step left
abbrev pub NoneHasAStep : List Work → List Calling → Type 0
NoneHasAStep works callings = (i : ℕ) → IfSome (slice_get works i) (λ work. IfSome (slice_get callings i) (λ calling. has_step work calling ≡ false))

-- each call has ended, but for one that was left at its step limit
pub record HaveEnded (script : Script) (core : Core) : Type 0 where
  pub clients : NoneHasAStep (client_work script) core.clients
  pub repairers : NoneHasAStep (repairer_work script) core.repairers

-- steps that were made apart, at places and by actors, from the first core on: each actor has made its steps to its end, the operator all its lines, and a core ends as the lists say
pub record RanApart (script : Script) (h : Histories) (end : Core) : Type 0 where
  pub twice : StandTwice h
  pub go : GoOn script (lines_of script) (first_core script) h.at h.of
  pub lines : after_all lines_next (h.of actor.Operator) (lines_of script) ≡ []
  pub ends : EndAs script (first_core script) h.at h.of end
  pub ended : HaveEnded script end
