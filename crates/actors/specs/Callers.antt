-- A caller of a store, a client or a repairer with its calls, as the layers above see it.
use Rattle.std.specs.Prelude.{◌≡◌, ℕ, List, [], length, map, Option, None, Some, IfSome, option_map}
use Rattle.std.specs.List.{slice_get}
use Rattle.store_map.specs.Limits.{tries_of}
use Rattle.store_map.specs.declared.actor.Actor.{Actor}
use Rattle.store_map.specs.declared.actor.Actor.TheVariants as actor
use Rattle.store_map.specs.declared.script.ClientPart.{ClientPart}
use Rattle.store_map.specs.declared.script.RepairPart.{RepairPart}
use Rattle.store_map.specs.declared.script.Script.{Script}
use Rattle.store_core.specs.NextAct.{job_of, rebuild_job}
use Rattle.store_core.specs.Agreement.{Seat, ActorToken}
use Rattle.store_core.specs.Work.{Work}
use Rattle.version_seal.specs.Entry.{BookOf}
use Rattle.stripe_stamps.specs.Sealed.{Sealed}
use Rattle.call_machine.specs.Kinds.{Asked, machine_of, IfPatches}
use Rattle.call_machine.specs.Calls.{ArePadded, MachineOf, KnowsOldOf}
use Rattle.world_laws.specs.World.{ActorOf}
use Rattle.world_laws.specs.FirstWorld.{new_actor}

-- the calls that it makes: those of a client, or the rebuilds of a repairer
pub data PartOf : Type 0 where
  OfClient : (part : ClientPart) → PartOf
  OfRepairer : (part : RepairPart) → PartOf

-- its calls, the book of the store, how often a write is tried, what has come of its calls, the one in work, and of each ended one the bytes that it was served
pub record CallerOf : Type 0 where
  pub part : PartOf
  pub book : BookOf
  pub tries : ℕ
  pub actor : ActorOf
  pub work : Option MachineOf
  pub served : List (Option (List ℕ))

-- before its first call
abbrev pub first_caller : PartOf → BookOf → ℕ → Seat → CallerOf
first_caller part book tries seat =
    record { part = part; book = book; tries = tries; actor = new_actor (ActorToken.Seated seat); work = None; served = [] }

-- how many calls it makes
abbrev pub calls_of : PartOf → ℕ
calls_of (PartOf.OfClient part) = length part.calls
calls_of (PartOf.OfRepairer part) = length part.calls

-- what it has to do
abbrev pub work_of : PartOf → Work
work_of (PartOf.OfClient part) = record { jobs = map job_of part.calls; leave = part.leave }
work_of (PartOf.OfRepairer part) = record { jobs = map rebuild_job part.calls; leave = part.leave }

-- who it is at this place of the script's clients, or of its repairers
abbrev pub who_of : PartOf → ℕ → Actor
who_of (PartOf.OfClient part) place = actor.Client place
who_of (PartOf.OfRepairer part) place = actor.Repairer place

-- what its call of this number asks, if there is one
abbrev pub asked_at : PartOf → ℕ → Option Asked
asked_at (PartOf.OfClient part) number = option_map Asked.OfClient (slice_get part.calls number)
asked_at (PartOf.OfRepairer part) number = option_map Asked.OfRepairer (slice_get part.calls number)

-- a caller of a store of this script
pub record IsOfScript (script : Script) (a : CallerOf) : Type 0 where
  pub book : a.book.script ≡ Some script
  pub code : a.book.geometry ≡ script.geometry
  pub tries : a.tries ≡ tries_of script

-- a part is that of the script's client, or repairer, at this place
abbrev pub StandsIn : Script → ℕ → PartOf → Type 0
StandsIn script place (PartOf.OfClient part) = slice_get script.clients place ≡ Some part
StandsIn script place (PartOf.OfRepairer part) = slice_get script.repairers place ≡ Some part

-- so it is in a book with a script
abbrev pub IsPartOf : BookOf → ℕ → PartOf → Type 0
IsPartOf book place part = IfSome book.script (λ script. StandsIn script place part)

-- a write in work knows the old bytes that it keeps, by a directory's stamps
abbrev pub Knows : Sealed → CallerOf → Type 0
Knows d a = IfSome a.work (KnowsOldOf d)

-- where the call in work is a write or a delete, behind the ends of a directory's objects its stamps have zeros
abbrev pub IsPaddedFor : CallerOf → Sealed → Type 0
IsPaddedFor a d = IfSome a.work (λ c. IfPatches (machine_of c.asked) (ArePadded d))
