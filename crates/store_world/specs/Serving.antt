-- That a client's calls read the map's reply at the points of their looks.
use Rattle.std.specs.Prelude.{◌≡◌, ℕ, ◌<◌, List, length, Option, None, Some, option_map, IfSome}
use Rattle.std.specs.List.{slice_get}
use Rattle.store_map.specs.Limits.{size_of}
use Rattle.store_map.specs.declared.actor.Actor.TheVariants as actor
use Rattle.store_map.specs.declared.reply.Reply.TheVariants as reply
use Rattle.store_map.specs.declared.script.Script.{Script}
use Rattle.store_core.specs.Act.{Outcome}
use Rattle.store_core.specs.Directory.{Point}
use Rattle.store_core.specs.History.{call_of}
use Rattle.call_steps.specs.CallOf.{CallOf}
use Rattle.call_machine.specs.Kinds.{Asked, asked_job, Machine, machine_of, IfReads}
use Rattle.call_machine.specs.Calls.{MachineOf}
use Rattle.world_laws.specs.Served.{owed_at}
use Rattle.world_laws.specs.World.{DoingOf}
use Rattle.actors.specs.Callers.{CallerOf}
use Rattle.call_machine.specs.Pinned.{pinned_at}
use Rattle.store_world.specs.Looked.{HasLooked}

-- these bytes are the map's reply to the client's call with this number, at a point that stands in the history
pub record IsReplyAt (script : Script) (points : List Point) (i number place : ℕ) (bytes : List ℕ) : Type 0 where
  pub within : place < length points
  pub reply : owed_at (size_of script) (call_of script) points place i number ≡ reply.Bytes bytes

-- what the client's call with this number asks
abbrev pub client_asks : Script → ℕ → ℕ → Option Asked
client_asks script i number = option_map Asked.OfClient (call_of script (actor.Client i) number)

-- a call that reads what a look at this point has pinned, and the bytes are the map's reply there
pub record OwesAt (script : Script) (points : List Point) (i number : ℕ) (c : MachineOf) (place : ℕ) : Type 0 where
  pub reads : machine_of c.asked ≡ Machine.Reads
  pub owed : IsReplyAt script points i number place c.owed

-- a call in work is the script's and has its job, one that reads has looked, and it owes what its look has pinned
pub record OwesItsPins (script : Script) (points : List Point) (i number : ℕ) (c : MachineOf) : Type 0 where
  pub its : client_asks script i number ≡ Some c.asked
  pub job : c.call.job ≡ asked_job c.asked
  pub looked : IfReads (machine_of c.asked) (HasLooked c.call.state.at)
  pub owes : IfSome (pinned_at c.call.state.at) (OwesAt script points i number c)

-- what is in work is this call, and this holds of it
pub record HasInWork (holds : MachineOf → Type 0) (call : CallOf) (work : Option MachineOf) : Type 0 where
  pub c : MachineOf
  pub is : work ≡ Some c
  pub same : c.call ≡ call
  pub held : holds c

-- by what the client does
abbrev pub IsInWork : (MachineOf → Type 0) → DoingOf → Option MachineOf → Type 0
IsInWork holds (DoingOf.Between token) work = work ≡ None
IsInWork holds (DoingOf.InCall call steps) work = HasInWork holds call work

-- of a client's calls: the one in work owes its pins, and each ended one that was served at a point was served the map's reply there
pub record ServesItsPins (script : Script) (points : List Point) (i : ℕ) (a : CallerOf) : Type 0 where
  pub work : IsInWork (OwesItsPins script points i (length a.actor.ended)) a.actor.doing a.work
  pub count : length a.served ≡ length a.actor.ended
  pub ended :
      (number place : ℕ) (bytes : List ℕ) → option_map (λ ended. ended.outcome) (slice_get a.actor.ended number) ≡ Some (Outcome.Served place) →
      slice_get a.served number ≡ Some (Some bytes) → IsReplyAt script points i number place bytes
