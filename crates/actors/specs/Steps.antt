-- The parts of a caller's turn: its call is ready, makes its step, and goes on or is over.
use Rattle.std.specs.Prelude.{◌≡◌, ⊤, Bool, false, ◌&&◌, ◌++◌, length, Option, Some}
use Rattle.store_map.specs.declared.script.Script.{Script}
use Rattle.store_core.specs.Agreement.{Agrees}
use Rattle.chunk_server.specs.State.{ServerState}
use Rattle.chunk_server.specs.Core.{core_of}
use Rattle.stripe_stamps.specs.Sealed.{Sealed}
use Rattle.call_steps.specs.declared.need.Need.{Need}
use Rattle.call_steps.specs.declared.need.Need.TheVariants as need
use Rattle.call_steps.specs.CallOf.{act_of}
use Rattle.call_steps.specs.Steps.{need_of, stepped_at_directory, stepped_at_server, HoldsItsPass, IsDueInPass}
use Rattle.call_steps.specs.Ready.{ready}
use Rattle.call_machine.specs.Kinds.{machine_of, IfPatches}
use Rattle.call_machine.specs.Calls.{ArePadded, MachineOf, drawn_by, owed_by, KnowsOldOf}
use Rattle.world_laws.specs.World.{DoingOf, steps_of}
use Rattle.world_laws.specs.ActorAfter.{IsCallBefore, actor_after}
use Rattle.world_laws.specs.Tokens.{token_of}
use Rattle.call_machine.specs.Going.{HasPlace, GoesOn}
use Rattle.actors.specs.Callers.{CallerOf, IsOfScript, Knows, work_of, asked_at}
use Rattle.actors.specs.Owing.{AreServed, left_by, owed_now}

-- in a call that begins memory was not wanting yet
abbrev pub IsAmpleFirst : DoingOf → MachineOf → Type 0
IsAmpleFirst (DoingOf.Between token) c = c.call.coding ≡ false
IsAmpleFirst (DoingOf.InCall call steps) c = ⊤

-- the call that a caller is in, or the next one before its first step
pub record IsCallOf (a : CallerOf) (c : MachineOf) : Type 0 where
  pub before : (script : Script) → IsOfScript script a → IsCallBefore script (work_of a.part).jobs a.actor.ended a.actor.doing c.call
  pub token : token_of a.actor.doing ≡ c.call.token
  pub asked : asked_at a.part (length a.actor.ended) ≡ Some c.asked
  pub owed : c.owed ≡ owed_now a.work
  pub ample : IsAmpleFirst a.actor.doing c

-- the caller in this call
abbrev pub in_work : MachineOf → CallerOf → CallerOf
in_work c a = record a { actor = record (a.actor) { doing = DoingOf.InCall c.call (steps_of a.actor.doing) }; work = Some c }

-- a caller whose next call begins where none is in work
pub record BeginsCall (a after : CallerOf) : Type 0 where
  pub call : MachineOf
  pub its : IsCallOf a call
  pub goes : GoesOn (need_of call.call)
  pub knows : (d : Sealed) → Knows d a → KnowsOldOf d call
  pub leaves : after ≡ in_work call a

-- a call after the coding before its next step, if one is due
pub record IsCodedCall (c now : MachineOf) : Type 0 where
  pub is_ready : now.call ≡ ready now.call.coding c.call
  pub place : HasPlace (need_of now.call)
  pub in_pass : IsDueInPass c.call
  pub pass : HoldsItsPass c.call
  pub asked : now.asked ≡ c.asked
  pub owed : (c.call.due && now.call.coding) ≡ false → now.owed ≡ c.owed
  pub knows : (d : Sealed) → KnowsOldOf d c → KnowsOldOf d now

-- a caller whose call is ready for its next step
pub record IsReady (a after : CallerOf) : Type 0 where
  pub call : MachineOf
  pub its : IsCallOf a call
  pub now : MachineOf
  pub coded : IsCodedCall call now
  pub leaves : after ≡ in_work now a

-- and whether memory was wanting in the coding before that step, if one was due
pub record IsReadyIn (short : Bool) (a after : CallerOf) : Type 0 where
  pub ready : IsReady a after
  pub short_is : short ≡ (ready.call.call.due && ready.now.call.coding)

-- a caller whose call has come to this value by its step: the call goes on, or it is over
pub record Concludes (a : CallerOf) (last : MachineOf) (after : CallerOf) : Type 0 where
  pub actor : after.actor ≡ actor_after last.call a.actor
  pub served : AreServed (act_of last.call) (machine_of last.asked) last.owed a.served after.served
  pub work : after.work ≡ left_by (act_of last.call) last
  pub same : after ≡ record a { actor = after.actor; work = after.work; served = after.served }

-- a step of a call at the directory
pub record MadeAtDirectory (c last : MachineOf) (d now : Sealed) : Type 0 where
  pub made : (now.core, last.call) ≡ stepped_at_directory last.call.step last.call.due c.call d.core
  pub agrees : Agrees now.core last.call.token
  pub asked : last.asked ≡ c.asked
  pub owed : last.owed ≡ owed_by last.call.step d c
  pub stamps : now.stamps ≡ d.stamps ++ drawn_by last.call.step d c

-- and at a server
pub record MadeAtServer (c last : MachineOf) (s now : ServerState) : Type 0 where
  pub made : (core_of now, last.call) ≡ stepped_at_server last.call.step last.call.due c.call (core_of s)
  pub asked : last.asked ≡ c.asked
  pub owed : last.owed ≡ c.owed

-- what a call in work is, before and after its coding, in which memory was wanting or not if one was due, and before and after its step at the directory or at a server
pub record IsCoded (short : Bool) (before after : Option MachineOf) : Type 0 where
  pub call : MachineOf
  pub was : before ≡ Some call
  pub now : MachineOf
  pub is : after ≡ Some now
  pub coded : IsCodedCall call now
  pub short_is : short ≡ (call.call.due && now.call.coding)

pub record GoesToDirectory (before : Option MachineOf) (d : Sealed) : Type 0 where
  pub call : MachineOf
  pub was : before ≡ Some call
  pub needs : need_of call.call ≡ need.Directory
  pub agrees : Agrees d.core call.call.token
  pub its : d.book ≡ call.call.book
  pub padded : IfPatches (machine_of call.asked) (ArePadded d)
  pub knows : KnowsOldOf d call

pub record GoesToServer (before : Option MachineOf) (s : ServerState) : Type 0 where
  pub call : MachineOf
  pub was : before ≡ Some call
  pub needs : need_of call.call ≡ need.Server s.number
  pub its : s.book ≡ call.call.book

pub record IsMadeThere (last : MachineOf) (before : Option MachineOf) (d : Sealed) (after : Option MachineOf) (now : Sealed) : Type 0 where
  pub call : MachineOf
  pub was : before ≡ Some call
  pub is : after ≡ Some last
  pub made : MadeAtDirectory call last d now
  pub knows : KnowsOldOf now last

pub record IsMadeHere (last : MachineOf) (before : Option MachineOf) (s : ServerState) (after : Option MachineOf) (now : ServerState) : Type 0 where
  pub call : MachineOf
  pub was : before ≡ Some call
  pub is : after ≡ Some last
  pub made : MadeAtServer call last s now
  pub knows : (d : Sealed) → KnowsOldOf d call → KnowsOldOf d last

-- a caller's step in its call, which this relation leads from a value to the last one
pub record MakesStep (made : MachineOf → MachineOf → Type 0) (last : MachineOf) (a after : CallerOf) : Type 0 where
  pub call : MachineOf
  pub was : a.work ≡ Some call
  pub step : made call last
  pub concludes : Concludes a last after

-- a caller in a call that needs this
pub record NeedsNow (a : CallerOf) (needs : Need) : Type 0 where
  pub call : MachineOf
  pub was : a.work ≡ Some call
  pub is : need_of call.call ≡ needs
