-- The fields of a caller after its call's step.
use Rattle.std.specs.Prelude.{◌≡◌, ℕ, List, map, Option, IfSome}
use Rattle.clay_grid.specs.Shape.{chunk_count}
use Rattle.store_core.specs.Agreement.{Seat}
use Rattle.call_steps.specs.CallOf.{act_of}
use Rattle.call_steps.specs.Steps.{need_of}
use Rattle.call_machine.specs.Kinds.{machine_of}
use Rattle.call_machine.specs.Calls.{MachineOf}
use Rattle.call_steps.specs.declared.caller_calls.EndedCall.{EndedCall}
use Rattle.call_steps.specs.CallerCalls.{ended_of}
use Rattle.world_laws.specs.World.{ActorOf, steps_of}
use Rattle.world_laws.specs.ActorAfter.{actor_after}
use Rattle.call_machine.specs.Going.{GoesOn}
use Rattle.actors.specs.Owing.{AreServed, left_by}
use Rattle.actors.specs.Inside.{doing_by, served_of, HasEither}

-- the calls that have ended, the call in work, the seat and the steps, where the call had come to this value after so many steps
pub record IsConcluded (c : MachineOf) (made : ℕ) (ended last : List EndedCall) (call : Option MachineOf) (seat : Option Seat) (steps : ℕ) : Type 0 where
  pub actor :
      (a : ActorOf) → a.ended ≡ map (ended_of (chunk_count c.call.book.geometry)) ended → steps_of a.doing ≡ made →
      record { ended = map (ended_of (chunk_count c.call.book.geometry)) last; doing = doing_by seat call steps } ≡ actor_after c.call a
  pub served : AreServed (act_of c.call) (machine_of c.asked) c.owed (served_of ended) (served_of last)
  pub work : call ≡ left_by (act_of c.call) c
  pub goes : IfSome call (λ kept. (kept ≡ c) × GoesOn (need_of kept.call) × (last ≡ ended))
  pub either : HasEither seat call
