-- Callers and the sweeper may go to other threads.
use denote.Ref.{NamedLft}
use denote.Enum.Enum.{Enum}
use denote.Enum.Declared as enum
use denote.Param.Send.{IsSend, sendable, view_send, shr_send, recorded_send, enum_send}
use denote.Param.SendFields.{declared_send}
use Rattle.std.proofs.Crossing.{crosses, send, Vec-send}
use Rattle.stripe_dir.specs.contracts.tokens.Seat as seat
use Rattle.call_machine.specs.contracts.call_machine.CallMachine as machine
use Rattle.call_steps.specs.contracts.caller_calls.EndedCall as ended
use Rattle.sweeper.specs.contracts.sweeper.Sweeper as sweeper
use Rattle.actors.specs.contracts.part.CallerPart as part
use Rattle.actors.specs.contracts.caller.Caller.TheInside as inside
use Rattle.actors.specs.contracts.caller.Caller as caller
use Rattle.run_seats.proofs.ServersCross.{opening_send}
use Rattle.run_seats.proofs.LocksCross.{option_send}
use Rattle.run_seats.proofs.CallsCross.{machine_send}
use Rattle.run_seats.proofs.ScriptsCross.{client_part_sync, repair_part_sync}

part_send : (ν : NamedLft) → IsSend (part.the_row ν)
part_send ν =
    let T = part.the_type ν in
    recorded_send (Enum (enum.shape T)) T.D T.to T.to_one (enum_send (enum.shape T) ((shr_send _ _ _ client_part_sync, tt), ((shr_send _ _ _ repair_part_sync, tt), tt)))

seat_send : IsSend seat.the_row
seat_send = search (sendable, crosses) depth 40

ended_send : IsSend ended.the_row
ended_send = search (sendable, crosses) depth 60 fits 20000

pub caller_send : (ν : NamedLft) → IsSend (caller.the_row ν)
caller_send ν = view_send (inside.the_row ν) _ _ _ _ (declared_send (inside.the_type ν) (
  send,
  (
    part_send ν,
    (
      opening_send,
      (
        search sendable,
        (
          option_send seat.the_row seat_send,
          (
            option_send (machine.the_row ν) (machine_send ν),
            (search sendable, (Vec-send ended.the_row ended_send, tt)),
          ),
        ),
      ),
    ),
  ),
))

pub sweeper_send : IsSend sweeper.the_row
sweeper_send = search (sendable, crosses) depth 40
