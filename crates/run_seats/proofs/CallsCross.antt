-- Calls in work may go to other threads.
use denote.Ref.{NamedLft}
use denote.Enum.Enum.{Enum}
use denote.Enum.Declared as enum
use denote.Param.Send.{IsSend, IsSync, sendable, view_send, shr_send, recorded_send, recorded_sync, enum_send, enum_sync}
use denote.Param.SendFields.{declared_send}
use Rattle.std.proofs.Crossing.{crosses, send}
use Rattle.store_map.specs.contracts.call.Call as call
use Rattle.store_map.specs.contracts.content.Content as content
use Rattle.store_map.specs.contracts.name.Name as name
use Rattle.store_map.specs.contracts.call.Rebuild as rebuild
use Rattle.version_seal.specs.contracts.chunk.SealedChunk as chunk
use Rattle.gathering.specs.contracts.gather.Gather as gather
use Rattle.call_steps.specs.contracts.outcomes.Outcome as outcome
use Rattle.call_steps.specs.contracts.seen.Seen as seen
use Rattle.dir_tickets.specs.contracts.ticket.Ticket as ticket
use Rattle.gather_parts.specs.contracts.gatherings.PartGatherings as gatherings
use Rattle.write_course.specs.contracts.writing.Writing as writing
use Rattle.client_read.specs.contracts.read_call.ReadCall.TheInside as read_inside
use Rattle.client_read.specs.contracts.read_call.ReadCall as read
use Rattle.client_put.specs.contracts.put.PutCall.TheInside as put_inside
use Rattle.client_put.specs.contracts.put.PutCall as put
use Rattle.client_patch.specs.contracts.patch.PatchCall.TheInside as patch_inside
use Rattle.client_patch.specs.contracts.patch.PatchCall as patch
use Rattle.repairer.specs.contracts.repair_call.RepairCall.TheInside as repair_inside
use Rattle.repairer.specs.contracts.repair_call.RepairCall as repair
use Rattle.call_machine.specs.contracts.call_machine.MachineKind as kind
use Rattle.call_machine.specs.contracts.call_machine.Task as task
use Rattle.call_machine.specs.contracts.call_machine.CallMachine.TheInside as machine_inside
use Rattle.call_machine.specs.contracts.call_machine.CallMachine as machine
use Rattle.run_seats.proofs.ChunksCross.{stamp_send, chunk_send}
use Rattle.run_seats.proofs.ServersCross.{opening_send}
use Rattle.run_seats.proofs.LocksCross.{option_send}

-- what is asked is borrowed, so it is shared
name_sync : IsSync name.the_row
name_sync = search (sendable, crosses) depth 60 fits 20000

content_sync : IsSync content.the_field.row
content_sync = search (sendable, crosses) depth 60 fits 20000

pub call_sync : IsSync call.the_row
call_sync =
    let T = call.the_type in
    recorded_sync (Enum (enum.shape T)) T.D T.to T.to_one (enum_sync (enum.shape T) (
      (name_sync, (content_sync, tt)),
      (
        (name_sync, (search sendable, (content_sync, tt))),
        ((name_sync, tt), ((name_sync, (search sendable, (search sendable, tt))), ((name_sync, tt), ((name_sync, tt), tt)))),
      ),
    ))

pub rebuild_sync : IsSync rebuild.the_row
rebuild_sync = search (sendable, crosses) depth 40

pub outcome_send : IsSend outcome.the_row
outcome_send = search (sendable, crosses) depth 40

pub ticket_send : IsSend ticket.the_row
ticket_send = search (sendable, crosses) depth 40

pub seen_send : IsSend seen.the_row
seen_send = search (sendable, crosses, stamp_send) depth 40

pub gather_send : IsSend gather.the_row
gather_send = search (sendable, crosses, stamp_send) depth 60 fits 20000

pub gatherings_send : IsSend gatherings.the_row
gatherings_send = search (opening_send, stamp_send, sendable, crosses) depth 60 fits 20000

pub writing_send : IsSend writing.the_row
writing_send = search (opening_send, stamp_send, sendable, crosses) depth 60 fits 20000

read_send : (ν : NamedLft) → IsSend (read.the_row ν)
read_send ν = view_send (read_inside.the_row ν) _ _ _ _ (declared_send (read_inside.the_type ν)
    (search sendable depth 20, (ticket_send, (shr_send _ _ _ call_sync, (search sendable, (gatherings_send, (search sendable depth 20, (outcome_send, (search sendable, (search sendable, tt))))))))))

patch_send : (ν : NamedLft) → IsSend (patch.the_row ν)
patch_send ν = view_send (patch_inside.the_row ν) _ _ _ _ (declared_send (patch_inside.the_type ν) (
  send,
  (
    search sendable depth 20,
    (
      ticket_send,
      (
        search sendable depth 20,
        (
          shr_send _ _ _ call_sync,
          (
            search sendable,
            (
              search sendable,
              (opening_send, (search sendable, (gatherings_send, (writing_send, (search (sendable, crosses) depth 20, (outcome_send, (search sendable, (search sendable, tt)))))))),
            ),
          ),
        ),
      ),
    ),
  ),
))

-- a put is a write that keeps no old bytes
put_send : (ν : NamedLft) → IsSend (put.the_row ν)
put_send ν = view_send (put_inside.the_row ν) _ _ _ _ (declared_send (put_inside.the_type ν) (patch_send ν, tt))

repair_send : (ν : NamedLft) → IsSend (repair.the_row ν)
repair_send ν = view_send (repair_inside.the_row ν) _ _ _ _ (declared_send (repair_inside.the_type ν) (
  search sendable depth 20,
  (
    ticket_send,
    (
      shr_send _ _ _ rebuild_sync,
      (
        search sendable,
        (
          opening_send,
          (
            option_send seen.the_row seen_send,
            (
              search sendable depth 20,
              (
                option_send gather.the_row gather_send,
                (option_send chunk.the_row chunk_send, (search (sendable, crosses) depth 40, (search sendable, (search (sendable, crosses) depth 40, (search sendable, (search sendable, (search sendable, tt))))))),
              ),
            ),
          ),
        ),
      ),
    ),
  ),
))

kind_send : (ν : NamedLft) → IsSend (kind.the_row ν)
kind_send ν =
    let T = kind.the_type ν in
    recorded_send (Enum (enum.shape T)) T.D T.to T.to_one (enum_send (enum.shape T) ((read_send ν, tt), ((put_send ν, tt), ((patch_send ν, tt), ((repair_send ν, tt), tt)))))

task_send : (ν : NamedLft) → IsSend (task.the_row ν)
task_send ν =
    let T = task.the_type ν in
    recorded_send (Enum (enum.shape T)) T.D T.to T.to_one (enum_send (enum.shape T) ((shr_send _ _ _ call_sync, tt), ((shr_send _ _ _ rebuild_sync, tt), tt)))

pub machine_send : (ν : NamedLft) → IsSend (machine.the_row ν)
machine_send ν = view_send (machine_inside.the_row ν) _ _ _ _ (declared_send (machine_inside.the_type ν) (kind_send ν, (task_send ν, tt)))
