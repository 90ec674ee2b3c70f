-- Boxes, turns and seated callers may go to other threads, and threads may share the store.
use denote.Ref.{NamedLft}
use denote.Enum.Enum.{Enum}
use denote.Enum.Declared as enum
use denote.Struct.Declared as struct
use denote.Param.Send.{IsSend, IsSync, sendable, struct_send, recorded_send, enum_send, shr_sync}
use denote.Param.SendFields.{declared_send, declared_sync}
use Rattle.std.proofs.Crossing.{crosses, Vec-send, Vec-sync}
use Rattle.std.specs.contracts.vec.Vec as vec
use Rattle.std.specs.contracts.alloc.Global as heap
use Rattle.std.specs.contracts.impls.GlobalAllocator.TheImpl.{ghosts}
use Rattle.store_map.specs.contracts.actor.Token as token
use Rattle.turn_lock.specs.contracts.lock.Turn as turn
use Rattle.turn_lock.specs.contracts.lock.Lock as lock
use Rattle.run_seats.proofs.BooksCross.{book_sync}
use Rattle.run_seats.proofs.CallersCross.{caller_send, sweeper_send}
use Rattle.run_seats.proofs.DirectoriesCross.{directory_send}
use Rattle.run_seats.proofs.LocksCross.{turn_send, lock_sync}
use Rattle.run_seats.proofs.ScriptsCross.{script_sync}
use Rattle.run_seats.proofs.ServersCross.{server_send}
use Rattle.run_seats.specs.contracts.directory_box.DirectoryBox as directory_box
use Rattle.run_seats.specs.contracts.directory_box.DirectoryBoxHistoried.TheImpl as directory_ghosts
use Rattle.run_seats.specs.contracts.directory_box.DirectoryIdentity as directory_fixed
use Rattle.run_seats.specs.contracts.directory_box.DirectoryNote as directory_note
use Rattle.run_seats.specs.contracts.server_box.ServerBox as server_box
use Rattle.run_seats.specs.contracts.server_box.ServerBoxHistoried.TheImpl as server_ghosts
use Rattle.run_seats.specs.contracts.server_box.ServerIdentity as server_fixed
use Rattle.run_seats.specs.contracts.server_box.StepNote as step_note
use Rattle.run_seats.specs.contracts.seated.Seated as seated
use Rattle.run_seats.specs.contracts.seated_actor.SeatedActor as actor
use Rattle.run_seats.specs.contracts.seated_operator.SeatedOperator as operator
use Rattle.run_seats.specs.contracts.seated_sweeper.SeatedSweeper as sweeper
use Rattle.run_seats.specs.contracts.shift.Shifts as shifts
use Rattle.run_seats.specs.contracts.store.Store as store
use Rattle.run_seats.specs.contracts.seat_turns.Turns as turns
use Rattle.run_seats.specs.contracts.workers.Worker as worker

server_box_send : IsSend server_box.the_row
server_box_send = declared_send server_box.the_type (server_send, (search sendable, (search sendable, tt)))

directory_box_send : IsSend directory_box.the_row
directory_box_send = declared_send directory_box.the_type (directory_send, (search sendable, (search sendable, (search sendable, tt))))

directory_turn_send : IsSend (turn.the_row directory_box.the_row directory_fixed.the_row directory_note.the_row directory_ghosts.ghosts)
directory_turn_send = turn_send _ directory_fixed.the_row directory_note.the_row directory_ghosts.ghosts directory_box_send

server_turn_send : IsSend (turn.the_row server_box.the_row server_fixed.the_row step_note.the_row server_ghosts.ghosts)
server_turn_send = turn_send _ server_fixed.the_row step_note.the_row server_ghosts.ghosts server_box_send

directory_lock_sync : IsSync (lock.the_row directory_box.the_row directory_fixed.the_row directory_note.the_row directory_ghosts.ghosts)
directory_lock_sync = lock_sync _ directory_fixed.the_row directory_note.the_row directory_ghosts.ghosts directory_box_send

server_lock_sync : IsSync (lock.the_row server_box.the_row server_fixed.the_row step_note.the_row server_ghosts.ghosts)
server_lock_sync = lock_sync _ server_fixed.the_row step_note.the_row server_ghosts.ghosts server_box_send

server_turns_send : IsSend (vec.the_row (turn.the_row server_box.the_row server_fixed.the_row step_note.the_row server_ghosts.ghosts) heap.the_row ghosts)
server_turns_send = Vec-send (turn.the_row server_box.the_row server_fixed.the_row step_note.the_row server_ghosts.ghosts) server_turn_send

server_locks_sync : IsSync (vec.the_row (lock.the_row server_box.the_row server_fixed.the_row step_note.the_row server_ghosts.ghosts) heap.the_row ghosts)
server_locks_sync = Vec-sync (lock.the_row server_box.the_row server_fixed.the_row step_note.the_row server_ghosts.ghosts) server_lock_sync

pub store_sync : (ν : NamedLft) → IsSync (store.the_row ν)
store_sync ν = declared_sync (store.the_type ν) (shr_sync _ _ _ script_sync, (directory_lock_sync, (server_locks_sync, (shr_sync _ _ _ book_sync, tt))))

pub shifts_sync : IsSync shifts.the_row
shifts_sync = declared_sync shifts.the_type (search sendable, (search crosses, (search crosses, tt)))

token_send : IsSend token.the_row
token_send = search sendable depth 20

-- actors and their turns, by their rows as an enum has them
turns_row_send : IsSend turns.the_field.row
turns_row_send = struct_send (struct.shape turns.the_type) (search sendable, (directory_turn_send, (server_turns_send, tt)))

seated_row_send : (ν : NamedLft) → IsSend (seated.the_field ν).row
seated_row_send ν = struct_send (struct.shape (seated.the_type ν)) (caller_send ν, (search sendable depth 20, (search sendable, (search sendable, (turns_row_send, tt)))))

sweeper_row_send : IsSend sweeper.the_field.row
sweeper_row_send = struct_send (struct.shape sweeper.the_type) (sweeper_send, (search sendable, (turns_row_send, tt)))

operator_row_send : IsSend operator.the_field.row
operator_row_send = struct_send (struct.shape operator.the_type) (Vec-send token.the_row token_send, (search sendable, (turns_row_send, tt)))

actor_send : (ν : NamedLft) → IsSend (actor.the_row ν)
actor_send ν =
    let T = actor.the_type ν in
    recorded_send (Enum (enum.shape T)) T.D T.to T.to_one (enum_send (enum.shape T) ((seated_row_send ν, tt), ((sweeper_row_send, tt), ((operator_row_send, tt), tt))))

pub worker_send : (ν : NamedLft) → IsSend (worker.the_row ν)
worker_send ν = declared_send (worker.the_type ν) (Vec-send (actor.the_row ν) (actor_send ν), tt)
