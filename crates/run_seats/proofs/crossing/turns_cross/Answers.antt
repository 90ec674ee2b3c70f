use denote.Param.Send.{sendable}
use Rattle.run_seats.proofs.LocksCross.{turn_send, lock_sync}
use Rattle.run_seats.proofs.crossing.turns_cross.Goals as goal

pub for_each_mut-requires-send-T : goal.for_each_mut-requires-send-T
for_each_mut-requires-send-T g c κs within = search (sendable, turn_send)

pub for_each_mut-requires-sync-F : goal.for_each_mut-requires-sync-F
for_each_mut-requires-sync-F g c κs within = search (sendable, lock_sync) depth 20
