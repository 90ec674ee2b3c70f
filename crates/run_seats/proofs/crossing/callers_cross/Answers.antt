use denote.Param.Send.{sendable}
use Rattle.run_seats.proofs.CallersCross.{caller_send}
use Rattle.run_seats.proofs.ScriptsCross.{script_sync}
use Rattle.run_seats.proofs.crossing.callers_cross.Goals as goal

pub for_each_mut-requires-send-T : goal.for_each_mut-requires-send-T
for_each_mut-requires-send-T g c κs within = search (sendable, caller_send)

pub for_each_mut-requires-sync-F : goal.for_each_mut-requires-sync-F
for_each_mut-requires-sync-F g c κs within = search (sendable, script_sync) depth 20
