use denote.Param.Send.{sendable}
use Rattle.run_seats.proofs.CallersCross.{sweeper_send}
use Rattle.run_seats.proofs.crossing.sweepers_cross.Goals as goal

pub for_each_mut-requires-send-T : goal.for_each_mut-requires-send-T
for_each_mut-requires-send-T g c κs within = search (sendable, sweeper_send)
