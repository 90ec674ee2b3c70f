use denote.Param.Send.{sendable}
use Rattle.run_seats.proofs.BooksCross.{book_sync}
use Rattle.run_seats.proofs.ServersCross.{server_send}
use Rattle.run_seats.proofs.crossing.servers_cross.Goals as goal

pub for_each_mut-requires-send-T : goal.for_each_mut-requires-send-T
for_each_mut-requires-send-T g c κs within = search (sendable, server_send)

pub for_each_mut-requires-sync-F : goal.for_each_mut-requires-sync-F
for_each_mut-requires-sync-F g c κs within = search (sendable, book_sync) depth 20
