use Rattle.std.proofs.Common.{length}
use Rattle.store_world.proofs.First.{clients_first, enough_clients, repairers_next, enough_repairers}
use Rattle.store_world.proofs.new_world.seat_all.Goals as goal

pub seat_clients-requires-clause-seats : goal.seat_clients-requires-clause-seats
seat_clients-requires-clause-seats c = clients_first c.args.seats.now.items (length c.args.script.now.clients) (length c.args.script.now.repairers) c.requires.seats

pub seat_clients-requires-clause-enough : goal.seat_clients-requires-clause-enough
seat_clients-requires-clause-enough c = enough_clients c.args.seats.now.items (length c.args.script.now.clients) (length c.args.script.now.repairers) c.requires.seats

pub seat_repairers-requires-clause-seats : goal.seat_repairers-requires-clause-seats
seat_repairers-requires-clause-seats c = repairers_next c.args.seats.now.items c.seat_clients.new.seats.items (length c.args.script.now.clients) (length c.args.script.now.repairers) c.requires.seats c.in_ok-seat_clients.ensures.seats

pub seat_repairers-requires-clause-enough : goal.seat_repairers-requires-clause-enough
seat_repairers-requires-clause-enough c = enough_repairers c.args.seats.now.items c.seat_clients.new.seats.items (length c.args.script.now.clients) (length c.args.script.now.repairers) c.requires.seats c.in_ok-seat_clients.ensures.seats
