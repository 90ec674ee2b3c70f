use denote.Param.Send.{sendable}
use Rattle.std.proofs.Common.{sym, subst}
use Rattle.run_seats.specs.Working.{IsWorking}
use Rattle.run_seats.specs.declared.workers.Worker.{Worker}
use Rattle.run_seats.proofs.SeatsCross.{worker_send, shifts_sync, store_sync}
use Rattle.run_seats.proofs.workers.work_in_shifts.Goals as goal

pub for_each_mut-requires-send-T : goal.for_each_mut-requires-send-T
for_each_mut-requires-send-T g c κs within = search (sendable, worker_send)

pub for_each_mut-requires-sync-F : goal.for_each_mut-requires-sync-F
for_each_mut-requires-sync-F g c κs within = search (sendable, store_sync, shifts_sync) depth 30

pub for_each_mut-requires-clause-accepts : goal.for_each_mut-requires-clause-accepts
for_each_mut-requires-clause-accepts g c κs within = λ i p less is. (
  subst (λ (w : Worker). IsWorking c.args.store.now w) (sym is) (c.requires.working i p.now less),
  search sendable depth 20,
)
