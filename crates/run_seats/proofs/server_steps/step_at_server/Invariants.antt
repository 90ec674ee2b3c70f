use Rattle.chunk_server.specs.Core.{core_of}
use Rattle.run_seats.specs.Stepped.{entry_at_server}
use Rattle.run_seats.proofs.server_steps.step_at_server.Given as goal

abbrev pub ghost-give_step : goal.ghost-give_step
ghost-give_step g a = entry_at_server a.number a.stood.value.work a.left.value (core_of a.before.value.server) a.turn.now.seen g.last
