use Rattle.store_map.specs.declared.actor.Actor.TheVariants as actor
use Rattle.store_core.specs.Act.{Act}
use Rattle.chunk_server.specs.Core.{core_of}
use Rattle.run_seats.specs.Plain.{plain_at_server, line_step}
use Rattle.run_seats.proofs.operations.operate_server.Given as goal

abbrev pub ghost-give_server : goal.ghost-give_server
ghost-give_server g a = plain_at_server a.number actor.Operator (Act.AtServer a.before.value.server.number (line_step a.line)) (core_of a.before.value.server) a.turn.now.seen g.last
