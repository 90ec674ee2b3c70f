use Rattle.store_map.specs.declared.actor.Actor.TheVariants as actor
use Rattle.chunk_server.specs.Core.{core_of}
use Rattle.sweeper.specs.Sweeps.{act_of}
use Rattle.run_seats.specs.Plain.{plain_at_server}
use Rattle.run_seats.proofs.sweeps.sweep_server.Given as goal

abbrev pub ghost-give_server : goal.ghost-give_server
ghost-give_server g a = plain_at_server a.number actor.Sweeper (act_of a.stood.value) (core_of a.before.value.server) a.turn.now.seen g.last
