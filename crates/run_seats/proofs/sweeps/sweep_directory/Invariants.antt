use Rattle.store_map.specs.declared.actor.Actor.TheVariants as actor
use Rattle.sweeper.specs.Sweeps.{act_of}
use Rattle.run_seats.specs.Plain.{plain_at_directory}
use Rattle.run_seats.proofs.sweeps.sweep_directory.Given as goal

abbrev pub ghost-give_directory : goal.ghost-give_directory
ghost-give_directory g a = plain_at_directory a.number actor.Sweeper (act_of a.stood.value) a.before.value.directory a.turn.now.seen g.last
