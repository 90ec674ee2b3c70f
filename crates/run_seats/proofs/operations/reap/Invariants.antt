use Rattle.store_map.specs.declared.actor.Actor.TheVariants as actor
use Rattle.store_core.specs.Act.{Act, DirectoryStep}
use Rattle.run_seats.specs.Plain.{plain_at_directory}
use Rattle.run_seats.proofs.operations.reap.Given as goal

abbrev pub ghost-give_directory : goal.ghost-give_directory
ghost-give_directory g a = plain_at_directory a.number actor.Operator (Act.AtDirectory (DirectoryStep.Reap a.reaped)) a.before.value.directory a.turn.now.seen g.last
