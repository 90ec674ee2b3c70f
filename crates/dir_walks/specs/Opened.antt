-- An actor that has made no call.
use Rattle.std.specs.Prelude.{None}
use Rattle.store_map.specs.declared.actor.Actor.{Actor}
use Rattle.store_core.specs.Agreement.{ActorToken}
use Rattle.dir_walks.specs.Callers.{CallerOf}
use Rattle.dir_walks.specs.declared.test_stage.WalkStage.TheVariants as stage

abbrev pub new_caller : Actor → ActorToken → CallerOf
new_caller who token = record { who = who; token = token; stage = stage.Seated; number = 0; unused = 0; drawn = 0; request = None }
