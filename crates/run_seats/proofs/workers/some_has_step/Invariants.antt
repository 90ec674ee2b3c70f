use Rattle.std.proofs.Common.{◌≡◌, ℕ, ◌<◌, false, get_or}
use Rattle.store_map.specs.declared.script.Script.{Script}
use Rattle.run_seats.specs.SeatedActors.{AreOfCode, actor_has}
use Rattle.run_seats.specs.declared.seated_actor.SeatedActor.{SeatedActor}
use Rattle.run_seats.proofs.workers.some_has_step.Given as goal

abbrev pub invariant-loop-actor : goal.invariant-loop-actor
invariant-loop-actor l = (script : Script) → AreOfCode script l.actors → (k : ℕ) (d : SeatedActor) → k < l.actor-index → actor_has script (get_or l.actors k d) ≡ false
