use Rattle.std.proofs.Common.{◌≡◌, ℕ, ◌<◌, false, get_or}
use Rattle.store_map.specs.declared.script.Script.{Script}
use Rattle.actors.specs.Callers.{CallerOf}
use Rattle.store_world.specs.Having.{caller_has, AreOfCode}
use Rattle.store_world.proofs.drain.some_has_step.Given as goal

abbrev pub invariant-loop-caller : goal.invariant-loop-caller
invariant-loop-caller l = (script : Script) → AreOfCode script l.callers → (k : ℕ) (d : CallerOf) → k < l.caller-index → caller_has script (get_or l.callers k d) ≡ false
