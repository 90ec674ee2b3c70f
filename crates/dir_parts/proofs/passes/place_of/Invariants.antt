use Rattle.std.proofs.Common.{◌≡◌, ◌≤◌, ◌-◌, length, drop, find}
use Rattle.store_core.specs.Lookups.{same_actor}
use Rattle.dir_parts.specs.OpenPass.{Open}
use Rattle.dir_parts.proofs.passes.place_of.Given as goal

abbrev pub invariant-loop-at : goal.invariant-loop-at
invariant-loop-at l = (l.at ≤ length l.calls) × (find (λ (pass : Open). same_actor l.actor pass.pass.actor) l.calls ≡ find (λ (pass : Open). same_actor l.actor pass.pass.actor) (drop l.at l.calls))

abbrev pub decreases-loop-at : goal.decreases-loop-at
decreases-loop-at l = length l.calls - l.at
