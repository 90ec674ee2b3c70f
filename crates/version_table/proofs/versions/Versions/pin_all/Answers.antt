use Rattle.std.proofs.Common.{◌≡◌, ◌≤◌, ◌+◌, ℕ, List, get_or, ap, ◌∙◌, arith}
use Rattle.std.proofs.lemmas.Grind.{common_steps}
use Rattle.store_core.specs.Lists.{change_at}
use Rattle.version_table.proofs.TableSteps.{more_here}
use Rattle.version_table.proofs.versions.Versions.pin_all.Goals as goal

pub loop-pin-preserved : goal.loop-pin-preserved
loop-pin-preserved c = record {
  listed = c.pin-in-loop-pin.ensures.listed ∙ c.loop-pin.invariant.listed;
  pins = grind (arith, common_steps);
  fits = λ k d less.
      let v : ℕ = (get_or c.args.pins.now k d).version in
      let old : List ℕ = c.loop-pin.self.pins in
      let now : get_or c.pin-in-loop-pin.new.self.pins v 0 ≡ get_or (change_at c.pin.inside.version (λ (n : ℕ). n + 1) old) v 0 = ap (λ (l : List ℕ). get_or l v 0) c.pin-in-loop-pin.ensures.pins in
      let more : get_or (change_at c.pin.inside.version (λ (n : ℕ). n + 1) old) v 0 ≤ get_or old v 0 + 1 = more_here c.pin.inside.version v old in
      omega (arith, now, more, c.loop-pin.invariant.fits k d less, c.loop-pin-test.true);
}
