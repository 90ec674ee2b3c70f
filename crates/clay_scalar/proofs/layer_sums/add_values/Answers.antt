use Rattle.std.proofs.Common.{◌≡◌, suc, ◌+◌, refl, ap, ◌∙◌, arith, length}
use Rattle.clay_field.specs.Field.{product, power_of}
use Rattle.clay_scalar.proofs.Parts.{HasAdded-more}
use Rattle.clay_scalar.proofs.layer_sums.add_values.Goals as goal

pub loop-j-init : goal.loop-j-init
unfolding power_of
loop-j-init c = record {
  next = refl;
  added = record {
    done = λ i b h l. absurd (omega arith);
    unchanged = λ k h. refl;
  };
}

pub loop-j-preserved : goal.loop-j-preserved
unfolding power_of
loop-j-preserved c =
    let more : suc c.loop-j.j ≡ c.loop-j.j + 1 = omega arith in
    record {
      next = c.mul-power.ensures ∙ ap (product c.args.point) c.loop-j.invariant.next ∙ ap (power_of c.args.point) more;
      added = HasAdded-more (length c.args.values.now) c.args.point c.loop-j.j c.args.count c.loop-j.power c.args.values.now c.args.sums.now c.loop-j.sums c.add_scaled.new.dst
          (omega arith) (omega arith) (omega arith) c.loop-j.invariant.next c.add_scaled.ensures c.loop-j.invariant.added;
    }

pub returns : goal.returns
returns c = λ j b h l. c.loop-j.invariant.added.done j b (omega arith) l
