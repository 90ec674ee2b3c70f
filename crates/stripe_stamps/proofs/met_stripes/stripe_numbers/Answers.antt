use Rattle.std.proofs.Common.{◌+◌, ◌∷◌, [], ◌++◌, ap, sym, ◌∙◌, arith}
use Rattle.dir_parts.proofs.Growing.{range-snoc}
use Rattle.stripe_stamps.proofs.met_stripes.stripe_numbers.Goals as goal

pub loop-i-preserved : goal.loop-i-preserved
loop-i-preserved c = record {
  items = c.push_reserved.ensures.items ∙ ap (λ l. l ++ (c.args.first + c.loop-i.i) ∷ []) c.loop-i.invariant.items ∙ sym (range-snoc c.args.first c.loop-i.i);
  len = omega (arith, c.push_reserved.ensures.len, c.loop-i.invariant.len);
  room = c.push_reserved.ensures.capacity ∙ c.loop-i.invariant.room;
}
