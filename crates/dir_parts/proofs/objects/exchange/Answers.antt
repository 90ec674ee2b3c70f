use Rattle.std.proofs.Common.{ℕ, ◌+◌, ◌<◌, List, length, ◌∙◌, arith, rules}
use Rattle.dir_parts.proofs.Exchange.{old_set, drawn_set, none_yet}
use Rattle.dir_parts.proofs.objects.exchange.Goals as goal

pub loop-i-init : goal.loop-i-init
loop-i-init c = record {
  old = none_yet c.args.old.now.items c.args.first;
  drawn = search rules;
  old_len = search rules;
  drawn_len = search rules;
  room = search rules;
}

pub loop-i-preserved : goal.loop-i-preserved
loop-i-preserved c =
    let old : List ℕ = c.args.old.now.items in
    let drawn : List ℕ = c.args.drawn.now.items in
    let in_old : c.args.first + c.loop-i.i < length old = omega (arith, c.requires.within_old, c.args.old.now.ok.0, c.loop-i-test.true) in
    let in_drawn : c.loop-i.i < length drawn = omega (arith, c.requires.within_drawn, c.args.drawn.now.ok.0, c.loop-i-test.true) in
    record {
      old = c.exchange_one.ensures.old ∙ old_set old drawn c.loop-i.old.items c.loop-i.drawn.items c.args.first c.loop-i.i in_old in_drawn c.loop-i.invariant.old c.loop-i.invariant.drawn;
      drawn = c.exchange_one.ensures.drawn ∙ drawn_set old drawn c.loop-i.old.items c.loop-i.drawn.items c.args.first c.loop-i.i in_old in_drawn c.loop-i.invariant.old c.loop-i.invariant.drawn;
      old_len = c.exchange_one.ensures.old_len ∙ c.loop-i.invariant.old_len;
      drawn_len = c.exchange_one.ensures.drawn_len ∙ c.loop-i.invariant.drawn_len;
      room = c.exchange_one.ensures.room ∙ c.loop-i.invariant.room;
    }
