use Rattle.std.proofs.Common.{rules, ◌∷◌, [], length, sym, ap, ◌∙◌}
use Rattle.std.proofs.lemmas.List.{length_push}
use Rattle.turn_lock.proofs.Joining.{count_on, joining_begins, joining_on, last_there, shorter_first}
use Rattle.turn_lock.proofs.joined.join_all.Goals as goal

pub loop-left-init : goal.loop-left-init
loop-left-init g c =
    let is = c.take_last-all.ensures in
    record {
      joining = joining_begins c.args.lock.now g.identity c.args.turns.items c.take_last-all.new.items.items c.take_last-all.result is c.requires.1.1.1;
      first = (c.take_last-all.result ∷ [], sym is);
      count = search rules;
    }

pub join-all-requires-clause-own : goal.join-all-requires-clause-own
join-all-requires-clause-own g c =
    let inv = c.loop-left.invariant in
    let there = last_there c.args.lock.now g.identity c.args.turns.items c.loop-left.turns.items c.take_last.new.items.items c.take_last.result inv.first c.take_last.ensures in
    (inv.joining.own, (c.requires.1.1.1.each (length c.take_last.new.items.items) c.take_last.result there).own)

pub join-all-requires-clause-free : goal.join-all-requires-clause-free
join-all-requires-clause-free g c =
    let inv = c.loop-left.invariant in
    let there = last_there c.args.lock.now g.identity c.args.turns.items c.loop-left.turns.items c.take_last.new.items.items c.take_last.result inv.first c.take_last.ensures in
    (inv.joining.free, (c.requires.1.1.1.each (length c.take_last.new.items.items) c.take_last.result there).free)

pub loop-left-preserved : goal.loop-left-preserved
loop-left-preserved g c =
    let inv = c.loop-left.invariant in
    let is = c.take_last.ensures in
    let old = c.loop-left.turns.items in
    let now = c.take_last.new.items.items in
    record {
      joining =
          joining_on c.args.lock.now g.identity c.args.turns.items old now c.loop-left.all c.take_last.result c.join-all.result c.requires.1.1.1 inv.first is inv.joining c.join-all.ensures.turn c.join-all.ensures.own.0
          c.join-all.ensures.own.1 c.join-all.ensures.longer;
      first = shorter_first c.args.lock.now g.identity c.args.turns.items old now c.take_last.result inv.first is;
      count = count_on c.loop-left._left (length now) (length old) c.len-left-end.result inv.count (ap length is ∙ length_push now c.take_last.result);
    }
