use Rattle.std.proofs.Common.{rules, ◌<◌, ◌∙◌, length, length-set, arith}
use Rattle.turn_lock.specs.Piles.{items_of}
use Rattle.turn_lock.proofs.Piling.{taking_begins, taking_on}
use Rattle.turn_lock.proofs.piles.take_tops.Goals as goal

pub loop-place-init : goal.loop-place-init
loop-place-init g c =
    record {
      taking = taking_begins (items_of c.args.piles.now.items) c.in_ok-tops.tops.items c.in_ok-tops.ensures.items;
      count = search rules;
      room = search rules;
    }

pub loop-place-preserved : goal.loop-place-preserved
loop-place-preserved g c =
    let inv = c.loop-place.invariant in
    let place = c.loop-place.place in
    let less : place < length c.loop-place.piles.items = omega (arith, inv.count, c.loop-place-test.true) in
    record {
      taking =
          taking_on place (items_of c.args.piles.now.items) c.loop-place.piles.items c.loop-place.tops.items inv.taking c.index_mut.result.now less c.index_mut.ensures.value c.take_last.new.items c.take_last.result
          c.push_reserved.new.self.items c.take_last.ensures c.push_reserved.ensures.items;
      count = length-set c.loop-place.piles.items place c.take_last.new.items ∙ inv.count;
      room = omega (arith, c.push_reserved.ensures.capacity, inv.room);
    }
