use Rattle.std.proofs.Common.{◌≡◌, ◌+◌, length, ap, ◌∙◌, arith}
use Rattle.std.proofs.lemmas.List.{length_push, nil_from_length}
use Rattle.store_run.proofs.Collecting.{apart_ends, apart_on}
use Rattle.store_run.proofs.left_workers.into_piles.Goals as goal

pub loop-made-preserved : goal.loop-made-preserved
loop-made-preserved c =
    let rest = c.loop-made.workers.items in
    let now = c.take_last-actors.new.items.items in
    let worker = c.take_last-actors.result in
    let piles = c.loop-made.piles.items in
    let fewer : length rest ≡ length now + 1 = ap length c.take_last-actors.ensures ∙ length_push now worker in
    let more : length c.push_reserved.new.self.items ≡ length piles + 1 = ap length c.push_reserved.ensures.items ∙ length_push piles worker.actors in
    record {
      apart = apart_on c.args.workers.items rest now worker piles c.push_reserved.new.self.items c.loop-made.invariant.apart c.take_last-actors.ensures c.push_reserved.ensures.items;
      count = omega (arith, fewer, c.loop-made.invariant.count, c.loop-made.workers.ok.0, c.take_last-actors.new.items.ok.0);
      len = omega (arith, more, c.loop-made.invariant.len, c.loop-made.piles.ok.0, c.push_reserved.new.self.ok.0);
      room = omega (arith, c.push_reserved.ensures.capacity, c.loop-made.invariant.room);
    }

pub returns : goal.returns
returns c =
    let left = c.loop-made.workers.items in
    let none : length left ≡ 0 = omega (arith, c.loop-made.invariant.count, c.loop-made-test.false, c.loop-made.workers.ok.0) in
    apart_ends c.args.workers.items left c.loop-made.piles.items c.reverse.new.self.items c.loop-made.invariant.apart (nil_from_length left none) c.reverse.ensures.items
