use Rattle.std.proofs.Common.{◌≡◌, ◌+◌, length, ap, ◌∙◌, arith}
use Rattle.std.proofs.lemmas.List.{length_push, nil_from_length}
use Rattle.store_run.proofs.Leaving.{all_left, leaving_on, next_is}
use Rattle.store_run.proofs.left_workers.leave_all.Goals as goal

pub add-requires : goal.add-requires
add-requires c =
    let at = c.loop-made.invariant.leaving in (
      c.args.store.now,
      at.done,
      next_is c.args.store.now c.args.actors.items c.requires c.loop-made.left c.loop-made.actors.items c.take_last.new.items.items c.take_last.result at c.take_last.ensures,
    )

pub loop-made-preserved : goal.loop-made-preserved
loop-made-preserved c =
    let at = c.loop-made.invariant.leaving in
    let rest = c.loop-made.actors.items in
    let now = c.take_last.new.items.items in
    let who = c.take_last.result in
    let next = next_is c.args.store.now c.args.actors.items c.requires c.loop-made.left rest now who at c.take_last.ensures in
    let fewer : length rest ≡ length now + 1 = ap length c.take_last.ensures ∙ length_push now who in
    record {
      leaving = leaving_on c.args.store.now c.args.actors.items c.requires c.loop-made.left rest now who at c.take_last.ensures c.add.new.self (c.add.ensures c.args.store.now at.done next);
      count = omega (arith, fewer, c.loop-made.invariant.count, c.loop-made.actors.ok.0, c.take_last.new.items.ok.0);
    }

pub returns : goal.returns
returns c =
    let rest = c.loop-made.actors.items in
    let none : length rest ≡ 0 = omega (arith, c.loop-made.invariant.count, c.loop-made-test.false, c.loop-made.actors.ok.0) in
    all_left c.args.store.now c.args.actors.items c.requires c.loop-made.left rest c.loop-made.invariant.leaving (nil_from_length rest none)
