use Rattle.std.proofs.Common.{◌-◌, ◌^◌, ◌≤◌, refl, subst, ◌∙◌, arith}
use Rattle.store_world.specs.Kept.{IsWorld}
use Rattle.store_world.proofs.Drains.{drain_begins, drain_goes_on, drain_ends, drain_fits}
use Rattle.store_world.proofs.world.World.drain.Goals as goal

pub loop-made-init : goal.loop-made-init
loop-made-init g c = record {
  same = refl;
  same_book = refl;
  rounds = drain_begins g.W.Watch.heard c.args.self.now (subst IsWorld c.self.view_is c.self.invariant) c.args.watch.now (g.met.W.Watch.none c.args.watch.now);
}

pub loop-made-preserved : goal.loop-made-preserved
loop-made-preserved g c = record {
  same = c.round.ensures.same ∙ c.loop-made.invariant.same;
  same_book = c.round.ensures.same_book ∙ c.loop-made.invariant.same_book;
  rounds =
      drain_goes_on g.W.Watch.heard c.args.self.now (subst IsWorld c.self.view_is c.self.invariant) c.loop-made._made c.loop-made.self c.loop-made.invariant.same c.args.watch.now c.loop-made.watch
      c.loop-made.invariant.rounds g.met.W.Watch.on c.round.new.self c.round.new.watch c.in_ok-round.ensures.told;
}

pub returns-then-not-is_unfinished-clause-told : goal.returns-then-not-is_unfinished-clause-told
returns-then-not-is_unfinished-clause-told g c =
    drain_ends g.W.Watch.heard c.args.self.now (subst IsWorld c.self.view_is c.self.invariant) c.loop-made._made c.loop-made.self c.loop-made.invariant.same c.args.watch.now c.loop-made.watch
    c.loop-made.invariant.rounds c.is_unfinished.result c.is_unfinished.ensures c.if-not-is_unfinished.true

pub returns-clause-told : goal.returns-clause-told
returns-clause-told g c =
    let full : 2 ^ 64 - 1 ≤ c.loop-made._made = omega (arith, c.loop-made-test.false) in
    drain_fits g.W.Watch.heard c.args.self.now (subst IsWorld c.self.view_is c.self.invariant) c.loop-made._made c.loop-made.self c.loop-made.invariant.same c.args.watch.now c.loop-made.watch
    c.loop-made.invariant.rounds full
