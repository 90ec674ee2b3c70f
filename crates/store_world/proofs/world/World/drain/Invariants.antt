use Rattle.std.proofs.Common.{◌≡◌}
use Rattle.store_world.proofs.Drains.{Rounds}
use Rattle.store_world.proofs.world.World.drain.Given as goal

abbrev pub invariant-loop-made : goal.invariant-loop-made
invariant-loop-made g l = record {
  same : l.self.script ≡ l.fn.self.script;
  same_book : l.self.book ≡ l.fn.self.book;
  rounds : Rounds (g.W.Watch.heard l.fn.watch l.watch) l.fn.self.script l._made l.fn.self l.self;
}
