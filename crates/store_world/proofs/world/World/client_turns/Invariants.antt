use Rattle.std.proofs.Common.{◌≡◌}
use Rattle.world_laws.specs.Telling.{LeadsTelling}
use Rattle.world_laws.specs.RoundTells.{client_tokens}
use Rattle.store_world.specs.Stored.{world_of}
use Rattle.store_world.specs.Watched.{Watched}
use Rattle.store_world.proofs.world.World.client_turns.Given as goal

abbrev pub invariant-loop-i : goal.invariant-loop-i
invariant-loop-i g l = record {
  same : l.self.script ≡ l.fn.self.script;
  same_book : l.self.book ≡ l.fn.self.book;
  told : Watched (g.W.Watch.heard l.fn.watch l.watch) (LeadsTelling l.fn.self.script (client_tokens l.i) (world_of l.fn.self) (world_of l.self));
}
