use Rattle.std.proofs.Common.{◌≡◌, take}
use Rattle.store_world.specs.Stored.{world_of}
use Rattle.store_world.specs.Watched.{Watched, ComesBy}
use Rattle.store_world.proofs.script_run.follow.Given as goal

abbrev pub invariant-loop-token : goal.invariant-loop-token
invariant-loop-token g l = record {
  its : l.world.script ≡ l.script;
  same : l.world.script ≡ l.fn.world.script;
  told : Watched (g.W.Watch.heard l.fn.watch l.watch) (ComesBy l.script (take l.token-index l.script.schedule) (world_of l.world));
}
