use Rattle.std.proofs.Common.{◌≡◌, ◌+◌, vec_len}
use Rattle.store_run.proofs.Leaving.{AreLeaving}
use Rattle.store_run.proofs.left_workers.leave_all.Given as goal

abbrev pub invariant-loop-made : goal.invariant-loop-made
invariant-loop-made l = record {
  leaving : AreLeaving l.store.script.now l.fn.actors.items l.left l.actors.items;
  count : vec_len l.actors + l._made ≡ l._made-end;
}
