use Rattle.std.proofs.Common.{◌≡◌}
use Rattle.clay_gen.specs.Sequence.{drawn, behind_all}
use Rattle.clay_gen.specs.Script.{client_from, behind_client}
use Rattle.clay_gen.proofs.random_script.draw_clients.Given as goal

abbrev pub invariant-loop-made : goal.invariant-loop-made
invariant-loop-made l = record {
  so_far : l.clients ≡ drawn (client_from l.count) (behind_client l.count) l._made l.fn.sequence;
  behind : l.sequence ≡ behind_all (behind_client l.count) l._made l.fn.sequence;
}
