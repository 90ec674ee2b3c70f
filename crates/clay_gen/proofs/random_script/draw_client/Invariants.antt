use Rattle.std.proofs.Common.{◌≡◌}
use Rattle.clay_gen.specs.Sequence.{drawn, behind_all}
use Rattle.clay_gen.specs.Calls.{call_from, behind_call}
use Rattle.clay_gen.proofs.random_script.draw_client.Given as goal

abbrev pub invariant-loop-made : goal.invariant-loop-made
invariant-loop-made l = record {
  so_far : l.calls ≡ drawn call_from behind_call l._made l.fn.sequence;
  behind : l.sequence ≡ behind_all behind_call l._made l.fn.sequence;
}
