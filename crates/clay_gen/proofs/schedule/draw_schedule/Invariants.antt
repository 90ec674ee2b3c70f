use Rattle.std.proofs.Common.{◌≡◌}
use Rattle.clay_gen.specs.Sequence.{drawn, behind_all}
use Rattle.clay_gen.specs.Steps.{step_from, behind_step}
use Rattle.clay_gen.proofs.schedule.draw_schedule.Given as goal

abbrev pub invariant-loop-made : goal.invariant-loop-made
invariant-loop-made l = record {
  so_far : l.steps ≡ drawn step_from behind_step l._made l.fn.sequence;
  behind : l.sequence ≡ behind_all behind_step l._made l.fn.sequence;
}
