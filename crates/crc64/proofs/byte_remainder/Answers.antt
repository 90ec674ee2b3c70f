use Rattle.std.proofs.Common.{sym, ap, ◌∙◌}
use Rattle.crc64.specs.Remainder.{reduced}
use Rattle.crc64.proofs.Division.{remainder_none, remainder_one}
use Rattle.crc64.proofs.byte_remainder.Goals as goal

pub loop-step-init : goal.loop-step-init
loop-step-init c = sym (remainder_none c.args.byte)

pub loop-step-preserved : goal.loop-step-preserved
loop-step-preserved c =
    c.reduce-register.ensures ∙ ap (λ v. reduced v) c.loop-step.invariant ∙ sym (remainder_one c.loop-step._step c.args.byte)
