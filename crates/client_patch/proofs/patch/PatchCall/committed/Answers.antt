use Rattle.std.proofs.Common.{ap, ◌∙◌}
use Rattle.client_patch.specs.Patches.{PatchOf}
use Rattle.call_steps.specs.Ends.{point_of}
use Rattle.client_patch.proofs.Points.{no_point}
use Rattle.client_patch.proofs.patch.PatchCall.committed.Goals as goal

pub returns-in_default : goal.returns-in_default
returns-in_default c =
    no_point c.self.inside c.self.inside.stage c.self.invariant.kept c.in_default.not-Writing c.in_default.not-Finished
    ∙ ap (λ (p : PatchOf). point_of p.call.state.at) c.self.view_is
