use Rattle.std.proofs.Common.{subst}
use Rattle.std.specs.Prelude.{OnOk}
use Rattle.lane_repair.specs.Views.{pieces_of, IsRebuiltFrom}
use Rattle.lane_repair.proofs.repair.rebuild_into.Goals as goal

pub returns-clause-rebuilt : goal.returns-clause-rebuilt
returns-clause-rebuilt c =
    subst (λ lost. OnOk c.rebuild_by.result (IsRebuiltFrom c.args.g lost (pieces_of c.args.parts) c.rebuild_by.new.chunk)) c.in_ok-plan.ensures.lost c.rebuild_by.ensures.rebuilt
