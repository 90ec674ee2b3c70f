use Rattle.std.proofs.Common.{ap, ◌∙◌}
use Rattle.clay_grid.specs.Shape.{chunk_count}
use Rattle.call_steps.specs.CallOf.{CallOf, taken_of}
use Rattle.repairer.proofs.Counts.{nothing}
use Rattle.repairer.proofs.repair_call.RepairCall.takes.Goals as goal

pub returns-in-None : goal.returns-in-None
returns-in-None c = nothing (chunk_count c.self.inside.opening.geometry) c.self.inside.takes c.in-None.is ∙ ap (λ (call : CallOf). taken_of call.takes) c.self.view_is
