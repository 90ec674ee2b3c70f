use Rattle.std.proofs.Common.{sym, ◌∙◌}
use Rattle.gather_parts.proofs.Handing.{due_needs, stands_in_pass}
use Rattle.gather_parts.proofs.gatherings.PartGatherings.need.Goals as goal

pub returns-in-Due-clause-call : goal.returns-in-Due-clause-call
returns-in-Due-clause-call c = λ call after stands due. due_needs call c.args.self.now after (sym c.progress.ensures.progress ∙ c.in-Due.is) stands due

pub returns-in-Due-clause-in_pass : goal.returns-in-Due-clause-in_pass
returns-in-Due-clause-in_pass c = λ call after stands. stands_in_pass call c.args.self.now after stands
