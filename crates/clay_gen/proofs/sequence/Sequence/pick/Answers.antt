use Rattle.std.proofs.Common.{◌/◌, ◌%◌, ap, ◌∙◌}
use Rattle.clay_gen.specs.Sequence.{advance}
use Rattle.clay_gen.proofs.SequenceLaws.{advanced}
use Rattle.clay_gen.proofs.sequence.Sequence.pick.Goals as goal

pub returns-clause-number : goal.returns-clause-number
returns-clause-number c =
    let state = advanced c.self.inside.state ∙ ap advance c.self.view_is in
    λ i. state i / 4294967296 % c.from.ensures i

pub returns-clause-state : goal.returns-clause-state
returns-clause-state c = advanced c.self.inside.state ∙ ap advance c.self.view_is
