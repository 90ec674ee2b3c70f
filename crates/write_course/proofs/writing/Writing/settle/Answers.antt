use Rattle.std.proofs.Common.{◌+◌, ◌∙◌, ap, arith}
use Rattle.clay_grid.specs.Shape.{chunk_count}
use Rattle.write_course.specs.States.{settles_or_is_done}
use Rattle.write_course.proofs.Kept.{version_read}
use Rattle.write_course.proofs.Steps.{keeps_settling, settle_more, settle_next}
use Rattle.chunk_server.specs.Core.{core_of}
use Rattle.write_course.proofs.Telling.{settle_tells}
use Rattle.write_course.proofs.writing.Writing.settle.Goals as goal

pub returns-then-self-servers-clause-step : goal.returns-then-self-servers-clause-step
returns-then-self-servers-clause-step c =
    let a = c.self.inside in
    let more = (keeps_settling a c.self.invariant c.args.self.now c.self.view_is c.requires.settling).more in
    settle_more a c.self.invariant c.args.self.now c.self.view_is c.requires.settling _ _ c.version.result.0
    (c.version.ensures ∙ version_read a.stamps.items a.at c.index.result.now more c.index.ensures) c.settle.ensures.core (omega (arith, ap chunk_count c.geometry.ensures))

pub returns-clause-step : goal.returns-clause-step
returns-clause-step c =
    let a = c.self.inside in
    let more = (keeps_settling a c.self.invariant c.args.self.now c.self.view_is c.requires.settling).more in
    settle_next a c.self.invariant c.args.self.now c.self.view_is c.requires.settling _ _ c.version.result.0 c.settles_or_is_done-self-inside.result
    (c.version.ensures ∙ version_read a.stamps.items a.at c.index.result.now more c.index.ensures) c.settle.ensures.core (omega (arith, ap chunk_count c.geometry.ensures))
    (c.settles_or_is_done-self-inside.ensures ∙ ap (settles_or_is_done (a.at + 1)) (c.len.ensures ∙ a.stamps.ok.0))

pub returns-then-self-servers-clause-told : goal.returns-then-self-servers-clause-told
returns-then-self-servers-clause-told c = settle_tells c.args.self.now.state (core_of c.args.s.now) c.requires.settling

pub returns-clause-told : goal.returns-clause-told
returns-clause-told c = settle_tells c.args.self.now.state (core_of c.args.s.now) c.requires.settling
