use Rattle.std.proofs.Common.{◌∙◌}
use Rattle.write_course.proofs.Telling.{asks_preparing, asks_settling}
use Rattle.write_course.proofs.writing.Writing.question.Goals as goal

pub returns-in-Preparing : goal.returns-in-Preparing
returns-in-Preparing c =
    asks_preparing c.self.inside c.self.invariant c.args.self.now c.self.view_is c.preparing_at.result c.len.result c.index.result.now c.version-version.result
    c.in-Preparing.is c.preparing_at.ensures.server (c.len.ensures ∙ c.self.inside.rows.ok.0) c.index.ensures c.version-version.ensures

pub returns-in-Settling : goal.returns-in-Settling
returns-in-Settling c =
    asks_settling c.self.inside c.self.invariant c.args.self.now c.self.view_is c.index-in-Settling.result.now c.version-version-in-Settling.result
    c.in-Settling.is c.index-in-Settling.ensures c.version-version-in-Settling.ensures
