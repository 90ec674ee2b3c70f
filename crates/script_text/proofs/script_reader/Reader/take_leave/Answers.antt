use Rattle.std.proofs.Common.{sym}
use Rattle.line_grammar.specs.Line.{LeaveLine}
use Rattle.script_text.proofs.ReaderLaws.{leave_taken, leave_err}
use Rattle.line_grammar.proofs.HandedOn.{handed_on}
use Rattle.script_text.specs.Reader.{Takes}
use Rattle.script_text.proofs.script_reader.Reader.take_leave.Goals as goal

pub returns : goal.returns
returns c =
    (LeaveLine c.in_ok-steps.steps, leave_taken c.args.self.now c.args.line.now c.in_ok-steps.steps c.in-Some.place c.requires.sound c.in_ok-steps.ensures.2 c.in_ok-steps.ensures.1 (sym c.in-Some.ensures))

pub returns-in_err-steps : goal.returns-in_err-steps
returns-in_err-steps c =
    handed_on (λ r. Takes c.args.self.now c.args.line.now r c.args.self.now) c.from_residual.result c.in_err-steps.field-0.0 c.from_residual.ensures.1
    (leave_err c.args.self.now c.args.self.now c.args.line.now c.requires.place c.requires.kind c.in_err-steps.field-0.0 c.in_err-steps.ensures)
