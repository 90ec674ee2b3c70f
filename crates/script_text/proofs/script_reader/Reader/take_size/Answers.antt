use Rattle.std.proofs.Common.{arith}
use Rattle.line_grammar.specs.Line.{SizeLine}
use Rattle.script_text.proofs.ReaderLaws.{size_over, size_taken, size_err, size_place}
use Rattle.line_grammar.proofs.HandedOn.{handed_on}
use Rattle.script_text.specs.Reader.{Takes}
use Rattle.script_text.proofs.script_reader.Reader.take_size.Goals as goal
use Rattle.script_text.proofs.script_reader.Reader.take_size.Goals.{then-size-lt1-via-then-size-lt1, then-size-lt1-via-else-size-lt1+then-size-gt-MAX_SIZE}

pub returns-then-size-lt1 : goal.returns-then-size-lt1
returns-then-size-lt1 c = size_over c.args.self.now c.args.line.now c.in_ok-size.size (size_place c.args.self.now.place c.requires.place) c.in_ok-size.ensures.2 (λ within.
    elim c.then-size-lt1.branch [
      | then-size-lt1-via-then-size-lt1 w ↦ omega (arith, within.0)
      | then-size-lt1-via-else-size-lt1+then-size-gt-MAX_SIZE w ↦ omega (arith, within.1)
    ])

pub returns : goal.returns
returns c =
    (SizeLine c.in_ok-size.size, size_taken c.args.self.now c.args.line.now c.in_ok-size.size c.requires.sound (size_place c.args.self.now.place c.requires.place) c.in_ok-size.ensures.2 c.in_ok-size.ensures.1 (omega arith) (omega arith))

pub returns-in_err-size : goal.returns-in_err-size
returns-in_err-size c =
    handed_on (λ r. Takes c.args.self.now c.args.line.now r c.args.self.now) c.from_residual.result c.in_err-size.field-0.0 c.from_residual.ensures.1
    (size_err c.args.self.now c.args.self.now c.args.line.now (size_place c.args.self.now.place c.requires.place) c.requires.kind c.in_err-size.field-0.0 c.in_err-size.ensures)
