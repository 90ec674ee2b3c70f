use Rattle.std.proofs.Common.{arith}
use Rattle.line_grammar.specs.Line.{TriesLine}
use Rattle.script_text.proofs.ReaderLaws.{tries_over, tries_taken, tries_err}
use Rattle.line_grammar.proofs.HandedOn.{handed_on}
use Rattle.script_text.specs.Reader.{Takes}
use Rattle.script_text.proofs.script_reader.Reader.take_tries.Goals as goal
use Rattle.script_text.proofs.script_reader.Reader.take_tries.Goals.{then-tries-lt1-via-then-tries-lt1, then-tries-lt1-via-else-tries-lt1+then-tries-gt-MAX_TRIES}

pub returns-then-tries-lt1 : goal.returns-then-tries-lt1
returns-then-tries-lt1 c = tries_over c.args.self.now c.args.line.now c.in_ok-tries.tries c.requires.place c.in_ok-tries.ensures.2 (λ within.
    elim c.then-tries-lt1.branch [
      | then-tries-lt1-via-then-tries-lt1 w ↦ omega (arith, within.0)
      | then-tries-lt1-via-else-tries-lt1+then-tries-gt-MAX_TRIES w ↦ omega (arith, within.1)
    ])

pub returns : goal.returns
returns c =
    (TriesLine c.in_ok-tries.tries, tries_taken c.args.self.now c.args.line.now c.in_ok-tries.tries c.requires.sound c.requires.place c.in_ok-tries.ensures.2 c.in_ok-tries.ensures.1 (omega arith) (omega arith))

pub returns-in_err-tries : goal.returns-in_err-tries
returns-in_err-tries c =
    handed_on (λ r. Takes c.args.self.now c.args.line.now r c.args.self.now) c.from_residual.result c.in_err-tries.field-0.0 c.from_residual.ensures.1
    (tries_err c.args.self.now c.args.self.now c.args.line.now c.requires.place c.requires.kind c.in_err-tries.field-0.0 c.in_err-tries.ensures)
