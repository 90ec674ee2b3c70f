use Rattle.std.proofs.Common.{◌≡◌, sym, ◌∙◌}
use Rattle.transcript_read.specs.Order.{Follows}
use Rattle.transcript_read.proofs.SameLaws.{same_line}
use Rattle.transcript_read.proofs.transcript_reader.Reader.take_line.Goals as goal

pub returns-in_default : goal.returns-in_default
returns-in_default c = λ other is follows e.
    let same : c.in_ok-line.line ≡ other =
    same_line c.args.self.now.servers c.in_ok-line.line other c.in_ok-line.ensures.0 is (sym c.in_ok-line.ensures.1 ∙ e) in
    let now : Follows c.args.self.now.servers c.args.self.now.place c.in_ok-line.line = rw same follows in
    c.in_default.ensures.none now
