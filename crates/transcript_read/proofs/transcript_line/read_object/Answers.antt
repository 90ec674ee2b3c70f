use Rattle.std.specs.Prelude.{decimal}
use Rattle.line_grammar.proofs.CallLaws.{name_lacks_space}
use Rattle.transcript_read.specs.Forms.{IsObjectLine}
use Rattle.transcript_read.specs.Bodies.{object_body}
use Rattle.transcript_read.proofs.PartLaws.{behind_field, unread_by}
use Rattle.transcript_read.proofs.transcript_line.read_object.Goals as goal

pub first_field-requires : goal.first_field-requires
first_field-requires c =
    name_lacks_space

pub returns-in_err-length : goal.returns-in_err-length
returns-in_err-length c =
    unread_by IsObjectLine object_body c.args.text.now c.from_residual-in_err-length.result c.in_err-length.field-0.0 c.from_residual-in_err-length.ensures.1 c.in_err-length.ensures (λ none line is e. none line.length is.1 (behind_field 32 c.in_ok-name.name c.in_ok-name.rest.now c.args.text.now line.name (decimal line.length) (name_lacks_space c.in_ok-name.name c.in_ok-name.ensures.value) (name_lacks_space line.name is.0) c.in_ok-name.ensures.found e))
