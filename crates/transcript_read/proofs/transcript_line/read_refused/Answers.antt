use Rattle.std.proofs.Common.{arith, ◌≡◌, true}
use Rattle.store_map.specs.CallNames.{client_text}
use Rattle.transcript_text.specs.Words.{cause_text}
use Rattle.transcript_read.specs.Forms.{IsRefusedLine}
use Rattle.transcript_read.specs.Bodies.{refused_body}
use Rattle.transcript_read.proofs.PartLaws.{behind_field, unread_by, client_lacks}
use Rattle.transcript_read.proofs.transcript_line.read_refused.Goals as goal

pub first_field-requires : goal.first_field-requires
first_field-requires c =
    λ call is. client_lacks 32 call (omega arith) is

pub returns-in_err-cause : goal.returns-in_err-cause
returns-in_err-cause c =
    unread_by IsRefusedLine refused_body c.args.text.now c.from_residual-in_err-cause.result c.in_err-cause.field-0.0 c.from_residual-in_err-cause.ensures.1 c.in_err-cause.ensures (λ none line is e. none line.cause is.1 (behind_field 32 (client_text c.in_ok-call.call) c.in_ok-call.rest.now c.args.text.now (client_text line.call) (cause_text line.cause) (client_lacks 32 c.in_ok-call.call (omega arith) c.in_ok-call.ensures.value) (client_lacks 32 line.call (omega arith) is.0) c.in_ok-call.ensures.found (e)))
