use Rattle.std.proofs.Common.{arith, ◌++◌, ◌∷◌, ◌≡◌, true}
use Rattle.std.specs.Prelude.{decimal}
use Rattle.store_map.specs.CallNames.{client_text}
use Rattle.transcript_text.specs.Words.{shown_text}
use Rattle.transcript_read.specs.Forms.{IsHistoryLine}
use Rattle.transcript_read.specs.Bodies.{history_body}
use Rattle.transcript_read.proofs.PartLaws.{behind_field, unread_by, long_lacks, client_lacks}
use Rattle.transcript_read.proofs.transcript_line.read_history.Goals as goal

pub first_field-requires : goal.first_field-requires
first_field-requires c =
    λ n long. long_lacks 32 n (omega arith) long

pub first_field-requires-2 : goal.first_field-requires-2
first_field-requires-2 c =
    λ call is. client_lacks 32 call (omega arith) is

pub returns-in_err-call : goal.returns-in_err-call
returns-in_err-call c =
    unread_by IsHistoryLine history_body c.args.text.now c.from_residual-in_err-call.result c.in_err-call.field-0.0 c.from_residual-in_err-call.ensures.1 c.in_err-call.ensures.refused (λ none line is e. none line.call (shown_text line.reply) is.1 (behind_field 32 (decimal c.in_ok-point.point) c.in_ok-point.rest.now c.args.text.now (decimal line.point) (client_text line.call ++ 32 ∷ shown_text line.reply) (long_lacks 32 c.in_ok-point.point (omega arith) c.in_ok-point.ensures.value) (long_lacks 32 line.point (omega arith) is.0) c.in_ok-point.ensures.found e))

pub returns-in_err-reply : goal.returns-in_err-reply
returns-in_err-reply c =
    unread_by IsHistoryLine history_body c.args.text.now c.from_residual-in_err-reply.result c.in_err-reply.field-0.0 c.from_residual-in_err-reply.ensures.1 c.in_err-reply.ensures (λ none line is e. none line.reply is.2 (behind_field 32 (client_text c.in_ok-call.call) c.in_ok-call.rest.now c.in_ok-point.rest.now (client_text line.call) (shown_text line.reply) (client_lacks 32 c.in_ok-call.call (omega arith) c.in_ok-call.ensures.value) (client_lacks 32 line.call (omega arith) is.1) c.in_ok-call.ensures.found (behind_field 32 (decimal c.in_ok-point.point) c.in_ok-point.rest.now c.args.text.now (decimal line.point) (client_text line.call ++ 32 ∷ shown_text line.reply) (long_lacks 32 c.in_ok-point.point (omega arith) c.in_ok-point.ensures.value) (long_lacks 32 line.point (omega arith) is.0) c.in_ok-point.ensures.found e)))
