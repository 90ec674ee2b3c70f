use Rattle.std.proofs.Common.{arith, ◌≡◌, true}
use Rattle.store_map.specs.CallNames.{repair_text}
use Rattle.transcript_text.specs.Words.{result_text}
use Rattle.transcript_read.specs.Forms.{IsRepairLine}
use Rattle.transcript_read.specs.Bodies.{repair_body}
use Rattle.transcript_read.proofs.PartLaws.{behind_field, unread_by, repair_lacks}
use Rattle.transcript_read.proofs.transcript_line.read_repair.Goals as goal

pub first_field-requires : goal.first_field-requires
first_field-requires c =
    λ call is. repair_lacks 32 call (omega arith) is

pub returns-in_err-result : goal.returns-in_err-result
returns-in_err-result c =
    unread_by IsRepairLine repair_body c.args.text.now c.from_residual-in_err-result.result c.in_err-result.field-0.0 c.from_residual-in_err-result.ensures.1 c.in_err-result.ensures (λ none line is e. none line.result is.1 (behind_field 32 (repair_text c.in_ok-call.call) c.in_ok-call.rest.now c.args.text.now (repair_text line.call) (result_text line.result) (repair_lacks 32 c.in_ok-call.call (omega arith) c.in_ok-call.ensures.value) (repair_lacks 32 line.call (omega arith) is.0) c.in_ok-call.ensures.found (e)))
