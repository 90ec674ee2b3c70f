use Rattle.transcript_text.specs.Words.{result_text}
use Rattle.transcript_read.specs.Reasons.{IsResult}
use Rattle.transcript_read.proofs.OutcomeLaws.{lost_result, no_result}
use Rattle.transcript_read.proofs.PartLaws.{unread_by}
use Rattle.transcript_read.proofs.outcome_field.RepairResultField.read.Goals as goal

pub returns-in_err-stripe : goal.returns-in_err-stripe
returns-in_err-stripe c =
    unread_by IsResult result_text c.args.text.now c.from_residual.result c.in_err-stripe.field-0.0 c.from_residual.ensures.1 c.in_err-stripe.ensures
    (lost_result c.args.text.now c.in-Some.rest.now c.in-Some.ensures.some)

pub returns-in-None : goal.returns-in-None
returns-in-None c =
    no_result c.args.text.now c.in_default.ensures.none c.in_default-behind.ensures.none c.in_default-behind-2.ensures.none c.in_default-behind-3.ensures.none
    c.in-None.ensures.none.0 c.in-None.ensures.none.1 c.in-None.ensures.none.2 c.in-None.ensures.none.3
