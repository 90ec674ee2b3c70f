use Rattle.std.proofs.Common.{◌≡◌, true}
use Rattle.transcript_text.specs.Words.{cause_text}
use Rattle.transcript_read.specs.Reasons.{IsCause}
use Rattle.transcript_read.proofs.OutcomeLaws.{lost_cause, pairs_cause, no_cause}
use Rattle.transcript_read.proofs.PartLaws.{unread_by}
use Rattle.transcript_read.proofs.outcome_field.CauseField.read.Goals as goal

pub returns-in_err-stripe : goal.returns-in_err-stripe
returns-in_err-stripe c =
    unread_by IsCause cause_text c.args.text.now c.from_residual.result c.in_err-stripe.field-0.0 c.from_residual.ensures.1 c.in_err-stripe.ensures
    (lost_cause c.args.text.now c.in-Some.rest.now c.in-Some.ensures.some)

pub returns-in_err-pairs : goal.returns-in_err-pairs
returns-in_err-pairs c =
    unread_by IsCause cause_text c.args.text.now c.from_residual-in_err-pairs.result c.in_err-pairs.field-0.0 c.from_residual-in_err-pairs.ensures.1 c.in_err-pairs.ensures
    (pairs_cause c.args.text.now c.in-Some-behind.rest.now c.in-Some-behind.ensures.some)

pub returns : goal.returns
returns c =
    no_cause c.args.text.now c.in_default.ensures.none c.in_default-behind.ensures.none c.in_default-behind-2.ensures.none (λ e. let yes : c.is_text.result ≡ true = c.is_text.ensures.1 e in cc (yes, c.if-is_text.false))
