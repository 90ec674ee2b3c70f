use Rattle.std.proofs.Common.{arith, sym, ap, drop, ◌∙◌}
use Rattle.std.specs.Prelude.{decimal}
use Rattle.store_map.specs.Triples.{triple_text}
use Rattle.transcript_text.specs.Words.{missing_text}
use Rattle.transcript_read.specs.Reasons.{IsLost, lost_text}
use Rattle.transcript_read.proofs.ListLaws.{listed, listed_some}
use Rattle.transcript_read.proofs.PartLaws.{long_lacks, triple_lacks, behind_field, two_parts, unread_by}
use Rattle.transcript_read.proofs.outcome_field.read_lost.Goals as goal

pub first_field-requires : goal.first_field-requires
first_field-requires c =
    λ n long. long_lacks 32 n (omega arith) long

pub returns-in_default : goal.returns-in_default
returns-in_default c =
    λ lost is e. c.in_default.ensures.none (listed triple_text lost.1) (behind_field 32 (decimal c.in_ok-stripe.stripe) c.in_ok-stripe.rest.now c.args.text.now (decimal lost.0) (missing_text lost.1) (long_lacks 32 c.in_ok-stripe.stripe (omega arith) c.in_ok-stripe.ensures.value) (long_lacks 32 lost.0 (omega arith) is.0) c.in_ok-stripe.ensures.found (e ∙ two_parts 32 (decimal lost.0) (missing_text lost.1)))

pub read_list-requires : goal.read_list-requires
read_list-requires c =
    λ t is. triple_lacks 32 t (omega arith) is

pub returns-in_err-missing : goal.returns-in_err-missing
returns-in_err-missing c =
    unread_by IsLost lost_text c.args.text.now c.from_residual-in_err-missing.result c.in_err-missing.field-0.0 c.from_residual-in_err-missing.ensures.1 c.in_err-missing.ensures
    (λ none lost is e. none lost.1 is.1 (ap (drop 7) (sym c.in-Some.ensures.some ∙ (behind_field 32 (decimal c.in_ok-stripe.stripe) c.in_ok-stripe.rest.now c.args.text.now (decimal lost.0) (missing_text lost.1) (long_lacks 32 c.in_ok-stripe.stripe (omega arith) c.in_ok-stripe.ensures.value) (long_lacks 32 lost.0 (omega arith) is.0) c.in_ok-stripe.ensures.found (e ∙ two_parts 32 (decimal lost.0) (missing_text lost.1))))))

pub returns-then-is_empty : goal.returns-then-is_empty
returns-then-is_empty c =
    λ lost is e.
    let empty = c.is_empty.ensures.0 c.if-is_empty.true in
    listed_some triple_text lost.1 is.2 (sym (ap (drop 7) (sym c.in-Some.ensures.some ∙ (behind_field 32 (decimal c.in_ok-stripe.stripe) c.in_ok-stripe.rest.now c.args.text.now (decimal lost.0) (missing_text lost.1) (long_lacks 32 c.in_ok-stripe.stripe (omega arith) c.in_ok-stripe.ensures.value) (long_lacks 32 lost.0 (omega arith) is.0) c.in_ok-stripe.ensures.found (e ∙ two_parts 32 (decimal lost.0) (missing_text lost.1))))) ∙ c.in_ok-missing.ensures.1 ∙ ap (listed triple_text) empty)
