use Rattle.std.proofs.Common.{length, sym, ap, ◌∙◌, arith, inl, inr}
use Rattle.hist_rules.specs.Calls.{with_number, is_named}
use Rattle.hist_rules.specs.Named.{answered_calls}
use Rattle.hist_tables.specs.Tables.{has}
use Rattle.hist_check.proofs.Below.{prefix_at}
use Rattle.hist_check.proofs.least_missing.least_missing.Goals as goal

pub returns-then-not-contains : goal.returns-then-not-contains
returns-then-not-contains c =
    prefix_at (λ number. is_named (with_number c.args.call number) (answered_calls c.args.transcript.now)) (length (answered_calls c.args.transcript.now)) c.loop-number.number (omega (arith, c.count_answers-count.ensures))
    (λ k below. sym (c.requires.set (with_number c.args.call k)) ∙ c.loop-number.invariant k below)
    (inr (sym (c.requires.set (with_number c.args.call c.loop-number.number)) ∙ ap (has c.args.set.now) (sym c.with_number.ensures) ∙ sym c.if-not-contains.ensures))

pub returns : goal.returns
returns c =
    prefix_at (λ number. is_named (with_number c.args.call number) (answered_calls c.args.transcript.now)) (length (answered_calls c.args.transcript.now)) c.count_answers-count.result
    (omega (arith, c.count_answers-count.ensures))
    (λ k below. sym (c.requires.set (with_number c.args.call k)) ∙ c.loop-number.invariant k (omega (arith, below))) (inl c.count_answers-count.ensures)
