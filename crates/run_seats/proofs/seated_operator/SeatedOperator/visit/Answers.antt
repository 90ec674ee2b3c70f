use Rattle.std.proofs.Common.{◌≡◌, true, false, refl, sym, ◌∙◌, true≢false}
use Rattle.run_seats.specs.SeatedPlain.{line_left}
use Rattle.run_seats.proofs.seated_operator.SeatedOperator.visit.Goals as goal

pub returns-then-not-has_line-clause-seated : goal.returns-then-not-has_line-clause-seated
returns-then-not-has_line-clause-seated g c = c.requires.seated

pub returns-then-not-has_line-clause-number : goal.returns-then-not-has_line-clause-number
returns-then-not-has_line-clause-number g c = refl

pub returns-then-not-has_line-clause-falls : goal.returns-then-not-has_line-clause-falls
returns-then-not-has_line-clause-falls g c has = absurd (true≢false (sym has ∙ (sym c.has_line.ensures ∙ c.if-not-has_line.true)))

pub returns-then-not-has_line-clause-over : goal.returns-then-not-has_line-clause-over
returns-then-not-has_line-clause-over g c none = refl

pub returns-then-not-has_line-clause-told : goal.returns-then-not-has_line-clause-told
returns-then-not-has_line-clause-told g c has = absurd (true≢false (sym has ∙ (sym c.has_line.ensures ∙ c.if-not-has_line.true)))

pub returns-then-not-has_line-clause-counted : goal.returns-then-not-has_line-clause-counted
returns-then-not-has_line-clause-counted g c has = absurd (true≢false (sym has ∙ (sym c.has_line.ensures ∙ c.if-not-has_line.true)))

pub turn-requires : goal.turn-requires
turn-requires g c = record { store_is = c.requires.store; seated_is = c.requires.seated; has = sym c.has_line.ensures ∙ c.if-not-has_line.false }

pub returns-clause-seated : goal.returns-clause-seated
returns-clause-seated g c = c.turn.ensures.steps.seated_is

pub returns-clause-number : goal.returns-clause-number
returns-clause-number g c = c.turn.ensures.steps.same

pub returns-clause-falls : goal.returns-clause-falls
returns-clause-falls g c has = c.turn.ensures.steps.falls

pub returns-clause-over : goal.returns-clause-over
returns-clause-over g c none = absurd (true≢false (sym (sym c.has_line.ensures ∙ c.if-not-has_line.false) ∙ none))

pub returns-clause-told : goal.returns-clause-told
returns-clause-told g c has = c.turn.ensures.told

pub returns-clause-counted : goal.returns-clause-counted
returns-clause-counted g c has = c.turn.ensures.steps.one_more
