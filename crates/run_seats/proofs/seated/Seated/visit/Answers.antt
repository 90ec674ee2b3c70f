use Rattle.std.proofs.Common.{◌≡◌, true, false, refl, sym, ap, ◌∙◌, true≢false}
use Rattle.version_seal.specs.Entry.{BookOf}
use Rattle.run_seats.specs.Seated.{seated_has}
use Rattle.run_seats.proofs.seated.Seated.visit.Goals as goal

pub returns-then-not-has_step-clause-seated : goal.returns-then-not-has_step-clause-seated
returns-then-not-has_step-clause-seated g c = c.requires.seated

pub returns-then-not-has_step-clause-number : goal.returns-then-not-has_step-clause-number
returns-then-not-has_step-clause-number g c = refl

pub returns-then-not-has_step-clause-falls : goal.returns-then-not-has_step-clause-falls
returns-then-not-has_step-clause-falls g c has =
    let none : seated_has c.args.store.now.script.now c.args.self.now ≡ false =
    sym (c.has_step.ensures c.args.store.now.script.now (ap (λ (b : BookOf). b.geometry) c.requires.seated.book ∙ c.requires.store.code)) ∙ c.if-not-has_step.true in
    absurd (true≢false (sym has ∙ none))

pub returns-then-not-has_step-clause-over : goal.returns-then-not-has_step-clause-over
returns-then-not-has_step-clause-over g c none = refl

pub returns-then-not-has_step-clause-told : goal.returns-then-not-has_step-clause-told
returns-then-not-has_step-clause-told g c has =
    let none : seated_has c.args.store.now.script.now c.args.self.now ≡ false =
    sym (c.has_step.ensures c.args.store.now.script.now (ap (λ (b : BookOf). b.geometry) c.requires.seated.book ∙ c.requires.store.code)) ∙ c.if-not-has_step.true in
    absurd (true≢false (sym has ∙ none))

pub returns-then-not-has_step-clause-counted : goal.returns-then-not-has_step-clause-counted
returns-then-not-has_step-clause-counted g c has =
    let none : seated_has c.args.store.now.script.now c.args.self.now ≡ false =
    sym (c.has_step.ensures c.args.store.now.script.now (ap (λ (b : BookOf). b.geometry) c.requires.seated.book ∙ c.requires.store.code)) ∙ c.if-not-has_step.true in
    absurd (true≢false (sym has ∙ none))

pub turn-requires : goal.turn-requires
turn-requires g c =
    let has : seated_has c.args.store.now.script.now c.args.self.now ≡ true =
    sym (c.has_step.ensures c.args.store.now.script.now (ap (λ (b : BookOf). b.geometry) c.requires.seated.book ∙ c.requires.store.code)) ∙ c.if-not-has_step.false in
    (c.type_bounds.sync-R, record { store_is = c.requires.store; seated_is = c.requires.seated; has = has })

pub returns-clause-seated : goal.returns-clause-seated
returns-clause-seated g c = c.turn.ensures.steps.seated_is

pub returns-clause-number : goal.returns-clause-number
returns-clause-number g c = c.turn.ensures.steps.same

pub returns-clause-falls : goal.returns-clause-falls
returns-clause-falls g c has = c.turn.ensures.steps.falls

pub returns-clause-over : goal.returns-clause-over
returns-clause-over g c none =
    let has : seated_has c.args.store.now.script.now c.args.self.now ≡ true =
    sym (c.has_step.ensures c.args.store.now.script.now (ap (λ (b : BookOf). b.geometry) c.requires.seated.book ∙ c.requires.store.code)) ∙ c.if-not-has_step.false in
    absurd (true≢false (sym has ∙ none))

pub returns-clause-told : goal.returns-clause-told
returns-clause-told g c has = c.turn.ensures.told

pub returns-clause-counted : goal.returns-clause-counted
returns-clause-counted g c has = c.turn.ensures.steps.one_more
