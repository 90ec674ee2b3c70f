use Rattle.std.proofs.Common.{refl}
use Rattle.clay_aloof.specs.Shape.{AloofShape}
use Rattle.clay_c.specs.Helpers.{AloofParityFits}
use Rattle.clay_c.proofs.Tested.{located_aloof, not_this, fits, unfit}
use Rattle.clay_c.proofs.helper_calls.clay_parity_with_helpers.Goals as goal

pub returns-then-not-parity_fits-clause-geometry : goal.returns-then-not-parity_fits-clause-geometry
returns-then-not-parity_fits-clause-geometry c =
    let made = located_aloof c.args.k c.args.m c.args.d c.args.w c.geometry.result c.in-Some.g c.in-Some.is c.geometry.ensures in
    not_this 2 1 refl (λ never. never made.1)

pub returns-then-not-parity_fits-clause-other : goal.returns-then-not-parity_fits-clause-other
returns-then-not-parity_fits-clause-other c = λ _ differs. absurd (differs refl)

pub returns-then-not-parity_fits-clause-length : goal.returns-then-not-parity_fits-clause-length
returns-then-not-parity_fits-clause-length c =
    let made = located_aloof c.args.k c.args.m c.args.d c.args.w c.geometry.result c.in-Some.g c.in-Some.is c.geometry.ensures in
    (λ _. (made.1, λ h. unfit (λ (g : AloofShape). AloofParityFits g c.args.stripe.now c.args.parity.now) made.0 c.parity_fits.ensures c.if-not-parity_fits.true h), λ _. refl)

pub returns-in-Ok-clause-geometry : goal.returns-in-Ok-clause-geometry
returns-in-Ok-clause-geometry c =
    let made = located_aloof c.args.k c.args.m c.args.d c.args.w c.geometry.result c.in-Some.g c.in-Some.is c.geometry.ensures in
    not_this 0 1 refl (λ never. never made.1)

pub returns-in-Ok-clause-other : goal.returns-in-Ok-clause-other
returns-in-Ok-clause-other c = λ _ _ differs. absurd (differs refl)

pub returns-in-Ok-clause-length : goal.returns-in-Ok-clause-length
returns-in-Ok-clause-length c =
    let made = located_aloof c.args.k c.args.m c.args.d c.args.w c.geometry.result c.in-Some.g c.in-Some.is c.geometry.ensures in
    not_this 0 2 refl (λ h. h.1 (fits (λ (g : AloofShape). AloofParityFits g c.args.stripe.now c.args.parity.now) made.0 c.parity_fits.ensures c.if-not-parity_fits.false))

pub returns-in-Err-clause-geometry : goal.returns-in-Err-clause-geometry
returns-in-Err-clause-geometry c =
    let made = located_aloof c.args.k c.args.m c.args.d c.args.w c.geometry.result c.in-Some.g c.in-Some.is c.geometry.ensures in
    not_this 5 1 refl (λ never. never made.1)

pub returns-in-Err-clause-other : goal.returns-in-Err-clause-other
returns-in-Err-clause-other c = λ _ _ _. refl

pub returns-in-Err-clause-length : goal.returns-in-Err-clause-length
returns-in-Err-clause-length c =
    let made = located_aloof c.args.k c.args.m c.args.d c.args.w c.geometry.result c.in-Some.g c.in-Some.is c.geometry.ensures in
    not_this 5 2 refl (λ h. h.1 (fits (λ (g : AloofShape). AloofParityFits g c.args.stripe.now c.args.parity.now) made.0 c.parity_fits.ensures c.if-not-parity_fits.false))
