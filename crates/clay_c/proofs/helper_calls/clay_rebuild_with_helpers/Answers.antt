use Rattle.std.proofs.Common.{◌≡◌, refl, ap, arith, ◌+◌, ◌∙◌}
use Rattle.clay_aloof.specs.Shape.{AloofShape, all_chunks}
use Rattle.clay_c.specs.Helpers.{MarkedPartsFit, MarksFit}
use Rattle.clay_c.proofs.Tested.{located_aloof, not_this, fits, unfit}
use Rattle.clay_c.proofs.helper_calls.clay_rebuild_with_helpers.Goals as goal

pub returns-then-lost-n-clause-geometry : goal.returns-then-lost-n-clause-geometry
returns-then-lost-n-clause-geometry c =
    let made = located_aloof c.args.k c.args.m c.args.d c.args.w c.geometry.result c.in-Some.g c.in-Some.is c.geometry.ensures in
    not_this 3 1 refl (λ never. never made.1)

pub returns-then-lost-n-clause-other : goal.returns-then-lost-n-clause-other
returns-then-lost-n-clause-other c = λ _ differs. absurd (differs refl)

pub returns-then-lost-n-clause-number : goal.returns-then-lost-n-clause-number
returns-then-lost-n-clause-number c =
    let made = located_aloof c.args.k c.args.m c.args.d c.args.w c.geometry.result c.in-Some.g c.in-Some.is c.geometry.ensures in
    let size : c.n.result ≡ c.args.k + c.args.m = c.n.ensures.value ∙ ap all_chunks made.0 in
    (λ _. (made.1, λ h. omega (arith, h, c.if-lost-n.true, size)), λ _. refl)

pub returns-then-lost-n-clause-length : goal.returns-then-lost-n-clause-length
returns-then-lost-n-clause-length c =
    let made = located_aloof c.args.k c.args.m c.args.d c.args.w c.geometry.result c.in-Some.g c.in-Some.is c.geometry.ensures in
    let size : c.n.result ≡ c.args.k + c.args.m = c.n.ensures.value ∙ ap all_chunks made.0 in
    not_this 3 2 refl (λ h. omega (arith, h.1, c.if-lost-n.true, size))

pub returns-then-lost-n-clause-unfit : goal.returns-then-lost-n-clause-unfit
returns-then-lost-n-clause-unfit c =
    let made = located_aloof c.args.k c.args.m c.args.d c.args.w c.geometry.result c.in-Some.g c.in-Some.is c.geometry.ensures in
    let size : c.n.result ≡ c.args.k + c.args.m = c.n.ensures.value ∙ ap all_chunks made.0 in
    not_this 3 6 refl (λ h. omega (arith, h.1, c.if-lost-n.true, size))

pub returns-then-not-parts_fit-clause-geometry : goal.returns-then-not-parts_fit-clause-geometry
returns-then-not-parts_fit-clause-geometry c =
    let made = located_aloof c.args.k c.args.m c.args.d c.args.w c.geometry.result c.in-Some.g c.in-Some.is c.geometry.ensures in
    not_this 2 1 refl (λ never. never made.1)

pub returns-then-not-parts_fit-clause-other : goal.returns-then-not-parts_fit-clause-other
returns-then-not-parts_fit-clause-other c = λ _ _ differs. absurd (differs refl)

pub returns-then-not-parts_fit-clause-number : goal.returns-then-not-parts_fit-clause-number
returns-then-not-parts_fit-clause-number c =
    let made = located_aloof c.args.k c.args.m c.args.d c.args.w c.geometry.result c.in-Some.g c.in-Some.is c.geometry.ensures in
    let size : c.n.result ≡ c.args.k + c.args.m = c.n.ensures.value ∙ ap all_chunks made.0 in
    not_this 2 3 refl (λ h. h.1 (omega (arith, c.if-lost-n.false, size)))

pub returns-then-not-parts_fit-clause-length : goal.returns-then-not-parts_fit-clause-length
returns-then-not-parts_fit-clause-length c =
    let made = located_aloof c.args.k c.args.m c.args.d c.args.w c.geometry.result c.in-Some.g c.in-Some.is c.geometry.ensures in
    let size : c.n.result ≡ c.args.k + c.args.m = c.n.ensures.value ∙ ap all_chunks made.0 in
    (λ _. (made.1, omega (arith, c.if-lost-n.false, size), λ h. unfit (λ (g : AloofShape). MarkedPartsFit g c.args.helpers.now c.args.parts.now c.args.chunk.now) made.0 c.parts_fit.ensures c.if-not-parts_fit.true h), λ _. refl)

pub returns-then-not-parts_fit-clause-unfit : goal.returns-then-not-parts_fit-clause-unfit
returns-then-not-parts_fit-clause-unfit c =
    let made = located_aloof c.args.k c.args.m c.args.d c.args.w c.geometry.result c.in-Some.g c.in-Some.is c.geometry.ensures in
    not_this 2 6 refl (λ h. unfit (λ (g : AloofShape). MarkedPartsFit g c.args.helpers.now c.args.parts.now c.args.chunk.now) made.0 c.parts_fit.ensures c.if-not-parts_fit.true h.2)

pub returns-then-not-marks_fit-clause-geometry : goal.returns-then-not-marks_fit-clause-geometry
returns-then-not-marks_fit-clause-geometry c =
    let made = located_aloof c.args.k c.args.m c.args.d c.args.w c.geometry.result c.in-Some.g c.in-Some.is c.geometry.ensures in
    not_this 6 1 refl (λ never. never made.1)

pub returns-then-not-marks_fit-clause-other : goal.returns-then-not-marks_fit-clause-other
returns-then-not-marks_fit-clause-other c = λ _ _ _ differs. absurd (differs refl)

pub returns-then-not-marks_fit-clause-number : goal.returns-then-not-marks_fit-clause-number
returns-then-not-marks_fit-clause-number c =
    let made = located_aloof c.args.k c.args.m c.args.d c.args.w c.geometry.result c.in-Some.g c.in-Some.is c.geometry.ensures in
    let size : c.n.result ≡ c.args.k + c.args.m = c.n.ensures.value ∙ ap all_chunks made.0 in
    not_this 6 3 refl (λ h. h.1 (omega (arith, c.if-lost-n.false, size)))

pub returns-then-not-marks_fit-clause-length : goal.returns-then-not-marks_fit-clause-length
returns-then-not-marks_fit-clause-length c =
    let made = located_aloof c.args.k c.args.m c.args.d c.args.w c.geometry.result c.in-Some.g c.in-Some.is c.geometry.ensures in
    not_this 6 2 refl (λ h. h.2 (fits (λ (g : AloofShape). MarkedPartsFit g c.args.helpers.now c.args.parts.now c.args.chunk.now) made.0 c.parts_fit.ensures c.if-not-parts_fit.false))

pub returns-then-not-marks_fit-clause-unfit : goal.returns-then-not-marks_fit-clause-unfit
returns-then-not-marks_fit-clause-unfit c =
    let made = located_aloof c.args.k c.args.m c.args.d c.args.w c.geometry.result c.in-Some.g c.in-Some.is c.geometry.ensures in
    let size : c.n.result ≡ c.args.k + c.args.m = c.n.ensures.value ∙ ap all_chunks made.0 in
    (λ _. (made.1, omega (arith, c.if-lost-n.false, size), fits (λ (g : AloofShape). MarkedPartsFit g c.args.helpers.now c.args.parts.now c.args.chunk.now) made.0 c.parts_fit.ensures c.if-not-parts_fit.false, λ h. unfit (λ (g : AloofShape). MarksFit g c.args.lost c.args.helpers.now) made.0 c.marks_fit.ensures c.if-not-marks_fit.true h), λ _. refl)

pub returns-in-Ok-clause-geometry : goal.returns-in-Ok-clause-geometry
returns-in-Ok-clause-geometry c =
    let made = located_aloof c.args.k c.args.m c.args.d c.args.w c.geometry.result c.in-Some.g c.in-Some.is c.geometry.ensures in
    not_this 0 1 refl (λ never. never made.1)

pub returns-in-Ok-clause-other : goal.returns-in-Ok-clause-other
returns-in-Ok-clause-other c = λ _ _ _ _ differs. absurd (differs refl)

pub returns-in-Ok-clause-number : goal.returns-in-Ok-clause-number
returns-in-Ok-clause-number c =
    let made = located_aloof c.args.k c.args.m c.args.d c.args.w c.geometry.result c.in-Some.g c.in-Some.is c.geometry.ensures in
    let size : c.n.result ≡ c.args.k + c.args.m = c.n.ensures.value ∙ ap all_chunks made.0 in
    not_this 0 3 refl (λ h. h.1 (omega (arith, c.if-lost-n.false, size)))

pub returns-in-Ok-clause-length : goal.returns-in-Ok-clause-length
returns-in-Ok-clause-length c =
    let made = located_aloof c.args.k c.args.m c.args.d c.args.w c.geometry.result c.in-Some.g c.in-Some.is c.geometry.ensures in
    not_this 0 2 refl (λ h. h.2 (fits (λ (g : AloofShape). MarkedPartsFit g c.args.helpers.now c.args.parts.now c.args.chunk.now) made.0 c.parts_fit.ensures c.if-not-parts_fit.false))

pub returns-in-Ok-clause-unfit : goal.returns-in-Ok-clause-unfit
returns-in-Ok-clause-unfit c =
    let made = located_aloof c.args.k c.args.m c.args.d c.args.w c.geometry.result c.in-Some.g c.in-Some.is c.geometry.ensures in
    not_this 0 6 refl (λ h. h.3 (fits (λ (g : AloofShape). MarksFit g c.args.lost c.args.helpers.now) made.0 c.marks_fit.ensures c.if-not-marks_fit.false))

pub returns-in-Err-clause-geometry : goal.returns-in-Err-clause-geometry
returns-in-Err-clause-geometry c =
    let made = located_aloof c.args.k c.args.m c.args.d c.args.w c.geometry.result c.in-Some.g c.in-Some.is c.geometry.ensures in
    not_this 5 1 refl (λ never. never made.1)

pub returns-in-Err-clause-other : goal.returns-in-Err-clause-other
returns-in-Err-clause-other c = λ _ _ _ _ _. refl

pub returns-in-Err-clause-number : goal.returns-in-Err-clause-number
returns-in-Err-clause-number c =
    let made = located_aloof c.args.k c.args.m c.args.d c.args.w c.geometry.result c.in-Some.g c.in-Some.is c.geometry.ensures in
    let size : c.n.result ≡ c.args.k + c.args.m = c.n.ensures.value ∙ ap all_chunks made.0 in
    not_this 5 3 refl (λ h. h.1 (omega (arith, c.if-lost-n.false, size)))

pub returns-in-Err-clause-length : goal.returns-in-Err-clause-length
returns-in-Err-clause-length c =
    let made = located_aloof c.args.k c.args.m c.args.d c.args.w c.geometry.result c.in-Some.g c.in-Some.is c.geometry.ensures in
    not_this 5 2 refl (λ h. h.2 (fits (λ (g : AloofShape). MarkedPartsFit g c.args.helpers.now c.args.parts.now c.args.chunk.now) made.0 c.parts_fit.ensures c.if-not-parts_fit.false))

pub returns-in-Err-clause-unfit : goal.returns-in-Err-clause-unfit
returns-in-Err-clause-unfit c =
    let made = located_aloof c.args.k c.args.m c.args.d c.args.w c.geometry.result c.in-Some.g c.in-Some.is c.geometry.ensures in
    not_this 5 6 refl (λ h. h.3 (fits (λ (g : AloofShape). MarksFit g c.args.lost c.args.helpers.now) made.0 c.marks_fit.ensures c.if-not-marks_fit.false))
