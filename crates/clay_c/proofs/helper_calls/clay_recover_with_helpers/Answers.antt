use Rattle.std.proofs.Common.{◌≡◌, refl, ap, arith, ◌∙◌}
use Rattle.clay_aloof.specs.Shape.{AloofShape}
use Rattle.clay_c.specs.Missing.{AloofChunksFit}
use Rattle.clay_c.proofs.Tested.{located_aloof, not_this, fits, unfit}
use Rattle.clay_c.proofs.helper_calls.clay_recover_with_helpers.Goals as goal

pub returns-then-not-chunks_fit-clause-geometry : goal.returns-then-not-chunks_fit-clause-geometry
returns-then-not-chunks_fit-clause-geometry c =
    let made = located_aloof c.args.k c.args.m c.args.d c.args.w c.geometry.result c.in-Some.g c.in-Some.is c.geometry.ensures in
    not_this 2 1 refl (λ never. never made.1)

pub returns-then-not-chunks_fit-clause-other : goal.returns-then-not-chunks_fit-clause-other
returns-then-not-chunks_fit-clause-other c = λ _ differs. absurd (differs refl)

pub returns-then-not-chunks_fit-clause-length : goal.returns-then-not-chunks_fit-clause-length
returns-then-not-chunks_fit-clause-length c =
    let made = located_aloof c.args.k c.args.m c.args.d c.args.w c.geometry.result c.in-Some.g c.in-Some.is c.geometry.ensures in
    (λ _. (made.1, λ h. unfit (λ (g : AloofShape). AloofChunksFit g c.args.present.now c.args.chunks.now) made.0 c.chunks_fit.ensures c.if-not-chunks_fit.true h), λ _. refl)

pub returns-then-not-chunks_fit-clause-few : goal.returns-then-not-chunks_fit-clause-few
returns-then-not-chunks_fit-clause-few c =
    let made = located_aloof c.args.k c.args.m c.args.d c.args.w c.geometry.result c.in-Some.g c.in-Some.is c.geometry.ensures in
    not_this 2 4 refl (λ h. unfit (λ (g : AloofShape). AloofChunksFit g c.args.present.now c.args.chunks.now) made.0 c.chunks_fit.ensures c.if-not-chunks_fit.true h.1)

pub returns-then-missing_count-m-clause-geometry : goal.returns-then-missing_count-m-clause-geometry
returns-then-missing_count-m-clause-geometry c =
    let made = located_aloof c.args.k c.args.m c.args.d c.args.w c.geometry.result c.in-Some.g c.in-Some.is c.geometry.ensures in
    not_this 4 1 refl (λ never. never made.1)

pub returns-then-missing_count-m-clause-other : goal.returns-then-missing_count-m-clause-other
returns-then-missing_count-m-clause-other c = λ _ _ differs. absurd (differs refl)

pub returns-then-missing_count-m-clause-length : goal.returns-then-missing_count-m-clause-length
returns-then-missing_count-m-clause-length c =
    let made = located_aloof c.args.k c.args.m c.args.d c.args.w c.geometry.result c.in-Some.g c.in-Some.is c.geometry.ensures in
    not_this 4 2 refl (λ h. h.1 (fits (λ (g : AloofShape). AloofChunksFit g c.args.present.now c.args.chunks.now) made.0 c.chunks_fit.ensures c.if-not-chunks_fit.false))

pub returns-then-missing_count-m-clause-few : goal.returns-then-missing_count-m-clause-few
returns-then-missing_count-m-clause-few c =
    let made = located_aloof c.args.k c.args.m c.args.d c.args.w c.geometry.result c.in-Some.g c.in-Some.is c.geometry.ensures in
    let most : c.m.result ≡ c.args.m = c.m.ensures.value ∙ ap (λ (g : AloofShape). g.parity_count) made.0 in
    (λ _. (made.1, fits (λ (g : AloofShape). AloofChunksFit g c.args.present.now c.args.chunks.now) made.0 c.chunks_fit.ensures c.if-not-chunks_fit.false, omega (arith, c.if-missing_count-m.true, c.missing_count.ensures, most)), λ _. refl)

pub returns-in-Ok-clause-geometry : goal.returns-in-Ok-clause-geometry
returns-in-Ok-clause-geometry c =
    let made = located_aloof c.args.k c.args.m c.args.d c.args.w c.geometry.result c.in-Some.g c.in-Some.is c.geometry.ensures in
    not_this 0 1 refl (λ never. never made.1)

pub returns-in-Ok-clause-other : goal.returns-in-Ok-clause-other
returns-in-Ok-clause-other c = λ _ _ _ differs. absurd (differs refl)

pub returns-in-Ok-clause-length : goal.returns-in-Ok-clause-length
returns-in-Ok-clause-length c =
    let made = located_aloof c.args.k c.args.m c.args.d c.args.w c.geometry.result c.in-Some.g c.in-Some.is c.geometry.ensures in
    not_this 0 2 refl (λ h. h.1 (fits (λ (g : AloofShape). AloofChunksFit g c.args.present.now c.args.chunks.now) made.0 c.chunks_fit.ensures c.if-not-chunks_fit.false))

pub returns-in-Ok-clause-few : goal.returns-in-Ok-clause-few
returns-in-Ok-clause-few c =
    let made = located_aloof c.args.k c.args.m c.args.d c.args.w c.geometry.result c.in-Some.g c.in-Some.is c.geometry.ensures in
    let most : c.m.result ≡ c.args.m = c.m.ensures.value ∙ ap (λ (g : AloofShape). g.parity_count) made.0 in
    not_this 0 4 refl (λ h. omega (arith, h.2, c.if-missing_count-m.false, c.missing_count.ensures, most))

pub returns-in-Err-clause-geometry : goal.returns-in-Err-clause-geometry
returns-in-Err-clause-geometry c =
    let made = located_aloof c.args.k c.args.m c.args.d c.args.w c.geometry.result c.in-Some.g c.in-Some.is c.geometry.ensures in
    not_this 5 1 refl (λ never. never made.1)

pub returns-in-Err-clause-other : goal.returns-in-Err-clause-other
returns-in-Err-clause-other c = λ _ _ _ _. refl

pub returns-in-Err-clause-length : goal.returns-in-Err-clause-length
returns-in-Err-clause-length c =
    let made = located_aloof c.args.k c.args.m c.args.d c.args.w c.geometry.result c.in-Some.g c.in-Some.is c.geometry.ensures in
    not_this 5 2 refl (λ h. h.1 (fits (λ (g : AloofShape). AloofChunksFit g c.args.present.now c.args.chunks.now) made.0 c.chunks_fit.ensures c.if-not-chunks_fit.false))

pub returns-in-Err-clause-few : goal.returns-in-Err-clause-few
returns-in-Err-clause-few c =
    let made = located_aloof c.args.k c.args.m c.args.d c.args.w c.geometry.result c.in-Some.g c.in-Some.is c.geometry.ensures in
    let most : c.m.result ≡ c.args.m = c.m.ensures.value ∙ ap (λ (g : AloofShape). g.parity_count) made.0 in
    not_this 5 4 refl (λ h. omega (arith, h.2, c.if-missing_count-m.false, c.missing_count.ensures, most))
