use Rattle.std.proofs.Common.{◌≡◌, ℕ, List, Bor, map, refl, ap, arith, ◌+◌, ◌∙◌}
use Rattle.clay_grid.specs.Shape.{Shape, chunk_count}
use Rattle.clay_c.specs.Apart.{PartSlicesFit}
use Rattle.clay_c.proofs.Tested.{located, not_this, fits, unfit}
use Rattle.clay_c.proofs.calls_apart.clay_rebuild_chunks.Goals as goal

pub returns-then-lost-n-clause-geometry : goal.returns-then-lost-n-clause-geometry
returns-then-lost-n-clause-geometry c =
    let made = located c.args.k c.args.m c.args.w c.geometry.result c.in-Some.g c.in-Some.is c.geometry.ensures in
    not_this 3 1 refl (λ never. never made.1)

pub returns-then-lost-n-clause-other : goal.returns-then-lost-n-clause-other
returns-then-lost-n-clause-other c = λ _ differs. absurd (differs refl)

pub returns-then-lost-n-clause-chunk : goal.returns-then-lost-n-clause-chunk
returns-then-lost-n-clause-chunk c =
    let made = located c.args.k c.args.m c.args.w c.geometry.result c.in-Some.g c.in-Some.is c.geometry.ensures in
    let size : c.n.result ≡ c.args.k + c.args.m = c.n.ensures.value ∙ ap chunk_count made.0 in
    (λ _. (made.1, λ h. omega (arith, h, c.if-lost-n.true, size)), λ _. refl)

pub returns-then-lost-n-clause-length : goal.returns-then-lost-n-clause-length
returns-then-lost-n-clause-length c =
    let made = located c.args.k c.args.m c.args.w c.geometry.result c.in-Some.g c.in-Some.is c.geometry.ensures in
    let size : c.n.result ≡ c.args.k + c.args.m = c.n.ensures.value ∙ ap chunk_count made.0 in
    not_this 3 2 refl (λ h. omega (arith, h.1, c.if-lost-n.true, size))

pub returns-then-not-parts_fit-clause-geometry : goal.returns-then-not-parts_fit-clause-geometry
returns-then-not-parts_fit-clause-geometry c =
    let made = located c.args.k c.args.m c.args.w c.geometry.result c.in-Some.g c.in-Some.is c.geometry.ensures in
    not_this 2 1 refl (λ never. never made.1)

pub returns-then-not-parts_fit-clause-other : goal.returns-then-not-parts_fit-clause-other
returns-then-not-parts_fit-clause-other c = λ _ _ differs. absurd (differs refl)

pub returns-then-not-parts_fit-clause-chunk : goal.returns-then-not-parts_fit-clause-chunk
returns-then-not-parts_fit-clause-chunk c =
    let made = located c.args.k c.args.m c.args.w c.geometry.result c.in-Some.g c.in-Some.is c.geometry.ensures in
    let size : c.n.result ≡ c.args.k + c.args.m = c.n.ensures.value ∙ ap chunk_count made.0 in
    not_this 2 3 refl (λ h. h.1 (omega (arith, c.if-lost-n.false, size)))

pub returns-then-not-parts_fit-clause-length : goal.returns-then-not-parts_fit-clause-length
returns-then-not-parts_fit-clause-length c =
    let made = located c.args.k c.args.m c.args.w c.geometry.result c.in-Some.g c.in-Some.is c.geometry.ensures in
    let size : c.n.result ≡ c.args.k + c.args.m = c.n.ensures.value ∙ ap chunk_count made.0 in
    (λ _. (made.1, omega (arith, c.if-lost-n.false, size), λ h. unfit (λ (g : Shape). PartSlicesFit g (map (λ (part : Bor (List ℕ)). part.now) c.args.parts.now) c.args.chunk.now) made.0 c.parts_fit.ensures c.if-not-parts_fit.true h), λ _. refl)

pub returns-in-Ok-clause-geometry : goal.returns-in-Ok-clause-geometry
returns-in-Ok-clause-geometry c =
    let made = located c.args.k c.args.m c.args.w c.geometry.result c.in-Some.g c.in-Some.is c.geometry.ensures in
    not_this 0 1 refl (λ never. never made.1)

pub returns-in-Ok-clause-other : goal.returns-in-Ok-clause-other
returns-in-Ok-clause-other c = λ _ _ _ differs. absurd (differs refl)

pub returns-in-Ok-clause-chunk : goal.returns-in-Ok-clause-chunk
returns-in-Ok-clause-chunk c =
    let made = located c.args.k c.args.m c.args.w c.geometry.result c.in-Some.g c.in-Some.is c.geometry.ensures in
    let size : c.n.result ≡ c.args.k + c.args.m = c.n.ensures.value ∙ ap chunk_count made.0 in
    not_this 0 3 refl (λ h. h.1 (omega (arith, c.if-lost-n.false, size)))

pub returns-in-Ok-clause-length : goal.returns-in-Ok-clause-length
returns-in-Ok-clause-length c =
    let made = located c.args.k c.args.m c.args.w c.geometry.result c.in-Some.g c.in-Some.is c.geometry.ensures in
    not_this 0 2 refl (λ h. h.2 (fits (λ (g : Shape). PartSlicesFit g (map (λ (part : Bor (List ℕ)). part.now) c.args.parts.now) c.args.chunk.now) made.0 c.parts_fit.ensures c.if-not-parts_fit.false))

pub returns-in-Err-clause-geometry : goal.returns-in-Err-clause-geometry
returns-in-Err-clause-geometry c =
    let made = located c.args.k c.args.m c.args.w c.geometry.result c.in-Some.g c.in-Some.is c.geometry.ensures in
    not_this 5 1 refl (λ never. never made.1)

pub returns-in-Err-clause-other : goal.returns-in-Err-clause-other
returns-in-Err-clause-other c = λ _ _ _ _. refl

pub returns-in-Err-clause-chunk : goal.returns-in-Err-clause-chunk
returns-in-Err-clause-chunk c =
    let made = located c.args.k c.args.m c.args.w c.geometry.result c.in-Some.g c.in-Some.is c.geometry.ensures in
    let size : c.n.result ≡ c.args.k + c.args.m = c.n.ensures.value ∙ ap chunk_count made.0 in
    not_this 5 3 refl (λ h. h.1 (omega (arith, c.if-lost-n.false, size)))

pub returns-in-Err-clause-length : goal.returns-in-Err-clause-length
returns-in-Err-clause-length c =
    let made = located c.args.k c.args.m c.args.w c.geometry.result c.in-Some.g c.in-Some.is c.geometry.ensures in
    not_this 5 2 refl (λ h. h.2 (fits (λ (g : Shape). PartSlicesFit g (map (λ (part : Bor (List ℕ)). part.now) c.args.parts.now) c.args.chunk.now) made.0 c.parts_fit.ensures c.if-not-parts_fit.false))
