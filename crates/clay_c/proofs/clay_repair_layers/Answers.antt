use Rattle.std.proofs.Common.{◌≡◌, refl, ap, arith, ◌+◌, ◌∙◌}
use Rattle.clay_grid.specs.Shape.{chunk_count}
use Rattle.clay_c.proofs.Tested.{located, not_this}
use Rattle.clay_c.proofs.clay_repair_layers.Goals as goal

pub returns-then-lost-n-clause-geometry : goal.returns-then-lost-n-clause-geometry
returns-then-lost-n-clause-geometry c =
    let made = located c.args.k c.args.m c.args.w c.geometry.result c.in-Some.g c.in-Some.is c.geometry.ensures in
    not_this 3 1 refl (λ never. never made.1)

pub returns-then-lost-n-clause-other : goal.returns-then-lost-n-clause-other
returns-then-lost-n-clause-other c = λ _ differs. absurd (differs refl)

pub returns-then-lost-n-clause-chunk : goal.returns-then-lost-n-clause-chunk
returns-then-lost-n-clause-chunk c =
    let made = located c.args.k c.args.m c.args.w c.geometry.result c.in-Some.g c.in-Some.is c.geometry.ensures in
    let size : c.n.result ≡ c.args.k + c.args.m = c.n.ensures.value ∙ ap chunk_count made.0 in
    (λ _. (made.1, λ h. omega (arith, h, c.if-lost-n.true, size)), λ _. refl)

pub returns-then-lost-n-clause-length : goal.returns-then-lost-n-clause-length
returns-then-lost-n-clause-length c =
    let made = located c.args.k c.args.m c.args.w c.geometry.result c.in-Some.g c.in-Some.is c.geometry.ensures in
    let size : c.n.result ≡ c.args.k + c.args.m = c.n.ensures.value ∙ ap chunk_count made.0 in
    not_this 3 2 refl (λ h. omega (arith, h.1, c.if-lost-n.true, size))

pub returns-then-layers-stride-clause-geometry : goal.returns-then-layers-stride-clause-geometry
returns-then-layers-stride-clause-geometry c =
    let made = located c.args.k c.args.m c.args.w c.geometry.result c.in-Some.g c.in-Some.is c.geometry.ensures in
    not_this 2 1 refl (λ never. never made.1)

pub returns-then-layers-stride-clause-other : goal.returns-then-layers-stride-clause-other
returns-then-layers-stride-clause-other c = λ _ _ differs. absurd (differs refl)

pub returns-then-layers-stride-clause-chunk : goal.returns-then-layers-stride-clause-chunk
returns-then-layers-stride-clause-chunk c =
    let made = located c.args.k c.args.m c.args.w c.geometry.result c.in-Some.g c.in-Some.is c.geometry.ensures in
    let size : c.n.result ≡ c.args.k + c.args.m = c.n.ensures.value ∙ ap chunk_count made.0 in
    not_this 2 3 refl (λ h. h.1 (omega (arith, c.if-lost-n.false, size)))
