use Rattle.std.proofs.Common.{◌≡◌, refl, ap, arith, ◌+◌, ◌∙◌}
use Rattle.clay_grid.specs.Shape.{Shape, chunk_count}
use Rattle.clay_c.specs.Lost.{AreLayers}
use Rattle.clay_c.proofs.Tested.{located, not_this, unfit}
use Rattle.clay_c.proofs.lost_calls.clay_lost_pieces.Goals as goal

pub returns-then-lost-n-clause-geometry : goal.returns-then-lost-n-clause-geometry
returns-then-lost-n-clause-geometry c =
    let made = located c.args.k c.args.m c.args.w c.geometry.result c.in-Some.g c.in-Some.is c.geometry.ensures in
    not_this 3 1 refl (λ never. never made.1)

pub returns-then-lost-n-clause-other : goal.returns-then-lost-n-clause-other
returns-then-lost-n-clause-other c = λ _ differs. absurd (differs refl)

pub returns-then-lost-n-clause-chunk : goal.returns-then-lost-n-clause-chunk
returns-then-lost-n-clause-chunk c =
    let made = located c.args.k c.args.m c.args.w c.geometry.result c.in-Some.g c.in-Some.is c.geometry.ensures in
    let size : c.n.result ≡ c.args.k + c.args.m = c.n.ensures.value ∙ ap chunk_count made.0 in
    (λ _. (made.1, λ h. omega (arith, h, c.if-lost-n.true, size)), λ _. refl)

pub returns-then-lost-n-clause-layer : goal.returns-then-lost-n-clause-layer
returns-then-lost-n-clause-layer c =
    let made = located c.args.k c.args.m c.args.w c.geometry.result c.in-Some.g c.in-Some.is c.geometry.ensures in
    let size : c.n.result ≡ c.args.k + c.args.m = c.n.ensures.value ∙ ap chunk_count made.0 in
    not_this 3 7 refl (λ h. omega (arith, h.1, c.if-lost-n.true, size))

pub returns-then-lost-n-clause-length : goal.returns-then-lost-n-clause-length
returns-then-lost-n-clause-length c =
    let made = located c.args.k c.args.m c.args.w c.geometry.result c.in-Some.g c.in-Some.is c.geometry.ensures in
    let size : c.n.result ≡ c.args.k + c.args.m = c.n.ensures.value ∙ ap chunk_count made.0 in
    not_this 3 2 refl (λ h. omega (arith, h.1, c.if-lost-n.true, size))

pub returns-then-not-are_layers-clause-geometry : goal.returns-then-not-are_layers-clause-geometry
returns-then-not-are_layers-clause-geometry c =
    let made = located c.args.k c.args.m c.args.w c.geometry.result c.in-Some.g c.in-Some.is c.geometry.ensures in
    not_this 7 1 refl (λ never. never made.1)

pub returns-then-not-are_layers-clause-other : goal.returns-then-not-are_layers-clause-other
returns-then-not-are_layers-clause-other c = λ _ _ differs. absurd (differs refl)

pub returns-then-not-are_layers-clause-chunk : goal.returns-then-not-are_layers-clause-chunk
returns-then-not-are_layers-clause-chunk c =
    let made = located c.args.k c.args.m c.args.w c.geometry.result c.in-Some.g c.in-Some.is c.geometry.ensures in
    let size : c.n.result ≡ c.args.k + c.args.m = c.n.ensures.value ∙ ap chunk_count made.0 in
    not_this 7 3 refl (λ h. h.1 (omega (arith, c.if-lost-n.false, size)))

pub returns-then-not-are_layers-clause-layer : goal.returns-then-not-are_layers-clause-layer
returns-then-not-are_layers-clause-layer c =
    let made = located c.args.k c.args.m c.args.w c.geometry.result c.in-Some.g c.in-Some.is c.geometry.ensures in
    let size : c.n.result ≡ c.args.k + c.args.m = c.n.ensures.value ∙ ap chunk_count made.0 in
    (λ _. (made.1, omega (arith, c.if-lost-n.false, size), λ h. unfit (λ (g : Shape). AreLayers g c.args.from c.args.to) made.0 c.are_layers.ensures c.if-not-are_layers.true h), λ _. refl)

pub returns-then-not-are_layers-clause-length : goal.returns-then-not-are_layers-clause-length
returns-then-not-are_layers-clause-length c =
    let made = located c.args.k c.args.m c.args.w c.geometry.result c.in-Some.g c.in-Some.is c.geometry.ensures in
    not_this 7 2 refl (λ h. unfit (λ (g : Shape). AreLayers g c.args.from c.args.to) made.0 c.are_layers.ensures c.if-not-are_layers.true h.2)
