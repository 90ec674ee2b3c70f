use Rattle.std.proofs.Common.{◌≡◌, refl, ap, arith, ◌+◌, ◌∙◌}
use Rattle.clay_grid.specs.Shape.{Shape, chunk_count}
use Rattle.clay_c.specs.Lost.{run_of, AreLayers, LostBytesFit}
use Rattle.clay_c.proofs.Tested.{located, not_this, fits, unfit}
use Rattle.clay_c.proofs.lost_calls.clay_read_lost.Goals as goal

pub returns-then-lost-n-clause-geometry : goal.returns-then-lost-n-clause-geometry
returns-then-lost-n-clause-geometry c =
    let made = located c.args.k c.args.m c.args.w c.geometry.result c.in-Some.g c.in-Some.is c.geometry.ensures in
    not_this 3 1 refl (λ never. never made.1)

pub returns-then-lost-n-clause-other : goal.returns-then-lost-n-clause-other
returns-then-lost-n-clause-other c = λ _ differs. absurd (differs refl)

pub returns-then-lost-n-clause-chunk : goal.returns-then-lost-n-clause-chunk
returns-then-lost-n-clause-chunk c =
    let made = located c.args.k c.args.m c.args.w c.geometry.result c.in-Some.g c.in-Some.is c.geometry.ensures in
    let size : c.n.result ≡ c.args.k + c.args.m = c.n.ensures.value ∙ ap chunk_count made.0 in
    (λ _. (made.1, λ h. omega (arith, h, c.if-lost-n.true, size)), λ _. refl)

pub returns-then-lost-n-clause-layer : goal.returns-then-lost-n-clause-layer
returns-then-lost-n-clause-layer c =
    let made = located c.args.k c.args.m c.args.w c.geometry.result c.in-Some.g c.in-Some.is c.geometry.ensures in
    let size : c.n.result ≡ c.args.k + c.args.m = c.n.ensures.value ∙ ap chunk_count made.0 in
    not_this 3 7 refl (λ h. omega (arith, h.1, c.if-lost-n.true, size))

pub returns-then-lost-n-clause-length : goal.returns-then-lost-n-clause-length
returns-then-lost-n-clause-length c =
    let made = located c.args.k c.args.m c.args.w c.geometry.result c.in-Some.g c.in-Some.is c.geometry.ensures in
    let size : c.n.result ≡ c.args.k + c.args.m = c.n.ensures.value ∙ ap chunk_count made.0 in
    not_this 3 2 refl (λ h. omega (arith, h.1, c.if-lost-n.true, size))

pub returns-then-not-are_layers-clause-geometry : goal.returns-then-not-are_layers-clause-geometry
returns-then-not-are_layers-clause-geometry c =
    let made = located c.args.k c.args.m c.args.w c.geometry.result c.in-Some.g c.in-Some.is c.geometry.ensures in
    not_this 7 1 refl (λ never. never made.1)

pub returns-then-not-are_layers-clause-other : goal.returns-then-not-are_layers-clause-other
returns-then-not-are_layers-clause-other c = λ _ _ differs. absurd (differs refl)

pub returns-then-not-are_layers-clause-chunk : goal.returns-then-not-are_layers-clause-chunk
returns-then-not-are_layers-clause-chunk c =
    let made = located c.args.k c.args.m c.args.w c.geometry.result c.in-Some.g c.in-Some.is c.geometry.ensures in
    let size : c.n.result ≡ c.args.k + c.args.m = c.n.ensures.value ∙ ap chunk_count made.0 in
    not_this 7 3 refl (λ h. h.1 (omega (arith, c.if-lost-n.false, size)))

pub returns-then-not-are_layers-clause-layer : goal.returns-then-not-are_layers-clause-layer
returns-then-not-are_layers-clause-layer c =
    let made = located c.args.k c.args.m c.args.w c.geometry.result c.in-Some.g c.in-Some.is c.geometry.ensures in
    let size : c.n.result ≡ c.args.k + c.args.m = c.n.ensures.value ∙ ap chunk_count made.0 in
    (λ _. (made.1, omega (arith, c.if-lost-n.false, size), λ h. unfit (λ (g : Shape). AreLayers g c.args.from c.args.to) made.0 c.are_layers.ensures c.if-not-are_layers.true h), λ _. refl)

pub returns-then-not-are_layers-clause-length : goal.returns-then-not-are_layers-clause-length
returns-then-not-are_layers-clause-length c =
    let made = located c.args.k c.args.m c.args.w c.geometry.result c.in-Some.g c.in-Some.is c.geometry.ensures in
    not_this 7 2 refl (λ h. unfit (λ (g : Shape). AreLayers g c.args.from c.args.to) made.0 c.are_layers.ensures c.if-not-are_layers.true h.2)

pub returns-then-not-bytes_fit-clause-geometry : goal.returns-then-not-bytes_fit-clause-geometry
returns-then-not-bytes_fit-clause-geometry c =
    let made = located c.args.k c.args.m c.args.w c.geometry.result c.in-Some.g c.in-Some.is c.geometry.ensures in
    not_this 2 1 refl (λ never. never made.1)

pub returns-then-not-bytes_fit-clause-other : goal.returns-then-not-bytes_fit-clause-other
returns-then-not-bytes_fit-clause-other c = λ _ _ _ differs. absurd (differs refl)

pub returns-then-not-bytes_fit-clause-chunk : goal.returns-then-not-bytes_fit-clause-chunk
returns-then-not-bytes_fit-clause-chunk c =
    let made = located c.args.k c.args.m c.args.w c.geometry.result c.in-Some.g c.in-Some.is c.geometry.ensures in
    let size : c.n.result ≡ c.args.k + c.args.m = c.n.ensures.value ∙ ap chunk_count made.0 in
    not_this 2 3 refl (λ h. h.1 (omega (arith, c.if-lost-n.false, size)))

pub returns-then-not-bytes_fit-clause-layer : goal.returns-then-not-bytes_fit-clause-layer
returns-then-not-bytes_fit-clause-layer c =
    let made = located c.args.k c.args.m c.args.w c.geometry.result c.in-Some.g c.in-Some.is c.geometry.ensures in
    not_this 2 7 refl (λ h. h.2 (fits (λ (g : Shape). AreLayers g c.args.from c.args.to) made.0 c.are_layers.ensures c.if-not-are_layers.false))

pub returns-then-not-bytes_fit-clause-length : goal.returns-then-not-bytes_fit-clause-length
returns-then-not-bytes_fit-clause-length c =
    let made = located c.args.k c.args.m c.args.w c.geometry.result c.in-Some.g c.in-Some.is c.geometry.ensures in
    let size : c.n.result ≡ c.args.k + c.args.m = c.n.ensures.value ∙ ap chunk_count made.0 in
    (λ _. (made.1, omega (arith, c.if-lost-n.false, size), fits (λ (g : Shape). AreLayers g c.args.from c.args.to) made.0 c.are_layers.ensures c.if-not-are_layers.false, λ h. unfit (λ (g : Shape). LostBytesFit g (run_of c.args.lost c.args.from c.args.to) c.args.pieces.now c.args.subchunks.now) made.0 c.bytes_fit.ensures c.if-not-bytes_fit.true h), λ _. refl)

pub returns-in-Ok-clause-geometry : goal.returns-in-Ok-clause-geometry
returns-in-Ok-clause-geometry c =
    let made = located c.args.k c.args.m c.args.w c.geometry.result c.in-Some.g c.in-Some.is c.geometry.ensures in
    not_this 0 1 refl (λ never. never made.1)

pub returns-in-Ok-clause-other : goal.returns-in-Ok-clause-other
returns-in-Ok-clause-other c = λ _ _ _ _ differs. absurd (differs refl)

pub returns-in-Ok-clause-chunk : goal.returns-in-Ok-clause-chunk
returns-in-Ok-clause-chunk c =
    let made = located c.args.k c.args.m c.args.w c.geometry.result c.in-Some.g c.in-Some.is c.geometry.ensures in
    let size : c.n.result ≡ c.args.k + c.args.m = c.n.ensures.value ∙ ap chunk_count made.0 in
    not_this 0 3 refl (λ h. h.1 (omega (arith, c.if-lost-n.false, size)))

pub returns-in-Ok-clause-layer : goal.returns-in-Ok-clause-layer
returns-in-Ok-clause-layer c =
    let made = located c.args.k c.args.m c.args.w c.geometry.result c.in-Some.g c.in-Some.is c.geometry.ensures in
    not_this 0 7 refl (λ h. h.2 (fits (λ (g : Shape). AreLayers g c.args.from c.args.to) made.0 c.are_layers.ensures c.if-not-are_layers.false))

pub returns-in-Ok-clause-length : goal.returns-in-Ok-clause-length
returns-in-Ok-clause-length c =
    let made = located c.args.k c.args.m c.args.w c.geometry.result c.in-Some.g c.in-Some.is c.geometry.ensures in
    not_this 0 2 refl (λ h. h.3 (fits (λ (g : Shape). LostBytesFit g (run_of c.args.lost c.args.from c.args.to) c.args.pieces.now c.args.subchunks.now) made.0 c.bytes_fit.ensures c.if-not-bytes_fit.false))

pub returns-in-Err-clause-geometry : goal.returns-in-Err-clause-geometry
returns-in-Err-clause-geometry c =
    let made = located c.args.k c.args.m c.args.w c.geometry.result c.in-Some.g c.in-Some.is c.geometry.ensures in
    not_this 5 1 refl (λ never. never made.1)

pub returns-in-Err-clause-other : goal.returns-in-Err-clause-other
returns-in-Err-clause-other c = λ _ _ _ _ _. refl

pub returns-in-Err-clause-chunk : goal.returns-in-Err-clause-chunk
returns-in-Err-clause-chunk c =
    let made = located c.args.k c.args.m c.args.w c.geometry.result c.in-Some.g c.in-Some.is c.geometry.ensures in
    let size : c.n.result ≡ c.args.k + c.args.m = c.n.ensures.value ∙ ap chunk_count made.0 in
    not_this 5 3 refl (λ h. h.1 (omega (arith, c.if-lost-n.false, size)))

pub returns-in-Err-clause-layer : goal.returns-in-Err-clause-layer
returns-in-Err-clause-layer c =
    let made = located c.args.k c.args.m c.args.w c.geometry.result c.in-Some.g c.in-Some.is c.geometry.ensures in
    not_this 5 7 refl (λ h. h.2 (fits (λ (g : Shape). AreLayers g c.args.from c.args.to) made.0 c.are_layers.ensures c.if-not-are_layers.false))

pub returns-in-Err-clause-length : goal.returns-in-Err-clause-length
returns-in-Err-clause-length c =
    let made = located c.args.k c.args.m c.args.w c.geometry.result c.in-Some.g c.in-Some.is c.geometry.ensures in
    not_this 5 2 refl (λ h. h.3 (fits (λ (g : Shape). LostBytesFit g (run_of c.args.lost c.args.from c.args.to) c.args.pieces.now c.args.subchunks.now) made.0 c.bytes_fit.ensures c.if-not-bytes_fit.false))
