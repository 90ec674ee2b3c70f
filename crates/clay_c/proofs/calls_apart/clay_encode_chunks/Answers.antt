use Rattle.std.proofs.Common.{ℕ, List, Bor, MutBor, map, refl}
use Rattle.clay_grid.specs.Shape.{Shape}
use Rattle.clay_c.specs.Apart.{DataSlicesFit}
use Rattle.clay_c.proofs.Tested.{located, not_this, fits, unfit}
use Rattle.clay_c.proofs.calls_apart.clay_encode_chunks.Goals as goal

pub returns-then-not-data_fits-clause-geometry : goal.returns-then-not-data_fits-clause-geometry
returns-then-not-data_fits-clause-geometry c =
    let made = located c.args.k c.args.m c.args.w c.geometry.result c.in-Some.g c.in-Some.is c.geometry.ensures in
    not_this 2 1 refl (λ never. never made.1)

pub returns-then-not-data_fits-clause-other : goal.returns-then-not-data_fits-clause-other
returns-then-not-data_fits-clause-other c = λ _ differs. absurd (differs refl)

pub returns-then-not-data_fits-clause-length : goal.returns-then-not-data_fits-clause-length
returns-then-not-data_fits-clause-length c =
    let made = located c.args.k c.args.m c.args.w c.geometry.result c.in-Some.g c.in-Some.is c.geometry.ensures in
    (λ _. (made.1, λ h. unfit (λ (g : Shape). DataSlicesFit g (map (λ (chunk : Bor (List ℕ)). chunk.now) c.args.chunks.now) (map (λ (room : MutBor (List ℕ)). room.now) c.args.parity.now)) made.0 c.data_fits.ensures c.if-not-data_fits.true h), λ _. refl)

pub returns-in-Ok-clause-geometry : goal.returns-in-Ok-clause-geometry
returns-in-Ok-clause-geometry c =
    let made = located c.args.k c.args.m c.args.w c.geometry.result c.in-Some.g c.in-Some.is c.geometry.ensures in
    not_this 0 1 refl (λ never. never made.1)

pub returns-in-Ok-clause-other : goal.returns-in-Ok-clause-other
returns-in-Ok-clause-other c = λ _ _ differs. absurd (differs refl)

pub returns-in-Ok-clause-length : goal.returns-in-Ok-clause-length
returns-in-Ok-clause-length c =
    let made = located c.args.k c.args.m c.args.w c.geometry.result c.in-Some.g c.in-Some.is c.geometry.ensures in
    not_this 0 2 refl (λ h. h.1 (fits (λ (g : Shape). DataSlicesFit g (map (λ (chunk : Bor (List ℕ)). chunk.now) c.args.chunks.now) (map (λ (room : MutBor (List ℕ)). room.now) c.args.parity.now)) made.0 c.data_fits.ensures c.if-not-data_fits.false))

pub returns-in-Err-clause-geometry : goal.returns-in-Err-clause-geometry
returns-in-Err-clause-geometry c =
    let made = located c.args.k c.args.m c.args.w c.geometry.result c.in-Some.g c.in-Some.is c.geometry.ensures in
    not_this 5 1 refl (λ never. never made.1)

pub returns-in-Err-clause-other : goal.returns-in-Err-clause-other
returns-in-Err-clause-other c = λ _ _ _. refl

pub returns-in-Err-clause-length : goal.returns-in-Err-clause-length
returns-in-Err-clause-length c =
    let made = located c.args.k c.args.m c.args.w c.geometry.result c.in-Some.g c.in-Some.is c.geometry.ensures in
    not_this 5 2 refl (λ h. h.1 (fits (λ (g : Shape). DataSlicesFit g (map (λ (chunk : Bor (List ℕ)). chunk.now) c.args.chunks.now) (map (λ (room : MutBor (List ℕ)). room.now) c.args.parity.now)) made.0 c.data_fits.ensures c.if-not-data_fits.false))
