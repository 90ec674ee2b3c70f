use Rattle.std.proofs.Common.{◌≡◌, ℕ, ◌+◌, ◌*◌, ◌<◌, length, get_or, set, subst, sym, ap, ◌∙◌, arith}
use Rattle.clay_grid.specs.Shape.{chunk_count, layer_count}
use Rattle.lost_read.specs.Plan.{HasPlaces}
use Rattle.lost_read.proofs.ReadLaws.{none, key, key_below, places_more}
use Rattle.lost_read.proofs.read_places.write_places.Goals as goal

pub bounds-places-piece : goal.bounds-places-piece
bounds-places-piece c =
    let g = c.args.g in
    let pieces = c.args.pieces.now in
    let at : ℕ = c.loop-at.at in
    let within : at < length pieces = omega (arith, c.loop-at-test.true, c.loop-at.auto.at-end) in
    let place : (get_or pieces at none).chunk * c.alpha.result + (get_or pieces at none).layer ≡ key g pieces at =
    ap (λ n. (get_or pieces at none).chunk * n + (get_or pieces at none).layer) c.alpha.ensures.value in
    let below : key g pieces at < chunk_count g * layer_count g = key_below g pieces at c.requires.subchunks within in
    let long : length c.loop-at.places ≡ chunk_count g * layer_count g = c.loop-at.auto.places ∙ c.requires.places_len in
    subst (λ k. k < length c.loop-at.places) (sym place) (subst (λ n. key g pieces at < n) (sym long) below)

pub loop-at-preserved : goal.loop-at-preserved
loop-at-preserved c =
    let g = c.args.g in
    let pieces = c.args.pieces.now in
    let at : ℕ = c.loop-at.at in
    let within : at < length pieces = omega (arith, c.loop-at-test.true, c.loop-at.auto.at-end) in
    let place : (get_or pieces at none).chunk * c.alpha.result + (get_or pieces at none).layer ≡ key g pieces at =
    ap (λ n. (get_or pieces at none).chunk * n + (get_or pieces at none).layer) c.alpha.ensures.value in
    subst (λ k. HasPlaces g pieces (at + 1) (set c.loop-at.places k at)) (sym place)
    (places_more g pieces at c.loop-at.places c.requires.subchunks within (c.loop-at.auto.places ∙ c.requires.places_len) c.loop-at.invariant)
