use Rattle.std.proofs.Common.{ℕ, ◌<◌, length, get_or, subst, sym, arith}
use Rattle.clay_aloof.proofs.KnownBytes.{no_places, places_more}
use Rattle.clay_aloof.proofs.layer_solving.write_places.Goals as goal

pub loop-i-init : goal.loop-i-init
loop-i-init c = no_places c.args.layers.now c.args.places.now c.requires.zeros

pub loop-i-preserved : goal.loop-i-preserved
loop-i-preserved c =
    let layers = c.args.layers.now in
    let i : ℕ = c.loop-i.i in
    let within : i < length layers = omega (arith, c.loop-i-test.true, c.loop-i.auto.i-end) in
    let inside : get_or layers i 0 < length c.loop-i.places = subst (λ n. get_or layers i 0 < n) (sym c.loop-i.auto.places) (c.requires.in_layers i within) in
    places_more layers c.loop-i.places i within inside (λ j h. c.requires.apart j i h within) c.loop-i.invariant
