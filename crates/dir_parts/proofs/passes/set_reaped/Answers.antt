use Rattle.std.proofs.Common.{◌≡◌, ◌<◌, length, Some, slice_get, find, set, refl, ap, ◌∙◌, arith, subst}
use Rattle.std.proofs.lemmas.Option.{slice_get_read}
use Rattle.dir_parts.specs.OpenPass.{Open, reaped_at}
use Rattle.store_core.specs.Lookups.{same_actor}
use Rattle.dir_parts.proofs.Actors.{is_own, no_other}
use Rattle.dir_parts.proofs.Growing.{set-map}
use Rattle.dir_parts.proofs.passes.set_reaped.Goals as goal

pub returns : goal.returns
returns c =
    let passes = c.args.calls.now.items in
    let at = c.own_place-at.result in
    let x : Open = c.index_mut-one.result.now in
    let within : at < length passes = omega (arith, c.own_place-at.ensures.within, ap length c.deref.ensures.value) in
    let there : slice_get passes at ≡ Some x = slice_get_read passes (length passes) at x refl within c.index_mut-one.ensures.value in
    let found = subst (λ ps. find (λ (p : Open). same_actor c.args.actor p.pass.actor) ps ≡ slice_get ps at) c.deref.ensures.value c.own_place-at.ensures.found in
    ap (λ (q : Open). set passes at (reaped_at c.args.point q)) c.one.view_is
    ∙ set-map (λ (q : Open). same_actor c.args.actor q.pass.actor) (λ (q : Open). reaped_at c.args.point q) passes at x there
    (is_own c.args.actor passes at x found there c.requires.apart) (no_other c.args.actor passes at x found there c.requires.apart)
