use Rattle.std.proofs.Common.{◌≡◌, ◌<◌, length, vec_capacity, All, Option, Some, IfSome, slice_get, find, set, refl, sym, ap, ◌∙◌, arith, subst}
use Rattle.std.proofs.lemmas.Option.{slice_get_read}
use Rattle.dir_parts.specs.OpenPass.{Open, HasRoom, given}
use Rattle.store_core.specs.Lookups.{same_actor}
use Rattle.dir_parts.proofs.Actors.{is_own, no_other}
use Rattle.dir_parts.proofs.Growing.{set-map}
use Rattle.std.proofs.lemmas.List.Elements.{All-set}
use Rattle.dir_parts.proofs.passes.set_drawn.Goals as goal

pub returns-clause-after : goal.returns-clause-after
returns-clause-after c =
    let passes = c.args.calls.now.items in
    let at = c.own_place-at.result in
    let x : Open = c.index_mut-one.result.now in
    let within : at < length passes = omega (arith, c.own_place-at.ensures.within, ap length c.deref.ensures.value) in
    let there : slice_get passes at ≡ Some x = slice_get_read passes (length passes) at x refl within c.index_mut-one.ensures.value in
    let found = subst (λ ps. find (λ (p : Open). same_actor c.args.actor p.pass.actor) ps ≡ slice_get ps at) c.deref.ensures.value c.own_place-at.ensures.found in
    ap (λ (q : Open). set passes at (given c.args.drawn.items (vec_capacity c.args.spare) q)) c.one.view_is
    ∙ set-map (λ (q : Open). same_actor c.args.actor q.pass.actor) (λ (q : Open). given c.args.drawn.items (vec_capacity c.args.spare) q) passes at x there
    (is_own c.args.actor passes at x found there c.requires.apart) (no_other c.args.actor passes at x found there c.requires.apart)

pub returns-clause-entry : goal.returns-clause-entry
returns-clause-entry c =
    let passes = c.args.calls.now.items in
    let at = c.own_place-at.result in
    let x : Open = c.index_mut-one.result.now in
    let within : at < length passes = omega (arith, c.own_place-at.ensures.within, ap length c.deref.ensures.value) in
    let there : slice_get passes at ≡ Some x = slice_get_read passes (length passes) at x refl within c.index_mut-one.ensures.value in
    let found = subst (λ ps. find (λ (p : Open). same_actor c.args.actor p.pass.actor) ps ≡ slice_get ps at) c.deref.ensures.value c.own_place-at.ensures.found in
    subst (λ o. IfSome o (λ (q : Open). c.of.result.value ≡ given c.args.drawn.items (vec_capacity c.args.spare) q)) (sym (found ∙ there))
    (c.of.ensures ∙ ap (λ (q : Open). given c.args.drawn.items (vec_capacity c.args.spare) q) c.one.view_is)

pub returns-clause-rooms : goal.returns-clause-rooms
returns-clause-rooms c = λ stripe all room.
    let calls = c.args.calls.now.items in
    let at = c.own_place-at.result in
    let x : Open = c.index_mut-one.result.now in
    let within : at < length calls = omega (arith, c.own_place-at.ensures.within, ap length c.deref.ensures.value) in
    let there : slice_get calls at ≡ Some x = slice_get_read calls (length calls) at x refl within c.index_mut-one.ensures.value in
    let found = subst (λ ps. find (λ (p : Open). same_actor c.args.actor p.pass.actor) ps ≡ slice_get ps at) c.deref.ensures.value c.own_place-at.ensures.found in
    let here : HasRoom stripe (given c.args.drawn.items (vec_capacity c.args.spare) x) = subst (λ (o : Option Open). IfSome o (λ o. HasRoom stripe (given c.args.drawn.items (vec_capacity c.args.spare) o))) (found ∙ there) room in
    subst (λ (q : Open). All (HasRoom stripe) (set calls at (given c.args.drawn.items (vec_capacity c.args.spare) q))) (sym c.one.view_is)
    (All-set (HasRoom stripe) calls at (given c.args.drawn.items (vec_capacity c.args.spare) x) here all)
