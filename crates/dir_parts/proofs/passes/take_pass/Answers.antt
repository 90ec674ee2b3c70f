use Rattle.std.proofs.Common.{◌≡◌, ◌<◌, ◌∷◌, length, Some, slice_get, find, refl, sym, ap, ◌∙◌, arith, subst}
use Rattle.std.proofs.lemmas.Option.{slice_get_read}
use Rattle.std.proofs.lemmas.List.Sorted.{IsPermutation-remove}
use Rattle.std.specs.List.Sorted.{IsPermutation}
use Rattle.dir_parts.specs.OpenPass.{Open}
use Rattle.store_core.specs.Lookups.{same_actor}
use Rattle.dir_parts.proofs.Actors.{taken_out}
use Rattle.dir_parts.proofs.passes.take_pass.Goals as goal

pub returns-clause-left : goal.returns-clause-left
returns-clause-left c =
    let passes = c.args.calls.now.items in
    let at = c.own_place-at.result in
    let found = c.own_place-at.ensures.found in
    let there : slice_get passes at ≡ Some c.remove.result = slice_get_read passes (length passes) at c.remove.result refl (omega (arith, c.own_place-at.ensures.within, ap length c.deref.ensures.value)) c.remove.ensures.value in
    c.remove.ensures.items ∙ taken_out c.args.actor passes at c.remove.result (subst (λ ps. find (λ (p : Open). same_actor c.args.actor p.pass.actor) ps ≡ slice_get ps at) c.deref.ensures.value found) there c.requires.apart

pub returns-clause-others : goal.returns-clause-others
returns-clause-others c =
    let passes = c.args.calls.now.items in
    let at = c.own_place-at.result in
    let within : at < length passes = omega (arith, c.own_place-at.ensures.within, ap length c.deref.ensures.value) in
    subst (λ ps. IsPermutation passes (c.remove.result ∷ ps)) (sym c.remove.ensures.items) (IsPermutation-remove passes at c.remove.result within c.remove.ensures.value)
