use Rattle.std.proofs.Common.{◌≡◌, ◌<◌, Some, None, find, option_map, slice_get, length, refl, ap, sym, subst, ◌∙◌, arith}
use Rattle.std.proofs.lemmas.Option.{slice_get_read, slice_get_past}
use Rattle.store_core.specs.Directory.{Pass}
use Rattle.store_core.specs.Lookups.{same_actor}
use Rattle.dir_parts.specs.OpenPass.{Open, Desk}
use Rattle.dir_parts.proofs.Actors.{find-open}
use Rattle.dir_parts.proofs.passes.Passes.find.Goals as goal

pub returns-then-at-len : goal.returns-then-at-len
returns-then-at-len c =
    let calls = c.self.inside.open.items in
    let at = c.place_of-at.result in
    let x : Open = c.index.result.now in
    let within : at < length calls = omega (arith, c.if-at-len.true, c.len.ensures, c.self.inside.open.ok.0) in
    let there : slice_get calls at ≡ Some x = slice_get_read calls (length calls) at x refl within c.index.ensures in
    let found = subst (λ ps. find (λ (p : Open). same_actor c.args.actor p.pass.actor) ps ≡ slice_get ps at) c.deref.ensures.value c.place_of-at.ensures in
    sym (sym (ap (λ (k : Desk). find (λ (p : Pass). same_actor c.args.actor p.actor) k.listed) c.self.view_is)
    ∙ find-open (λ (p : Pass). same_actor c.args.actor p.actor) calls ∙ ap (option_map (λ (o : Open). o.pass)) (found ∙ there))

pub returns : goal.returns
returns c =
    let calls = c.self.inside.open.items in
    let at = c.place_of-at.result in
    let past : slice_get calls at ≡ None = slice_get_past calls at (omega (arith, c.if-at-len.false, c.len.ensures, c.self.inside.open.ok.0)) in
    let found = subst (λ ps. find (λ (p : Open). same_actor c.args.actor p.pass.actor) ps ≡ slice_get ps at) c.deref.ensures.value c.place_of-at.ensures in
    sym (sym (ap (λ (k : Desk). find (λ (p : Pass). same_actor c.args.actor p.actor) k.listed) c.self.view_is)
    ∙ find-open (λ (p : Pass). same_actor c.args.actor p.actor) calls ∙ ap (option_map (λ (o : Open). o.pass)) (found ∙ past))
