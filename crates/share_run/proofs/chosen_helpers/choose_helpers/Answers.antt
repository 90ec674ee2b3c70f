use Rattle.std.proofs.Common.{◌-◌, ◌<◌, Bool, List, length, sym, subst, ◌∙◌, ap, arith}
use Rattle.std.proofs.lemmas.Bool.{true≢false}
use Rattle.share_mends.specs.Asked.{AreHelpers}
use Rattle.share_run.proofs.HelperLemmas.{no_choice}
use Rattle.share_run.proofs.chosen_helpers.choose_helpers.Goals as goal

pub returns : goal.returns
returns c =
    let within : c.args.lost < length c.args.good.now = omega (arith, c.requires.lost, c.requires.good) in
    let P : List Bool → Type 0 = λ l. AreHelpers c.args.geometry c.args.lost l in
    no_choice c.args.geometry c.args.lost c.args.good.now _ _ _ _ c.in_ok-marks.ensures.1 c.deref.result.now c.mark_count.result within c.requires.good
    (c.deref-2.ensures.value ∙ c.in_ok-others.ensures) (c.deref.ensures.value ∙ c.in_ok-others.ensures) c.mark_count.ensures
    (c.saturating_sub-spare.ensures ∙ ap (λ n. c.mark_count.result - n) c.d.ensures.value)
    (λ are. true≢false (sym (c.are_helpers.ensures.1 (subst P (sym c.deref-3.ensures.value) are)) ∙ c.if-are_helpers.false))
