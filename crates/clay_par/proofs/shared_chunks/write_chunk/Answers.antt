use Rattle.std.proofs.Common.{◌≡◌, ℕ, ◌+◌, ◌-◌, ◌*◌, ◌<◌, List, length, get_or, sym, subst, ap, ◌∙◌, inl, inr, arith}
use Rattle.std.proofs.lemmas.Bool.{cases_eq}
use Rattle.std.proofs.lemmas.List.{get_or_default}
use Rattle.clay_model.specs.Left.{Completes}
use Rattle.lane_repair.specs.Pieces.{HoldsByte}
use Rattle.clay_par.specs.declared.ranges.Range.{Range}
use Rattle.clay_par.proofs.shared_chunks.write_chunk.Goals as goal

pub loop-range-preserved : goal.loop-range-preserved
loop-range-preserved c = λ k z b d hk hz hb.
    let shape = c.args.g in
    let ranges = c.args.ranges.now in
    let at : ℕ = c.loop-range.range-index in
    let range : Range = c.range-item.result in
    let new : List ℕ = c.write_range.new.chunk in
    let Holds : Range → Type 0 = λ r. b < length r.values.items → HoldsByte (λ word. Completes shape c.args.have.now word) c.args.c new (z * shape.width + (r.at + b)) in
    elim (cases_eq k at) [
      | inl same ↦
          let there : at < length ranges = omega (arith, c.loop-range-test.true) in
          let is : get_or ranges at d ≡ range = get_or_default ranges at d range there ∙ sym c.range-item.is in
          subst (λ n. Holds (get_or ranges n d)) (sym same) (subst Holds (sym is) (λ h. c.write_range.ensures.written z b hz h)) hb
      | inr other ↦
          c.write_range.ensures.kept (z * shape.width + ((get_or ranges k d).at + b)) (c.loop-range.invariant k z b d (omega (arith, hk, other)) hz hb)
    ]

pub returns : goal.returns
returns c = λ z b hz hb.
    let shape = c.args.g in
    let fits : List (List ℕ) → Type 0 = λ word. Completes shape c.args.have.now word in
    let ranges = c.args.ranges.now in
    let h = c.requires.ranges.all b hb in
    let here : get_or ranges h.index h.range ≡ h.range = h.is h.range in
    let low = h.low in
    let high = h.high in
    let back : h.range.at + (b - h.range.at) ≡ b = omega (arith, low) in
    let at_is : (get_or ranges h.index h.range).at + (b - h.range.at) ≡ b = ap (λ (r : Range). r.at + (b - h.range.at)) here ∙ back in
    let within : b - h.range.at < length h.range.values.items = omega (arith, low, high) in
    subst (λ p. HoldsByte fits c.args.c c.loop-range.chunk (z * shape.width + p)) at_is
    (c.loop-range.invariant h.index z (b - h.range.at) h.range
    (omega (arith, h.there, c.loop-range-test.false))
    hz (subst (λ (r : Range). b - h.range.at < length r.values.items) (sym here) within))
