use Rattle.std.proofs.Common.{◌≡◌, ℕ, ◌+◌, ◌-◌, ◌*◌, ◌^◌, ◌<◌, true, eqb, List, [], ◌∷◌, ◌++◌, length, get_or, Option, Some, None, is_none, IfSome, All, Vec, Global, refl, sym, subst, ap, ◌∙◌, inl, inr, arith}
use Rattle.std.proofs.lemmas.Bool.{cases_eq, eq-eqb, ne_eqb, true≢false}
use Rattle.std.proofs.lemmas.List.{length_push, get_or_push, get_or_append_left}
use Rattle.std.proofs.lemmas.List.Elements.{All-push}
use Rattle.clay_grid.specs.Shape.{chunk_count, row_count, column_count}
use Rattle.clay_model.specs.RepairParts.{part_length}
use Rattle.lane_tests.proofs.fast_rebuilding.parts_of.Goals as goal

pub loop-c-preserved : goal.loop-c-preserved
loop-c-preserved g c =
    let shape = c.args.g in
    let lost : ℕ = c.args.lost in
    let items = c.loop-c.parts.items in
    let o = c.unless_lost.result in
    let now : c.push.new.self.items ≡ items ++ o ∷ [] = c.in_ok-push.ensures.items in
    let IsLong : Option (Vec ℕ Global) → Type 0 = λ p. IfSome p (λ v. length v.items ≡ part_length shape) in
    let first : column_count shape - 1 - 0 ≡ column_count shape - 1 = omega arith in
    let size : c.stride.result * c.w.result ≡ part_length shape = λ i. (c.stride.ensures.value ∙ ap (λ e. row_count shape ^ e) first) i * c.w.ensures.value i in
    let count = c.loop-c.invariant.count in
    record {
      count = ap length now ∙ length_push items o ∙ ap (λ k. k + 1) count;
      lengths = subst (All IsLong) (sym now)
          (All-push IsLong items o c.loop-c.invariant.lengths (subst (λ k. IfSome o (λ v. length v.items ≡ k)) (c.in_ok-part.ensures ∙ size) c.unless_lost.ensures.len));
      none = λ i h. elim (cases_eq i c.loop-c.c) [
        | inl same ↦
            ap (λ l. is_none (get_or l i None)) now
            ∙ ap is_none (get_or_push items o None i (count ∙ sym same))
            ∙ c.unless_lost.ensures.none
            ∙ ap (λ k. eqb k lost) (sym same)
        | inr other ↦
            ap (λ l. is_none (get_or l i None)) now
            ∙ ap is_none (get_or_append_left items (o ∷ []) None i (omega (arith, h, other, count)))
            ∙ c.loop-c.invariant.none i (omega (arith, h, other))
      ];
    }

none_of : (o : Option (Vec ℕ Global)) → is_none o ≡ true → o ≡ None
none_of None h = refl
none_of (Some v) h = absurd (true≢false (sym h))

pub returns : goal.returns
returns g c =
    let shape = c.args.g in
    let lost : ℕ = c.args.lost in
    let all : c.loop-c.c ≡ chunk_count shape = omega (arith, c.loop-c-test.false, c.loop-c.auto.c-end, c.n-c-end.ensures.value) in
    let none : (i : ℕ) → i < chunk_count shape → is_none (get_or c.loop-c.parts.items i None) ≡ eqb i lost =
    λ i h. c.loop-c.invariant.none i (subst (λ n. i < n) (sym all) h) in
    record {
      chunk = c.requires;
      count = c.loop-c.invariant.count ∙ all;
      none = none_of (get_or c.loop-c.parts.items lost None) (none lost c.requires ∙ eq-eqb lost lost refl);
      others = λ i h other. none i h ∙ ne_eqb i lost other;
      lengths = c.loop-c.invariant.lengths;
    }
