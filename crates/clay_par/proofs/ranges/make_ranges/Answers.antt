use Rattle.std.proofs.Common.{ℕ, List, All, sym, subst, inl, inr, arith}
use Rattle.std.proofs.lemmas.Bool.{cases_lt}
use Rattle.std.proofs.lemmas.List.Elements.{All-push}
use Rattle.clay_par.specs.Ranges.{HasRoom, IsCovered}
use Rattle.clay_par.specs.declared.ranges.Range.{Range}
use Rattle.clay_par.proofs.Cover.{covered_more, covered_last}
use Rattle.clay_par.proofs.ranges.make_ranges.Goals as goal

pub loop-at-preserved : goal.loop-at-preserved
loop-at-preserved c =
    let shape = c.args.g in
    let new = c.in_ok-make_range.field-0 in
    let before = c.loop-at.ranges.items in
    let at : ℕ = c.loop-at.at in
    let len : ℕ = c.min-len.result in
    let width = c.w-w.ensures.value in
    let low = c.in_ok-make_range.ensures.at in
    let long = c.in_ok-make_range.ensures.len in
    record {
      within = omega (arith, c.loop-at-test.true, width, c.min-len.ensures);
      room = subst (All (HasRoom shape c.args.nodes c.args.layers)) (sym {A = List Range} c.in_ok-push.ensures.items)
          (All-push (HasRoom shape c.args.nodes c.args.layers) before new c.loop-at.invariant.room c.in_ok-make_range.ensures.room);
      all = λ b h. subst (λ l. IsCovered l b) (sym {A = List Range} c.in_ok-push.ensures.items) (elim (cases_lt b at) [
        | inl early ↦ covered_more before new b (c.loop-at.invariant.all b early)
        | inr late ↦ covered_last before new b (omega (arith, late, low)) (omega (arith, h, low, long))
      ]);
    }

pub returns : goal.returns
returns c = record {
  room = c.loop-at.invariant.room;
  all = λ b h. c.loop-at.invariant.all b (omega (arith, h, c.loop-at-test.false, c.w-w.ensures.value));
}
