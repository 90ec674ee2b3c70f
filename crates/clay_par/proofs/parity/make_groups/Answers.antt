use Rattle.std.proofs.Common.{◌≡◌, ℕ, ◌+◌, ◌/◌, ◌<◌, List, length, get_or, All, sym, subst, ap, ◌∙◌, arith}
use Rattle.std.proofs.lemmas.List.{length_push}
use Rattle.std.proofs.lemmas.List.Elements.{All-push}
use Rattle.clay_grid.specs.Shape.{row_count, layer_count}
use Rattle.clay_par.specs.Groups.{HasRoom}
use Rattle.clay_par.specs.declared.parity.Group.{Group}
use Rattle.clay_par.proofs.GroupLemmas.{in_layers, numbered_more}
use Rattle.clay_par.proofs.parity.make_groups.Goals as goal

pub make_group-requires : goal.make_group-requires
make_group-requires c =
    let g = c.args.g in
    let end_is : c.alpha.result / c.q.result ≡ layer_count g / row_count g = λ i. c.alpha.ensures.value i / c.q.ensures.value i in
    let some = c.q.ensures.geometry.limits.parity_chunks.0 in
    in_layers c.loop-number.number (row_count g) (layer_count g) (omega (arith, some)) (omega (arith, c.loop-number-test.true, end_is))

pub loop-number-init : goal.loop-number-init
loop-number-init c =
    let none = c.in_ok-groups.ensures.items in
    record {
      count = ap length none;
      numbers = λ i d h. absurd (omega (arith, h));
      room = subst (All (HasRoom c.args.g)) (sym none) (λ k d h. absurd (omega (arith, h)));
    }

pub loop-number-preserved : goal.loop-number-preserved
loop-number-preserved c =
    let g = c.args.g in
    let number : ℕ = c.loop-number.number in
    let new = c.in_ok-make_group.field-0 in
    let before = c.loop-number.groups.items in
    let longer = c.in_ok-push.ensures.items in
    let made = c.in_ok-make_group.ensures in
    record {
      count = ap length longer ∙ length_push before new ∙ ap (λ n. n + 1) c.loop-number.invariant.count;
      numbers = subst (λ (l : List Group). (i : ℕ) (d : Group) → i < number + 1 → (get_or l i d).number ≡ i) (sym longer)
          (numbered_more before new number c.loop-number.invariant.count made.number c.loop-number.invariant.numbers);
      room = subst (All (HasRoom g)) (sym longer) (All-push (HasRoom g) before new c.loop-number.invariant.room made.room);
    }

pub returns : goal.returns
returns c =
    let g = c.args.g in
    let end_is : c.alpha.result / c.q.result ≡ layer_count g / row_count g = λ i. c.alpha.ensures.value i / c.q.ensures.value i in
    let all : c.loop-number.number ≡ layer_count g / row_count g = omega (arith, c.loop-number-test.false, c.loop-number.auto.number-end, end_is) in
    record {
      geometry = c.q.ensures.geometry;
      count = c.loop-number.invariant.count ∙ all;
      numbers = λ i d h. c.loop-number.invariant.numbers i d (omega (arith, h, c.loop-number.invariant.count));
      room = c.loop-number.invariant.room;
    }
