use Rattle.std.proofs.Common.{◌≡◌, ℕ, ◌+◌, ◌*◌, ◌<◌, List, ◌++◌, length, get_or, sym, subst, ap, ◌∙◌, inl, inr, arith}
use Rattle.std.proofs.lemmas.Bool.{cases_eq}
use Rattle.std.proofs.lemmas.List.{length-append}
use Rattle.clay_aloof.specs.Solved.{AddsLayer, HoldsLayer, HoldsLower}
use Rattle.clay_aloof.proofs.Layer.{lower_solved, every_layer, layer_added, layer_kept}
use Rattle.clay_aloof.specs.Known.{node_bytes}
use Rattle.clay_aloof.proofs.layer_solving.add_layers.Goals as goal

pub add_layer-requires-clause-lower : goal.add_layer-requires-clause-lower
add_layer-requires-clause-lower c =
    let plan = c.args.plan.now in
    let at : ℕ = c.loop-z.z-index in
    let within : at < length plan.layers.items = omega (arith, c.loop-z-test.true, ap length c.deref-z-items.ensures.value) in
    subst (λ l. HoldsLower c.args.g plan (node_bytes c.args.g c.args.known.now) (get_or l at 0) c.loop-z.solved.items) (sym c.deref-z-items.ensures.value)
    (lower_solved c.args.g plan (node_bytes c.args.g c.args.known.now) c.loop-z.solved.items c.requires.plan at within c.loop-z.invariant.each)

pub add_layer-requires-clause-listed : goal.add_layer-requires-clause-listed
add_layer-requires-clause-listed c =
    let at : ℕ = c.loop-z.z-index in
    let within : at < length c.args.plan.now.layers.items = omega (arith, c.loop-z-test.true, ap length c.deref-z-items.ensures.value) in
    (at, within, ap (λ l. get_or l at 0) (sym c.deref-z-items.ensures.value))

pub loop-z-preserved : goal.loop-z-preserved
loop-z-preserved c =
    let g = c.args.g in
    let plan = c.args.plan.now in
    let known = (node_bytes c.args.g c.args.known.now) in
    let part : ℕ = length plan.points.items * g.width in
    let i : ℕ = c.loop-z.z-index in
    let within : i < length plan.layers.items = omega (arith, c.loop-z-test.true, ap length c.deref-z-items.ensures.value) in
    let n : ℕ = get_or plan.layers.items i 0 in
    let solved : List ℕ = c.loop-z.solved.items in
    let added : AddsLayer g plan known n solved c.add_layer.new.solved.items =
    subst (λ l. AddsLayer g plan known (get_or l i 0) solved c.add_layer.new.solved.items) c.deref-z-items.ensures.value c.in_ok-add_layer.ensures in
    let rows : List ℕ = added.rows in
    let all : length (solved ++ rows) ≡ i * part + part = length-append solved rows ∙ (λ k. c.loop-z.invariant.long k + added.long k) in
    let next : i * part + part ≡ (i + 1) * part = omega arith in
    record {
      long = ap length added.after_is ∙ all ∙ next;
      each = λ k hk. subst (HoldsLayer g plan known (get_or plan.layers.items k 0)) (sym added.after_is)
          (elim (cases_eq k i) [
            | inl same ↦ subst (λ v. HoldsLayer g plan known (get_or plan.layers.items v 0) (solved ++ rows)) (sym same)
                (layer_added g plan known n i solved rows (c.requires.plan.slots.at i within) c.loop-z.invariant.long added.long added.holds)
            | inr other ↦ layer_kept g plan known (get_or plan.layers.items k 0) solved rows (c.loop-z.invariant.each k (omega (arith, hk, other)))
          ]);
    }

pub returns : goal.returns
returns c =
    let plan = c.args.plan.now in
    record {
      each = every_layer c.args.g plan (node_bytes c.args.g c.args.known.now) c.loop-z.solved.items
          (λ k h. c.loop-z.invariant.each k (omega (arith, h, c.loop-z-test.false, ap length c.deref-z-items.ensures.value)));
    }
