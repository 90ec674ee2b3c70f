use Rattle.std.proofs.Common.{ℕ, ◌≤◌, length, sym, subst, ap, ◌∙◌, arith}
use Rattle.std.proofs.lemmas.Result.{IfOk-weaker}
use Rattle.clay_grid.specs.Shape.{node_count}
use Rattle.clay_grid.specs.Score.{IsByScore}
use Rattle.clay_model.specs.Erased.{erased_below}
use Rattle.clay_aloof.specs.Shape.{grid_of}
use Rattle.clay_aloof.specs.Solved.{IsIn}
use Rattle.clay_aloof.specs.Recovered.{IsWholePlan}
use Rattle.clay_aloof.specs.Ordered.{AreOrdered, IsPlanOf}
use Rattle.clay_aloof.proofs.aloof_chunks.whole_plan.Goals as goal

at_most_eight : (n m : ℕ) → n ≤ m → m ≤ 8 → n ≤ 8
at_most_eight n m few eight = omega arith

pub plan_of-requires : goal.plan_of-requires
plan_of-requires c =
    let g = c.args.g in
    let erased = c.args.erased.items in
    let layers = c.in_ok-layers.layers.items in
    let aloof = c.grid-grid.ensures.geometry in
    let order : IsByScore (grid_of g) erased layers =
    subst (λ s. IsByScore s erased layers) c.grid-grid.ensures.value (subst (λ e. IsByScore c.grid-grid.result e layers) c.deref.ensures.value c.in_ok-layers.ensures) in
    subst (λ s. AreOrdered s erased layers) (sym c.grid-grid.ensures.value)
    (record {
      geometry = aloof.grid;
      nodes = c.requires.nodes;
      few = at_most_eight (length (erased_below erased (node_count (grid_of g)))) g.parity_count c.requires.few aloof.limits.parity_chunks.1;
      rising = order.rising;
      only_layers = order.only_layers;
      partners = λ i n other p there pair below listed. order.each_layer p below;
    })

pub returns : goal.returns
returns c =
    let g = c.args.g in
    let erased = c.args.erased.items in
    let layers = c.in_ok-layers.layers.items in
    let order : IsByScore (grid_of g) erased layers =
    subst (λ s. IsByScore s erased layers) c.grid-grid.ensures.value (subst (λ e. IsByScore c.grid-grid.result e layers) c.deref.ensures.value c.in_ok-layers.ensures) in
    IfOk-weaker c.plan_of.result (IsPlanOf c.grid-grid.result erased layers) (IsWholePlan g erased)
    (λ plan of.
    let is : IsPlanOf (grid_of g) erased layers plan = subst (λ s. IsPlanOf s erased layers plan) c.grid-grid.ensures.value of in
    record {
      aloof = c.grid-grid.ensures.geometry;
      sound = is.sound;
      few = subst (λ l. length l ≤ g.parity_count) (sym (is.sound.points_are ∙ ap (λ l. erased_below l (node_count (grid_of g))) is.erased_are)) c.requires.few;
      erased_are = is.erased_are;
      all = λ n below. subst (λ l. IsIn l n) (sym is.layers_are) (order.each_layer n below);
    })
    c.plan_of.ensures
