use Rattle.std.proofs.Common.{ℕ, ◌≤◌, length, false, get_or, sym, subst, ap, ◌∙◌, arith}
use Rattle.std.proofs.lemmas.Result.{IfOk-weaker}
use Rattle.clay_grid.specs.Shape.{node_count}
use Rattle.clay_model.specs.Erased.{erased_below}
use Rattle.lane_repair.specs.Views.{pieces_of}
use Rattle.clay_aloof.specs.Shape.{grid_of}
use Rattle.clay_aloof.specs.Solved.{IsIn}
use Rattle.clay_aloof.specs.Rebuilt.{IsRepairPlan}
use Rattle.clay_aloof.specs.Ordered.{AreOrdered, IsPlanOf, AreKept}
use Rattle.clay_aloof.proofs.Parts.{partner_given, is_known}
use Rattle.clay_aloof.proofs.Unknown.{few_unknown}
use Rattle.clay_aloof.proofs.lost_chunk.repair_plan.Goals as goal

at_most_eight : (n m : ℕ) → n ≤ m → m ≤ 8 → n ≤ 8
at_most_eight n m h l = omega arith

pub plan_of-requires : goal.plan_of-requires
plan_of-requires c =
    let g = c.args.g in
    let lost : ℕ = c.args.lost in
    let erased = c.in_ok-erased.erased.items in
    let layers = c.in_ok-layers.layers.items in
    let aloof = c.grid.ensures.geometry in
    let kept = subst (λ e. AreKept g lost e layers) c.deref.ensures.value c.in_ok-layers.ensures in
    let few = few_unknown g lost (pieces_of c.args.parts) erased aloof c.requires.chunk c.requires.fit c.in_ok-erased.ensures.value in
    subst (λ s. AreOrdered s erased layers) (sym c.grid.ensures.value)
    (record {
      geometry = aloof.grid;
      nodes = c.in_ok-erased.ensures.len;
      few = at_most_eight (length (erased_below erased (node_count (grid_of g)))) g.parity_count few aloof.limits.parity_chunks.1;
      rising = kept.rising;
      only_layers = kept.only_layers;
      partners = λ i n other p there pair below listed.
          let outside = is_known g lost (pieces_of c.args.parts) i (sym (c.in_ok-erased.ensures.value i pair.node) ∙ there) in
          kept.each_layer p below (partner_given g lost i n other p outside.apart pair (kept.given n listed));
    })

pub returns : goal.returns
returns c =
    let g = c.args.g in
    let lost : ℕ = c.args.lost in
    let have = pieces_of c.args.parts in
    let erased = c.in_ok-erased.erased.items in
    let layers = c.in_ok-layers.layers.items in
    let aloof = c.grid.ensures.geometry in
    let kept = subst (λ e. AreKept g lost e layers) c.deref.ensures.value c.in_ok-layers.ensures in
    let few = few_unknown g lost have erased aloof c.requires.chunk c.requires.fit c.in_ok-erased.ensures.value in
    IfOk-weaker c.plan_of.result (IsPlanOf c.grid.result erased layers) (IsRepairPlan g lost have)
    (λ plan of.
    let is : IsPlanOf (grid_of g) erased layers plan = subst (λ s. IsPlanOf s erased layers plan) c.grid.ensures.value of in
    record {
      aloof = aloof;
      sound = is.sound;
      few = subst (λ l. length l ≤ g.parity_count) (sym (is.sound.points_are ∙ ap (λ l. erased_below l (node_count (grid_of g))) is.erased_are)) few;
      erased_are = λ i h. ap (λ l. get_or l i false) is.erased_are ∙ c.in_ok-erased.ensures.value i h;
      each_layer = λ n below given. subst (λ l. IsIn l n) (sym is.layers_are) (kept.each_layer n below given);
      given = λ n listed. kept.given n (subst (λ l. IsIn l n) is.layers_are listed);
    })
    c.plan_of.ensures
