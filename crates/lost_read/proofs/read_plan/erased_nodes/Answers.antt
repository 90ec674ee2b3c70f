use Rattle.std.proofs.Common.{◌≡◌, ℕ, ◌+◌, Bool, false, [], ◌∷◌, ◌++◌, length, get_or, sym, ap, ◌∙◌, inl, inr, arith}
use Rattle.std.proofs.lemmas.Bool.{cases_eq}
use Rattle.std.proofs.lemmas.List.{length_push, get_or_push, get_or_append_left}
use Rattle.lost_layers.specs.LostLayers.{is_unknown}
use Rattle.lost_read.proofs.read_plan.erased_nodes.Goals as goal

pub loop-node-preserved : goal.loop-node-preserved
loop-node-preserved c =
    let placed = c.args.placed.now in
    let items = c.loop-node.erased.items in
    let node : ℕ = c.loop-node.node in
    let own : Bool = c.is_unknown.result in
    let now : c.push.new.self.items ≡ items ++ own ∷ [] = c.in_ok-push.ensures.items in
    let count : length items ≡ node = c.loop-node.invariant.0 in (
      ap length now ∙ length_push items own ∙ ap (λ k. k + 1) count,
      λ i h. elim (cases_eq i node) [
        | inl same ↦
            ap (λ l. get_or l i false) now
            ∙ get_or_push items own false i (count ∙ sym same)
            ∙ c.is_unknown.ensures
            ∙ ap (is_unknown placed.g placed.run c.args.layer) (sym same)
        | inr other ↦
            ap (λ l. get_or l i false) now
            ∙ get_or_append_left items (own ∷ []) false i (omega (arith, h, other, count))
            ∙ c.loop-node.invariant.1 i (omega (arith, h, other))
      ],
    )
