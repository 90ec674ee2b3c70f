use Rattle.std.proofs.Common.{◌≡◌, ℕ, ◌+◌, Bool, false, [], ◌∷◌, ◌++◌, length, get_or, sym, ap, ◌∙◌, inl, inr, arith}
use Rattle.std.proofs.lemmas.Bool.{cases_eq}
use Rattle.std.proofs.lemmas.List.{length_push, get_or_push, get_or_append_left}
use Rattle.lost_layers.specs.ErasedLayers.{is_solved}
use Rattle.lost_layers.specs.ErasedRuns.{erased_of}
use Rattle.lost_layers.proofs.pieces_of_missing.solved_layers.Goals as goal

pub loop-layer-preserved : goal.loop-layer-preserved
loop-layer-preserved c =
    let items = c.loop-layer.solved.items in
    let layer : ℕ = c.loop-layer.layer in
    let own : Bool = c.is_solved.result in
    let now : c.push.new.self.items ≡ items ++ own ∷ [] = c.in_ok-push.ensures.items in
    let count : length items ≡ layer = c.loop-layer.invariant.len in
    record {
      len = ap length now ∙ length_push items own ∙ ap (λ k. k + 1) count;
      each = λ i h. elim (cases_eq i layer) [
        | inl same ↦
            ap (λ l. get_or l i false) now
            ∙ get_or_push items own false i (count ∙ sym same)
            ∙ c.is_solved.ensures
            ∙ ap (is_solved (erased_of c.args.erased.now)) (sym same)
        | inr other ↦
            ap (λ l. get_or l i false) now
            ∙ get_or_append_left items (own ∷ []) false i (omega (arith, h, other, count))
            ∙ c.loop-layer.invariant.each i (omega (arith, h, other))
      ];
    }
