use Rattle.std.proofs.Common.{◌≡◌, ℕ, ◌+◌, ◌-◌, min, List, ◌++◌, length, take, drop, replicate, ap, ◌∙◌}
use Rattle.clay_grid.specs.Shape.{stripe_length}
use Rattle.client_patch.specs.Kept.{kept_count, kept_from}
use Rattle.client_patch.proofs.Olds.{kept_few, piece_padded}
use Rattle.client_patch.proofs.bytes.old_bytes.Goals as goal

pub returns-clause-bytes : goal.returns-clause-bytes
returns-clause-bytes c =
    let kept : List ℕ = c.args.kept.now in
    let m : ℕ = kept_from c.args.geometry c.args.span.size c.args.span.start c.args.span.end c.args.stripe in
    let n : ℕ = kept_count c.args.geometry c.args.span.size c.args.span.start c.args.span.end c.args.stripe in
    let from : c.min-from.result ≡ min m (length kept) = c.min-from.ensures ∙ ap (λ k. min k (length kept)) c.kept_from.ensures in
    let count : c.min-count.result ≡ min n (length kept - min m (length kept)) = c.min-count.ensures ∙ (λ i. min (c.kept_count.ensures i) (length kept - from i)) in
    let piece : c.extend_from_slice.new.self.items ≡ take (min m (length kept) + min n (length kept - min m (length kept)) - min m (length kept)) (drop (min m (length kept)) kept)
    = c.in_ok-extend_from_slice.ensures.items ∙ (λ i. c.in_ok-bytes.ensures.items i ++ take (from i + count i - from i) (drop (from i) kept)) in
    c.in_ok-resize.ensures.items
    ∙ (λ i. take (c.stripe_len-long.ensures.value i) c.extend_from_slice.new.self.items ++ replicate {A = ℕ} (c.stripe_len-long.ensures.value i - c.extend_from_slice.new.self.ok.0 i) 0)
    ∙ piece_padded (stripe_length c.args.geometry) n m kept c.extend_from_slice.new.self.items
    (kept_few c.args.geometry c.args.span.size c.args.span.start c.args.span.end c.args.stripe) piece
