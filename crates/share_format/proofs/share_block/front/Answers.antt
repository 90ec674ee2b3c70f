use Rattle.std.proofs.Common.{◌-◌, ℕ, List, ◌++◌, take, replicate, ◌∙◌}
use Rattle.share_format.proofs.Laid.{filled_up}
use Rattle.share_format.proofs.share_block.front.Goals as goal

pub returns : goal.returns
returns c =
    let table : List ℕ = c.in_ok-bytes.bytes.items in
    c.in_ok-resize.ensures.items
    ∙ (λ i. take (c.chunk_start.ensures i) table ++ replicate {A = ℕ} (c.chunk_start.ensures i - c.in_ok-bytes.bytes.ok.0 i) 0)
    ∙ filled_up c.args.g c.args.chunk.now table c.in_ok-bytes.ensures
