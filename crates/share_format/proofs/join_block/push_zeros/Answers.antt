use Rattle.std.proofs.Common.{◌≡◌, ◌+◌, ◌-◌, ℕ, List, ◌++◌, length, take, replicate, ◌∙◌}
use Rattle.clay_grid.specs.Shape.{chunk_length}
use Rattle.clay_aloof.specs.Shape.{grid_of}
use Rattle.share_format.proofs.Joining.{zeros_pushed}
use Rattle.share_format.proofs.join_block.push_zeros.Goals as goal

pub returns : goal.returns
returns c =
    let old : List ℕ = c.args.chunks.now.items in
    let total : ℕ = c.len.result + c.chunk_len.result in
    let count : c.len.result ≡ length old = c.len.ensures ∙ c.args.chunks.now.ok.0 in
    let is : total ≡ length old + chunk_length (grid_of c.args.g) = λ i. count i + c.chunk_len.ensures.value i in
    c.in_ok-resize.ensures.items
    ∙ (λ i. take total old ++ replicate {A = ℕ} (total - c.args.chunks.now.ok.0 i) 0)
    ∙ zeros_pushed old (chunk_length (grid_of c.args.g)) total is
