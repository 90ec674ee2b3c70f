use Rattle.std.proofs.Common.{◌+◌, ◌≤◌, subst}
use Rattle.clay_kernels.proofs.RowLemmas.{AddsRows-zeros}
use Rattle.clay_parity.proofs.NodeLemmas.{virtual_byte}
use Rattle.clay_parity.proofs.parity_layers.add_own.Goals as goal

pub returns-else-node-k : goal.returns-else-node-k
returns-else-node-k c =
    let g = c.args.g in
    let virtual : g.data_count ≤ c.args.node = subst (λ k. k ≤ c.args.node) c.k.ensures.value c.if-node-k.false in
    AddsRows-zeros g.parity_count c.args.len _ _ c.args.rows.now (λ b h. virtual_byte g c.args.stripe.now (c.args.at + b) c.args.node c.args.z virtual)
