use Rattle.std.proofs.Common.{◌≡◌, ◌<◌, MatchOption, not, sym, subst, ap, ◌∙◌}
use Rattle.clay_grid.specs.Shape.{chunk_count, node_of_chunk, IsVirtual}
use Rattle.lost_layers.proofs.Gone.{gone_node, gone_virtual}
use Rattle.lost_layers.proofs.marked.is_gone.Goals as goal

pub returns : goal.returns
returns c =
    ap not c.is_there.ensures ∙ sym (gone_node c.args.g c.args.run c.args.present.now c.in-Some.chunk c.args.node c.in-Some.ensures.1)

pub returns-in_default : goal.returns-in_default
returns-in_default c =
    let g = c.args.g in
    let virtual : IsVirtual g c.args.node =
    subst (λ o. MatchOption o (IsVirtual g c.args.node) (λ chunk. (chunk < chunk_count g) × (node_of_chunk g chunk ≡ c.args.node))) c.in_default.is c.chunk_of_node.ensures in
    sym (gone_virtual g c.args.run c.args.present.now c.args.node virtual)
