use Rattle.std.proofs.Common.{◌≡◌, ◌+◌, [], ◌∷◌, ◌++◌, subst, sym, ap, ◌∙◌}
use Rattle.clay_model.specs.Chunks.{contents}
use Rattle.code_laws.specs.Columns.{AddsParity}
use Rattle.code_laws.proofs.Lists.{contents_push, no_parity, one_more_parity}
use Rattle.clay_encode.proofs.plain_chunks.add_parity_chunks.Goals as goal

pub loop-x-init : goal.loop-x-init
loop-x-init c = no_parity c.args.g c.args.column.now (contents c.args.chunks.now.items)

pub loop-x-preserved : goal.loop-x-preserved
loop-x-preserved c =
    let before = contents c.loop-x.chunks.items in
    let new = c.in_ok-parity_chunk.field-0 in
    let now : contents c.push.new.self.items ≡ before ++ new.items ∷ [] =
    ap contents c.in_ok-push.ensures.items ∙ contents_push c.loop-x.chunks.items new in
    subst (AddsParity c.args.g c.args.column.now (c.loop-x.x + 1) (contents c.args.chunks.now.items)) (sym now)
    (one_more_parity c.args.g c.args.column.now c.loop-x.x (contents c.args.chunks.now.items) before new.items c.loop-x.invariant c.in_ok-parity_chunk.ensures.len c.in_ok-parity_chunk.ensures.value)
