use Rattle.std.proofs.Common.{◌≤◌, length, sym, subst, ap, ◌∙◌, arith}
use Rattle.clay_aloof.specs.Shape.{all_chunks}
use Rattle.clay_aloof.specs.Recovered.{AreFew, IsRecovered}
use Rattle.share_format.proofs.Joining.{few_marked, gathered_long, chunks_recovered}
use Rattle.share_format.proofs.join_block.recover_all.Goals as goal

pub recover_into-requires-clause-missing : goal.recover_into-requires-clause-missing
recover_into-requires-clause-missing c =
    subst (AreFew c.args.g) (sym c.deref.ensures.value)
    (few_marked c.args.g c.args.blocks.now c.in_ok-lost.lost.items c.requires.count c.in_ok-lost.ensures.len c.in_ok-lost.ensures.value c.requires.few)

pub recover_into-requires-clause-chunks : goal.recover_into-requires-clause-chunks
recover_into-requires-clause-chunks c =
    let g = c.args.g in
    let within : all_chunks g ≤ length c.args.blocks.now = subst (λ n. all_chunks g ≤ n) (sym c.requires.count) (omega arith) in
    ap length c.requires.chunks ∙ gathered_long g c.args.blocks.now c.requires.lengths (all_chunks g) within

pub returns : goal.returns
returns c =
    let g = c.args.g in
    let marks = c.in_ok-lost.lost.items in
    let new = c.recover_into.new.chunks in
    let is : IsRecovered g marks c.args.chunks.now new = subst (λ l. IsRecovered g l c.args.chunks.now new) c.deref.ensures.value c.in_ok-recover_into.ensures.recovered in
    chunks_recovered g c.args.blocks.now c.requires.lengths c.requires.count marks c.args.chunks.now new c.in_ok-lost.ensures.value c.requires.chunks is
