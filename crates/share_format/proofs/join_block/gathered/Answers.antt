use Rattle.std.proofs.Common.{◌≡◌, ◌<◌, ℕ, ◌++◌, length, get_or, take, None, IfSome, sym, subst, ap, ◌∙◌, arith}
use Rattle.std.specs.List.{flat_map}
use Rattle.share_format.specs.Blocks.{block_length}
use Rattle.share_format.specs.Joined.{chunk_or_zeros}
use Rattle.share_format.proofs.Joining.{at_index, gathered_more, gathered_long}
use Rattle.share_format.proofs.join_block.gathered.Goals as goal

pub push_chunk-requires : goal.push_chunk-requires
push_chunk-requires c =
    let number : ℕ = c.loop-number.number in
    let within : number < length c.args.blocks.now = omega (arith, c.requires.count, c.loop-number-test.true) in
    subst (λ o. IfSome o (λ v. length v.items ≡ block_length c.args.g))
    (sym (at_index c.args.blocks.now number c.index-blocks-number.result within c.index-blocks-number.is)) (c.requires.lengths number None within)

pub loop-number-preserved : goal.loop-number-preserved
loop-number-preserved c =
    let g = c.args.g in
    let blocks = c.args.blocks.now in
    let number : ℕ = c.loop-number.number in
    let within : number < length blocks = omega (arith, c.requires.count, c.loop-number-test.true) in
    let block : c.index-blocks-number.result ≡ get_or blocks number None = at_index blocks number c.index-blocks-number.result within c.index-blocks-number.is in
    c.in_ok-push_chunk.ensures
    ∙ (λ i. c.loop-number.invariant i ++ chunk_or_zeros g (block i))
    ∙ gathered_more g blocks number within

pub returns-clause-len : goal.returns-clause-len
returns-clause-len c =
    let g = c.args.g in
    let blocks = c.args.blocks.now in
    let ended : c.loop-number.number ≡ c.args.count = omega (arith, c.loop-number-test.false, c.loop-number.auto.number-end) in
    ap length (c.loop-number.invariant ∙ ap (λ n. flat_map (chunk_or_zeros g) (take n blocks)) ended)
    ∙ gathered_long g blocks c.requires.lengths c.args.count c.requires.count
