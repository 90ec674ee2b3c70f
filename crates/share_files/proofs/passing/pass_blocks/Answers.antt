use Rattle.std.proofs.Common.{◌≡◌, ◌<◌, ◌+◌, ℕ, length, refl, arith, ◌∙◌, ap}
use Rattle.std.specs.Prelude.{min}
use Rattle.clay_grid.specs.Shape.{chunk_length}
use Rattle.clay_aloof.specs.Shape.{all_chunks, grid_of}
use Rattle.share_format.proofs.Joining.{at_index}
use Rattle.share_files.proofs.PassLemmas.{takes_behind, chunk_behind, chunk_part, left_after, sums_behind}
use Rattle.share_files.proofs.passing.pass_blocks.Goals as goal

pub loop-share-preserved : goal.loop-share-preserved
loop-share-preserved g c =
    let a = c.args.geometry in
    let blocks = c.args.blocks.now in
    let inv = c.loop-share.invariant in
    let share : ℕ = c.loop-share.share in
    let left : ℕ = c.loop-share.left in
    let piece : ℕ = c.min-piece.result in
    let sum : all_chunks a ≡ a.data_count + a.parity_count = refl in
    let less : share < a.data_count = omega (arith, c.loop-share-test.true, c.k-share-end.ensures.value) in
    let within : share < length blocks = omega (arith, less, c.requires.all, sum) in
    let piece_is : piece ≡ min left (chunk_length (grid_of a)) = c.min-piece.ensures ∙ ap (λ n. min left n) c.chunk_len-len.ensures.value in
    let behind =
    chunk_behind a blocks c.requires.lengths c.requires.all c.args.count c.requires.within left piece share c.index-blocks-share.result inv.left inv.most piece_is less
    (at_index blocks share c.index-blocks-share.result within c.index-blocks-share.is) in
    record {
      left = left_after a blocks c.requires.lengths c.requires.all c.args.count c.requires.within left piece share inv.left piece_is;
      most = omega (arith, inv.most);
      accepted = takes_behind _ _ _ _ _ _ _ _ _ behind inv.accepted c.in-Ok.ensures.accepted;
      summed = sums_behind _ _ _ _ _ _ behind inv.summed c.in-Ok.ensures.summed;
      writes = c.in-Ok.ensures.steady ∙ inv.writes;
    }

pub returns-in-Err-clause-part : goal.returns-in-Err-clause-part
returns-in-Err-clause-part g c =
    let a = c.args.geometry in
    let blocks = c.args.blocks.now in
    let inv = c.loop-share.invariant in
    let share : ℕ = c.loop-share.share in
    let left : ℕ = c.loop-share.left in
    let piece : ℕ = c.min-piece.result in
    let sum : all_chunks a ≡ a.data_count + a.parity_count = refl in
    let less : share < a.data_count = omega (arith, c.loop-share-test.true, c.k-share-end.ensures.value) in
    let within : share < length blocks = omega (arith, less, c.requires.all, sum) in
    let piece_is : piece ≡ min left (chunk_length (grid_of a)) = c.min-piece.ensures ∙ ap (λ n. min left n) c.chunk_len-len.ensures.value in
    chunk_part a blocks c.requires.lengths c.requires.all c.args.count c.requires.within left piece share c.index-blocks-share.result inv.left inv.most piece_is less
    (at_index blocks share c.index-blocks-share.result within c.index-blocks-share.is) _ _ _ _ _ _ inv.accepted c.in-Err.ensures.part
