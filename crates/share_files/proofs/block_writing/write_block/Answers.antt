use Rattle.std.proofs.Common.{◌<◌, ◌∙◌, ap, length, arith}
use Rattle.std.proofs.lemmas.Result.{on_ok_weaker}
use Rattle.file_bytes.specs.Laid.{laid, laid_at}
use Rattle.share_files.proofs.WrittenLemmas.{block_behind}
use Rattle.share_files.proofs.block_writing.write_block.Goals as goal

pub returns-clause-written : goal.returns-clause-written
returns-clause-written g c =
    let some : 0 < length c.args.block.now = omega (arith, c.requires.size, c.block_len-len.ensures.some, c.block_len-len.ensures.value) in
    on_ok_weaker c.write_all_at.result (λ put. record {
      behind = λ chunks chunk is long count has.
          block_behind c.args.geometry chunks chunk c.args.block.now is long c.args.stripe _ _ count
          (put some ∙ ap (λ n. laid_at n c.args.block.now (laid (g.K.SinkAt.put c.args.sink.now))) c.block_place-at.ensures) has;
    })
    c.write_all_at.ensures.laid
