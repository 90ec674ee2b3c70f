use Rattle.std.proofs.Common.{◌≡◌, length, Err, ap, ◌∙◌}
use Rattle.std.proofs.lemmas.List.{length-map}
use Rattle.share_format.specs.Blocks.{block_of}
use Rattle.share_files.proofs.DataLemmas.{ok_is_no_fault}
use Rattle.share_mends.proofs.RebuildLemmas.{is_rebuilt, lacks_read}
use Rattle.share_mends.proofs.rebuilding.rebuilt_block.Goals as goal

pub returns-in-Err-TooFew-clause-lack : goal.returns-in-Err-TooFew-clause-lack
returns-in-Err-TooFew-clause-lack g c =
    lacks_read c.args.geometry c.args.stripe _ _ _ (length c.find_blocks.new.sources) c.in_ok-blocks.ensures.count
    (c.find_blocks.auto.sources ∙ c.requires.sources) (length-map c.find_blocks.new.sources _) c.in_ok-blocks.ensures.read c.deref.result.now c.deref.ensures.value
    (c.in-Err-TooFew.ensures.too_few.0 (ap Err c.in-Err-TooFew.field-0-is))

pub returns-clause-block : goal.returns-clause-block
returns-clause-block g c =
    let chunk : c.deref-2.result.now ≡ c.in-Ok.chunk.items = search in record {
      chunk = c.in-Ok.chunk.items;
      rebuilt =
          is_rebuilt c.args.geometry c.args.stripe _ _ _ (length c.find_blocks.new.sources) c.in_ok-blocks.ensures.count
          (c.find_blocks.auto.sources ∙ c.requires.sources) (length-map c.find_blocks.new.sources _) c.in_ok-blocks.ensures.read c.args.lost c.deref.result.now
          c.in-Ok.chunk.items c.deref.ensures.value c.in-Ok.ensures.len (λ few. ok_is_no_fault _ _ (c.in-Ok.ensures.too_few.1 few)) c.in-Ok.ensures.recovered;
      value = c.in_ok-block.ensures ∙ ap (λ l. block_of c.args.geometry l) chunk;
    }
