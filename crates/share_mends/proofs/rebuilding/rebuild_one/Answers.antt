use Rattle.std.proofs.Common.{◌≡◌, ℕ, List, ◌++◌, length, refl, subst, inl, inr, ◌∙◌, ap}
use Rattle.file_bytes.specs.Places.{placed_from}
use Rattle.file_bytes.specs.Laid.{PutsFewer}
use Rattle.share_format.specs.Shares.{block_start}
use Rattle.share_format.proofs.Lengths.{length_block}
use Rattle.share_mends.proofs.rebuilding.rebuild_one.Goals as goal

pub write_block-requires-clause-size : goal.write_block-requires-clause-size
write_block-requires-clause-size g c =
    let shown : c.deref.result.now ≡ c.in-Ok.block.items = search in
    let made = c.in-Ok.ensures.block in
    ap (λ (l : List ℕ). length l) (shown ∙ made.value) ∙ length_block c.args.geometry made.chunk made.rebuilt.long

pub returns-in-Ok-write_block-clause-put : goal.returns-in-Ok-write_block-clause-put
returns-in-Ok-write_block-clause-put g c =
    let shown : c.deref.result.now ≡ c.in-Ok.block.items = search in
    let made = c.in-Ok.ensures.block in record {
      chunk = made.chunk;
      is = made.rebuilt;
      size = made.rebuilt.long;
      puts = c.in-Ok-write_block.ensures.put ∙ ap (λ l. g.K.SinkAt.put c.args.sink.now ++ placed_from (block_start c.args.geometry c.args.stripe) l) (shown ∙ made.value);
    }

pub returns-clause-part : goal.returns-clause-part
returns-clause-part g c =
    let shown : c.deref.result.now ≡ c.in-Ok.block.items = search in
    let made = c.in-Ok.ensures.block in
    let P : List ℕ → Type 0 = λ l. PutsFewer (g.K.SinkAt.put c.args.sink.now) (block_start c.args.geometry c.args.stripe) l (g.K.SinkAt.put c.write_block.new.sink) in
    inl (record {
      chunk = made.chunk;
      is = made.rebuilt;
      size = made.rebuilt.long;
      less = subst P (shown ∙ made.value) c.in-Err-write_block.ensures.part;
    })

pub returns-in-Err-clause-part : goal.returns-in-Err-clause-part
returns-in-Err-clause-part g c = inr refl

pub returns-in-Err-clause-unput : goal.returns-in-Err-clause-unput
returns-in-Err-clause-unput g c = λ few e. refl
