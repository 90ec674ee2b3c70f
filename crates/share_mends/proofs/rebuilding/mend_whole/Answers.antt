use Rattle.std.proofs.Common.{◌^◌, ◌<◌, ℕ, [], get_or, map, Err, ap, sym, subst, inl}
use Rattle.clay_aloof.specs.Shape.{AloofShape, all_chunks}
use Rattle.share_format.specs.Shares.{block_start}
use Rattle.share_files.specs.Seen.{seen}
use Rattle.share_files.specs.Put.{PutsBlocks, PutsSome}
use Rattle.share_files.proofs.EndLemmas.{end_fits}
use Rattle.share_files.proofs.PutLemmas.{puts_blocks, puts_head, puts_whole, puts_share}
use Rattle.share_mends.specs.Rebuilt.{IsRebuilt, IsLack}
use Rattle.share_mends.specs.declared.rebuilding.RebuildFault.TheVariants.{TooFew}
use Rattle.share_files.proofs.Faults.{handed_on}
use Rattle.share_mends.proofs.RebuildLemmas.{chunk_is, moved}
use Rattle.share_mends.proofs.rebuilding.mend_whole.Goals as goal

pub rebuild_stripes-requires-clause-lost : goal.rebuild_stripes-requires-clause-lost
rebuild_stripes-requires-clause-lost g c =
    let P : AloofShape → Type 0 = λ a. c.share-lost.result < all_chunks a in
    let Q : ℕ → Type 0 = λ n. n < all_chunks c.args.header.now.shape in
    subst P (sym c.geometry-geometry.ensures) (subst Q (sym c.share-lost.ensures) c.stripe_count-stripes.ensures.header.numbered)

pub rebuild_stripes-requires-clause-place : goal.rebuild_stripes-requires-clause-place
rebuild_stripes-requires-clause-place g c =
    let header = c.args.header.now in
    let is = c.stripe_count-stripes.ensures.header in
    let P : AloofShape → Type 0 = λ a. block_start a c.stripe_count-stripes.result < 2 ^ 64 in
    let Q : ℕ → Type 0 = λ n. block_start header.shape n < 2 ^ 64 in
    subst P (sym c.geometry-geometry.ensures) (subst Q (sym c.stripe_count-stripes.ensures.count) (end_fits header.shape header.size is.code is.bounded))

pub returns-in-Err-clause-part : goal.returns-in-Err-clause-part
returns-in-Err-clause-part g c =
    inl (moved (λ a l n. PutsSome a (IsRebuilt a l (map (λ s. seen (g.S.SourceAt.given s) (g.S.SourceAt.ends s) (g.S.SourceAt.failed s)) c.args.sources.now) (map (λ s. seen (g.S.SourceAt.given s) (g.S.SourceAt.ends s) (g.S.SourceAt.failed s)) c.rebuild_stripes.new.sources)) n (g.K.SinkAt.put c.args.sink.now) (g.K.SinkAt.put c.rebuild_stripes.new.sink))
    _ _ _ _ _ _ c.geometry-geometry.ensures c.share-lost.ensures c.stripe_count-stripes.ensures.count c.in-Err.ensures.part)

pub returns-in-Err-clause-lack : goal.returns-in-Err-clause-lack
returns-in-Err-clause-lack g c =
    moved (λ a l n. IsLack a n (map (λ s. seen (g.S.SourceAt.given s) (g.S.SourceAt.ends s) (g.S.SourceAt.failed s)) c.args.sources.now) (map (λ s. seen (g.S.SourceAt.given s) (g.S.SourceAt.ends s) (g.S.SourceAt.failed s)) c.rebuild_stripes.new.sources) c.in-Err.fault) _ _ _ _ _ _ c.geometry-geometry.ensures c.share-lost.ensures c.stripe_count-stripes.ensures.count c.in-Err.ensures.lack

pub returns-in-Err-WriteFault-clause-part : goal.returns-in-Err-WriteFault-clause-part
returns-in-Err-WriteFault-clause-part g c =
    puts_head c.args.header.now (IsRebuilt c.args.header.now.shape c.args.header.now.share (map (λ s. seen (g.S.SourceAt.given s) (g.S.SourceAt.ends s) (g.S.SourceAt.failed s)) c.args.sources.now) (map (λ s. seen (g.S.SourceAt.given s) (g.S.SourceAt.ends s) (g.S.SourceAt.failed s)) c.rebuild_stripes.new.sources)) _ _ _
    (moved (λ a l n. PutsBlocks a (IsRebuilt a l (map (λ s. seen (g.S.SourceAt.given s) (g.S.SourceAt.ends s) (g.S.SourceAt.failed s)) c.args.sources.now) (map (λ s. seen (g.S.SourceAt.given s) (g.S.SourceAt.ends s) (g.S.SourceAt.failed s)) c.rebuild_stripes.new.sources)) n (g.K.SinkAt.put c.args.sink.now) (g.K.SinkAt.put c.rebuild_stripes.new.sink))
    _ _ _ _ _ _ c.geometry-geometry.ensures c.share-lost.ensures c.stripe_count-stripes.ensures.count c.in-Ok.ensures.put)
    (c.in-Err-WriteFault.ensures.part (ap Err c.in-Err-WriteFault.field-0-is))

pub returns-in-Err-OutOfMemory-clause-part : goal.returns-in-Err-OutOfMemory-clause-part
returns-in-Err-OutOfMemory-clause-part g c =
    puts_blocks c.args.header.now (IsRebuilt c.args.header.now.shape c.args.header.now.share (map (λ s. seen (g.S.SourceAt.given s) (g.S.SourceAt.ends s) (g.S.SourceAt.failed s)) c.args.sources.now) (map (λ s. seen (g.S.SourceAt.given s) (g.S.SourceAt.ends s) (g.S.SourceAt.failed s)) c.rebuild_stripes.new.sources)) _ _ _
    (moved (λ a l n. PutsBlocks a (IsRebuilt a l (map (λ s. seen (g.S.SourceAt.given s) (g.S.SourceAt.ends s) (g.S.SourceAt.failed s)) c.args.sources.now) (map (λ s. seen (g.S.SourceAt.given s) (g.S.SourceAt.ends s) (g.S.SourceAt.failed s)) c.rebuild_stripes.new.sources)) n (g.K.SinkAt.put c.args.sink.now) (g.K.SinkAt.put c.rebuild_stripes.new.sink))
    _ _ _ _ _ _ c.geometry-geometry.ensures c.share-lost.ensures c.stripe_count-stripes.ensures.count c.in-Ok.ensures.put)
    (c.in-Err-OutOfMemory.ensures.unwritten (ap Err c.in-Err-OutOfMemory.field-0-is))

pub returns-in-Ok-write_header-clause-share : goal.returns-in-Ok-write_header-clause-share
returns-in-Ok-write_header-clause-share g c = λ file files shows pass.
    puts_share c.args.header.now (IsRebuilt c.args.header.now.shape c.args.header.now.share (map (λ s. seen (g.S.SourceAt.given s) (g.S.SourceAt.ends s) (g.S.SourceAt.failed s)) c.args.sources.now) (map (λ s. seen (g.S.SourceAt.given s) (g.S.SourceAt.ends s) (g.S.SourceAt.failed s)) c.rebuild_stripes.new.sources)) _ _ _
    (moved (λ a l n. PutsBlocks a (IsRebuilt a l (map (λ s. seen (g.S.SourceAt.given s) (g.S.SourceAt.ends s) (g.S.SourceAt.failed s)) c.args.sources.now) (map (λ s. seen (g.S.SourceAt.given s) (g.S.SourceAt.ends s) (g.S.SourceAt.failed s)) c.rebuild_stripes.new.sources)) n (g.K.SinkAt.put c.args.sink.now) (g.K.SinkAt.put c.rebuild_stripes.new.sink))
    _ _ _ _ _ _ c.geometry-geometry.ensures c.share-lost.ensures c.stripe_count-stripes.ensures.count c.in-Ok.ensures.put)
    c.stripe_count-stripes.ensures.header.numbered c.in-Ok-write_header.ensures.put file pass.words pass.size pass.checksum pass.coded
    (λ i chunk less is.
    chunk_is c.args.header.now.shape c.args.header.now.share _ _ i chunk is files (get_or pass.words i []) shows (pass.coded.codes i less).codeword (pass.blocks i less))

pub returns-in-Ok-write_header-clause-made : goal.returns-in-Ok-write_header-clause-made
returns-in-Ok-write_header-clause-made g c =
    puts_whole c.args.header.now (IsRebuilt c.args.header.now.shape c.args.header.now.share (map (λ s. seen (g.S.SourceAt.given s) (g.S.SourceAt.ends s) (g.S.SourceAt.failed s)) c.args.sources.now) (map (λ s. seen (g.S.SourceAt.given s) (g.S.SourceAt.ends s) (g.S.SourceAt.failed s)) c.rebuild_stripes.new.sources)) _ _ _
    (moved (λ a l n. PutsBlocks a (IsRebuilt a l (map (λ s. seen (g.S.SourceAt.given s) (g.S.SourceAt.ends s) (g.S.SourceAt.failed s)) c.args.sources.now) (map (λ s. seen (g.S.SourceAt.given s) (g.S.SourceAt.ends s) (g.S.SourceAt.failed s)) c.rebuild_stripes.new.sources)) n (g.K.SinkAt.put c.args.sink.now) (g.K.SinkAt.put c.rebuild_stripes.new.sink))
    _ _ _ _ _ _ c.geometry-geometry.ensures c.share-lost.ensures c.stripe_count-stripes.ensures.count c.in-Ok.ensures.put)
    c.in-Ok-write_header.ensures.put

pub returns-in-Err-clause-before : goal.returns-in-Err-clause-before
returns-in-Err-clause-before g c = λ few e.
    moved (λ a l n. PutsBlocks a (IsRebuilt a l (map (λ s. seen (g.S.SourceAt.given s) (g.S.SourceAt.ends s) (g.S.SourceAt.failed s)) c.args.sources.now) (map (λ s. seen (g.S.SourceAt.given s) (g.S.SourceAt.ends s) (g.S.SourceAt.failed s)) c.rebuild_stripes.new.sources)) few (g.K.SinkAt.put c.args.sink.now) (g.K.SinkAt.put c.rebuild_stripes.new.sink))
    _ _ _ _ _ _ c.geometry-geometry.ensures c.share-lost.ensures c.stripe_count-stripes.ensures.count
    (c.in-Err.ensures.before few (handed_on c.in-Err.fault (TooFew few) e))
