use Rattle.std.proofs.Common.{◌≡◌, ◌^◌, ◌<◌, ℕ, [], get_or, map, Err, ap, sym, subst, ◌∙◌, inl}
use Rattle.clay_aloof.specs.Shape.{AloofShape, all_chunks}
use Rattle.share_format.specs.Shares.{block_start}
use Rattle.share_files.specs.Seen.{seen}
use Rattle.share_files.specs.Put.{PutsBlocks, PutsSome}
use Rattle.share_files.proofs.EndLemmas.{end_fits}
use Rattle.share_files.proofs.Faults.{handed_on, on_any_error}
use Rattle.share_files.proofs.PutLemmas.{puts_nothing, puts_blocks, puts_head, puts_whole, puts_share}
use Rattle.share_mends.specs.Asked.{AreAsked, OneReadFails}
use Rattle.share_mends.specs.Mended.{HaveGood, NamesFirst, IsMended}
use Rattle.share_mends.specs.declared.mend_fault.MendFault.TheVariants.{ReadFault}
use Rattle.share_mends.proofs.MendLemmas.{first_ranges, moved}
use Rattle.share_mends.proofs.mending.mend.Goals as goal

pub mend_stripes-requires-clause-place : goal.mend_stripes-requires-clause-place
mend_stripes-requires-clause-place g c =
    let header = c.args.header.now in
    let is = c.stripe_count-stripes.ensures.header in
    let shape : c.in_ok-plan.plan.geometry ≡ header.shape = c.in_ok-plan.ensures.geometry ∙ c.geometry.ensures in
    let P : AloofShape → Type 0 = λ a. block_start a c.stripe_count-stripes.result < 2 ^ 64 in
    let Q : ℕ → Type 0 = λ n. block_start header.shape n < 2 ^ 64 in
    subst P (sym shape) (subst Q (sym c.stripe_count-stripes.ensures.count) (end_fits header.shape header.size is.code is.bounded))

pub returns-in_err-plan-clause-part : goal.returns-in_err-plan-clause-part
returns-in_err-plan-clause-part g c = on_any_error c.from_residual.result (puts_nothing c.args.header.now _ _)

pub returns-in-Err-clause-part : goal.returns-in-Err-clause-part
returns-in-Err-clause-part g c =
    inl (moved (λ a l n. PutsSome a (IsMended a l c.args.helpers.now (map (λ s. seen (g.S.SourceAt.given s) (g.S.SourceAt.ends s) (g.S.SourceAt.failed s)) c.mend_stripes.new.sources)) n (g.K.SinkAt.put c.args.sink.now) (g.K.SinkAt.put c.mend_stripes.new.sink))
    _ _ _ _ _ _ (c.in_ok-plan.ensures.geometry ∙ c.geometry.ensures) (c.in_ok-plan.ensures.lost ∙ c.share.ensures) c.stripe_count-stripes.ensures.count
    c.in-Err.ensures.part)

pub returns-in-Err-clause-read : goal.returns-in-Err-clause-read
returns-in-Err-clause-read g c = λ e.
    moved (λ a l n. OneReadFails a c.args.helpers.now n (map (λ s. seen (g.S.SourceAt.given s) (g.S.SourceAt.ends s) (g.S.SourceAt.failed s)) c.args.sources.now) (map (λ s. seen (g.S.SourceAt.given s) (g.S.SourceAt.ends s) (g.S.SourceAt.failed s)) c.mend_stripes.new.sources))
    _ _ _ _ _ _ (c.in_ok-plan.ensures.geometry ∙ c.geometry.ensures)
    (c.in_ok-plan.ensures.lost ∙ c.share.ensures) c.stripe_count-stripes.ensures.count (c.in-Err.ensures.read (handed_on c.in-Err.fault ReadFault e))

pub returns-in-Err-clause-rotten : goal.returns-in-Err-clause-rotten
returns-in-Err-clause-rotten g c = λ files shows.
    moved (λ a l n. NamesFirst a l c.args.helpers.now files n c.in-Err.fault) _ _ _ _ _ _ (c.in_ok-plan.ensures.geometry ∙ c.geometry.ensures)
    (c.in_ok-plan.ensures.lost ∙ c.share.ensures) c.stripe_count-stripes.ensures.count (c.in-Err.ensures.rotten files shows)

pub returns-in-Err-WriteFault-clause-part : goal.returns-in-Err-WriteFault-clause-part
returns-in-Err-WriteFault-clause-part g c =
    puts_head c.args.header.now (IsMended c.args.header.now.shape c.args.header.now.share c.args.helpers.now (map (λ s. seen (g.S.SourceAt.given s) (g.S.SourceAt.ends s) (g.S.SourceAt.failed s)) c.mend_stripes.new.sources)) _ _ _
    (moved (λ a l n. PutsBlocks a (IsMended a l c.args.helpers.now (map (λ s. seen (g.S.SourceAt.given s) (g.S.SourceAt.ends s) (g.S.SourceAt.failed s)) c.mend_stripes.new.sources)) n (g.K.SinkAt.put c.args.sink.now) (g.K.SinkAt.put c.mend_stripes.new.sink))
    _ _ _ _ _ _ (c.in_ok-plan.ensures.geometry ∙ c.geometry.ensures) (c.in_ok-plan.ensures.lost ∙ c.share.ensures) c.stripe_count-stripes.ensures.count c.in-Ok.ensures.put)
    (c.in-Err-WriteFault.ensures.part (ap Err c.in-Err-WriteFault.field-0-is))

pub returns-clause-part : goal.returns-clause-part
returns-clause-part g c =
    puts_blocks c.args.header.now (IsMended c.args.header.now.shape c.args.header.now.share c.args.helpers.now (map (λ s. seen (g.S.SourceAt.given s) (g.S.SourceAt.ends s) (g.S.SourceAt.failed s)) c.mend_stripes.new.sources)) _ _ _
    (moved (λ a l n. PutsBlocks a (IsMended a l c.args.helpers.now (map (λ s. seen (g.S.SourceAt.given s) (g.S.SourceAt.ends s) (g.S.SourceAt.failed s)) c.mend_stripes.new.sources)) n (g.K.SinkAt.put c.args.sink.now) (g.K.SinkAt.put c.mend_stripes.new.sink))
    _ _ _ _ _ _ (c.in_ok-plan.ensures.geometry ∙ c.geometry.ensures) (c.in_ok-plan.ensures.lost ∙ c.share.ensures) c.stripe_count-stripes.ensures.count c.in-Ok.ensures.put)
    (c.in-Err-OutOfMemory.ensures.unwritten (ap Err c.in-Err-OutOfMemory.field-0-is))

pub returns-in-Ok-write_header-clause-share : goal.returns-in-Ok-write_header-clause-share
returns-in-Ok-write_header-clause-share g c = λ file words files shows long sum coded of.
    puts_share c.args.header.now (IsMended c.args.header.now.shape c.args.header.now.share c.args.helpers.now (map (λ s. seen (g.S.SourceAt.given s) (g.S.SourceAt.ends s) (g.S.SourceAt.failed s)) c.mend_stripes.new.sources)) _ _ _
    (moved (λ a l n. PutsBlocks a (IsMended a l c.args.helpers.now (map (λ s. seen (g.S.SourceAt.given s) (g.S.SourceAt.ends s) (g.S.SourceAt.failed s)) c.mend_stripes.new.sources)) n (g.K.SinkAt.put c.args.sink.now) (g.K.SinkAt.put c.mend_stripes.new.sink))
    _ _ _ _ _ _ (c.in_ok-plan.ensures.geometry ∙ c.geometry.ensures) (c.in_ok-plan.ensures.lost ∙ c.share.ensures) c.stripe_count-stripes.ensures.count c.in-Ok.ensures.put)
    c.stripe_count-stripes.ensures.header.numbered c.in-Ok-write_header.ensures.put file words long sum coded
    (λ i chunk less is. is.only files (get_or words i []) shows (coded.codes i less).codeword (of i less))

pub returns-in-Ok-write_header-clause-good : goal.returns-in-Ok-write_header-clause-good
returns-in-Ok-write_header-clause-good g c = λ files shows.
    moved (λ a l n. HaveGood a l c.args.helpers.now files n) _ _ _ _ _ _ (c.in_ok-plan.ensures.geometry ∙ c.geometry.ensures)
    (c.in_ok-plan.ensures.lost ∙ c.share.ensures) c.stripe_count-stripes.ensures.count (c.in-Ok.ensures.good files shows)

pub returns-in-Ok-write_header-clause-made : goal.returns-in-Ok-write_header-clause-made
returns-in-Ok-write_header-clause-made g c =
    puts_whole c.args.header.now (IsMended c.args.header.now.shape c.args.header.now.share c.args.helpers.now (map (λ s. seen (g.S.SourceAt.given s) (g.S.SourceAt.ends s) (g.S.SourceAt.failed s)) c.mend_stripes.new.sources)) _ _ _
    (moved (λ a l n. PutsBlocks a (IsMended a l c.args.helpers.now (map (λ s. seen (g.S.SourceAt.given s) (g.S.SourceAt.ends s) (g.S.SourceAt.failed s)) c.mend_stripes.new.sources)) n (g.K.SinkAt.put c.args.sink.now) (g.K.SinkAt.put c.mend_stripes.new.sink))
    _ _ _ _ _ _ (c.in_ok-plan.ensures.geometry ∙ c.geometry.ensures) (c.in_ok-plan.ensures.lost ∙ c.share.ensures) c.stripe_count-stripes.ensures.count c.in-Ok.ensures.put)
    c.in-Ok-write_header.ensures.put

pub returns-in-Ok-write_header-clause-asked : goal.returns-in-Ok-write_header-clause-asked
returns-in-Ok-write_header-clause-asked g c =
    moved (λ a l n. AreAsked c.args.helpers.now (first_ranges a l n) (all_chunks a) (map (λ s. seen (g.S.SourceAt.given s) (g.S.SourceAt.ends s) (g.S.SourceAt.failed s)) c.args.sources.now) (map (λ s. seen (g.S.SourceAt.given s) (g.S.SourceAt.ends s) (g.S.SourceAt.failed s)) c.mend_stripes.new.sources))
    _ _ _ _ _ _ (c.in_ok-plan.ensures.geometry ∙ c.geometry.ensures) (c.in_ok-plan.ensures.lost ∙ c.share.ensures) c.stripe_count-stripes.ensures.count c.in-Ok.ensures.asked

pub returns-in-Err-clause-share : goal.returns-in-Err-clause-share
returns-in-Err-clause-share g c = λ file words files shows long sum coded of. tt

pub returns-in-Err-clause-good : goal.returns-in-Err-clause-good
returns-in-Err-clause-good g c = λ files shows. tt

pub returns-in-Err-WriteFault-clause-share : goal.returns-in-Err-WriteFault-clause-share
returns-in-Err-WriteFault-clause-share g c = λ file words files shows long sum coded of. tt

pub returns-in-Err-WriteFault-clause-good : goal.returns-in-Err-WriteFault-clause-good
returns-in-Err-WriteFault-clause-good g c = λ files shows. tt

pub returns-clause-share : goal.returns-clause-share
returns-clause-share g c = λ file words files shows long sum coded of. tt

pub returns-clause-good : goal.returns-clause-good
returns-clause-good g c = λ files shows. tt

pub returns-in-Ok-write_header-clause-rotten : goal.returns-in-Ok-write_header-clause-rotten
returns-in-Ok-write_header-clause-rotten g c = λ files shows. tt
