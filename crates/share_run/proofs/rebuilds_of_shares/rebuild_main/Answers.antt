use Rattle.std.proofs.Common.{map, refl, subst}
use Rattle.file_bytes.specs.Laid.{laid}
use Rattle.share_format.specs.Cut.{stripe_count}
use Rattle.share_format.specs.Shares.{IsShare}
use Rattle.share_files.specs.Seen.{seen}
use Rattle.share_mends.specs.Rebuilt.{IsLack}
use Rattle.share_mends.specs.declared.rebuilding.RebuildFault.{RebuildFault}
use Rattle.share_run.proofs.FaultLemmas.{short_no_write}
use Rattle.share_run.proofs.MendLemmas.{laid_file}
use Rattle.share_run.proofs.rebuilds_of_shares.rebuild_main.Goals as goal

pub returns-in-Err-TooFew : goal.returns-in-Err-TooFew
returns-in-Err-TooFew g c =
    let h = c.args.header.now in
    let P : RebuildFault → Type 0 = λ fault.
    IsLack h.shape (stripe_count h.shape h.size) (map (λ s. seen (g.S.SourceAt.given s) (g.S.SourceAt.ends s) (g.S.SourceAt.failed s)) c.args.sources.now)
    (map (λ s. seen (g.S.SourceAt.given s) (g.S.SourceAt.ends s) (g.S.SourceAt.failed s)) c.mend_whole.new.sources) fault in
    let lack = subst P c.in-Err-TooFew.field-0-is c.in-Err-TooFew.ensures.lack in
    (record { stripe = c.in-Err-TooFew.field-0-0; within = lack.0; lack = lack.1 }, refl, (c.in-Err-TooFew.ensures.writes (λ e. short_no_write c.in-Err-TooFew.field-0 c.in-Err-TooFew.field-0-0 c.in-Err-TooFew.field-0-is e), refl))

pub returns-in-Ok-fill : goal.returns-in-Ok-fill
returns-in-Ok-fill g c = (
  record {
    bytes = laid (g.K.SinkAt.put c.mend_whole.new.sink);
    placed = c.in-Ok-fill.ensures.filled;
    share = λ file files shows pass.
        laid_file (IsShare c.args.header.now.shape file c.args.header.now.share) _ _ c.requires.empty (c.in-Ok.ensures.share file files shows pass);
    made = laid_file _ _ _ c.requires.empty c.in-Ok.ensures.made;
  },
  (c.in-Ok.ensures.writes (λ e. cc), c.in-Ok-fill.ensures.steady),
)
