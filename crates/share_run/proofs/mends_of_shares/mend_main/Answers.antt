use Rattle.std.proofs.Common.{refl, subst}
use Rattle.file_bytes.specs.Laid.{laid}
use Rattle.share_format.specs.Cut.{stripe_count}
use Rattle.share_format.specs.Shares.{IsShare}
use Rattle.share_mends.specs.Mended.{NamesFirst}
use Rattle.share_mends.specs.declared.mend_fault.MendFault.{MendFault}
use Rattle.share_run.proofs.FaultLemmas.{rotten_no_read, rotten_no_write}
use Rattle.share_run.proofs.MendLemmas.{laid_file}
use Rattle.share_run.proofs.mends_of_shares.mend_main.Goals as goal

pub returns-in-Err-Rotten-clause-stops : goal.returns-in-Err-Rotten-clause-stops
returns-in-Err-Rotten-clause-stops g c = (
  λ files shows.
      let h = c.args.header.now in
      let P : MendFault → Type 0 = λ fault. NamesFirst h.shape h.share c.args.helpers.now files (stripe_count h.shape h.size) fault in
      subst P c.in-Err-Rotten.field-0-is (c.in-Err-Rotten.ensures.rotten files shows),
  refl,
  c.in-Err-Rotten.ensures.reads (λ e. rotten_no_read c.in-Err-Rotten.field-0 c.in-Err-Rotten.part c.in-Err-Rotten.field-0-is e),
  (c.in-Err-Rotten.ensures.writes (λ e. rotten_no_write c.in-Err-Rotten.field-0 c.in-Err-Rotten.part c.in-Err-Rotten.field-0-is e), refl),
)

pub returns-in-Ok-fill-clause-ends : goal.returns-in-Ok-fill-clause-ends
returns-in-Ok-fill-clause-ends g c = (
  record {
    bytes = laid (g.K.SinkAt.put c.mend.new.sink);
    placed = c.in-Ok-fill.ensures.filled;
    share = λ file words files shows size checksum coded parts.
        laid_file (IsShare c.args.header.now.shape file c.args.header.now.share) _ _ c.requires.empty (c.in-Ok.ensures.share file words files shows size checksum coded parts);
    made = laid_file _ _ _ c.requires.empty c.in-Ok.ensures.made;
  },
  record { good = λ files shows. c.in-Ok.ensures.good files shows; asked = c.in-Ok.ensures.asked },
  c.in-Ok.ensures.reads (λ e. cc),
  (c.in-Ok.ensures.writes (λ e. cc), c.in-Ok-fill.ensures.steady),
)
