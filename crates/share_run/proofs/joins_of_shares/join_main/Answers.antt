use Rattle.std.proofs.Common.{Err, map, refl, subst, ap, inl, inr}
use Rattle.share_files.specs.Seen.{seen}
use Rattle.share_files.specs.Taken.{TakesUntil}
use Rattle.share_files.specs.declared.joining.JoinFault.{JoinFault}
use Rattle.share_run.proofs.FaultLemmas.{few_no_write, few_no_memory, other_no_write, other_no_memory, write_no_memory}
use Rattle.share_run.proofs.JoinLemmas.{file_placed, is_another, lacking, noted_all, noted_some, noted_end}
use Rattle.share_run.proofs.joins_of_shares.join_main.Goals as goal

pub returns-in-Err-TooFew : goal.returns-in-Err-TooFew
returns-in-Err-TooFew g c = (
  lacking _ c.in-Err-TooFew.field-0 c.in-Err-TooFew.ensures.why_not
      (c.in-Err-TooFew.ensures.unread (λ e. few_no_memory c.in-Err-TooFew.field-0 c.in-Err-TooFew.field-0-0 c.in-Err-TooFew.field-0-is e)) c.in-Err-TooFew.field-0-0
      c.in-Err-TooFew.field-0-is c.in-Err-TooFew.ensures.of_file,
  refl,
  (c.in-Err-TooFew.ensures.writes (λ e. few_no_write c.in-Err-TooFew.field-0 c.in-Err-TooFew.field-0-0 c.in-Err-TooFew.field-0-is e), refl),
)

pub returns-in-Err-Mismatch : goal.returns-in-Err-Mismatch
returns-in-Err-Mismatch g c = (
  (let P : JoinFault → Type 0 = λ fault.
      TakesUntil c.args.header.now (map (λ s. seen (g.S.SourceAt.given s) (g.S.SourceAt.ends s) (g.S.SourceAt.failed s)) c.args.sources.now) (map (λ s. seen (g.S.SourceAt.given s) (g.S.SourceAt.ends s) (g.S.SourceAt.failed s)) c.join.new.sources)
      (g.K.Sink.accepted c.args.sink.now) (g.K.Sink.written c.args.sink.now) (g.K.Sink.accepted c.join.new.sink) (g.K.Sink.written c.join.new.sink) fault in
      is_another _ _ _ _ _ (subst P c.in-Err-Mismatch.field-0-is c.in-Err-Mismatch.ensures.until)),
  noted_all _ c.in-Err-Mismatch.field-0 c.in-Err-Mismatch.ensures.why_not
      (c.in-Err-Mismatch.ensures.unread (λ e. other_no_memory c.in-Err-Mismatch.field-0 c.in-Err-Mismatch.field-0-is e)) c.in-Err-Mismatch.field-0-is,
  refl,
  (c.in-Err-Mismatch.ensures.writes (λ e. other_no_write c.in-Err-Mismatch.field-0 c.in-Err-Mismatch.field-0-is e), refl),
)

pub returns-in-Err-WriteFault : goal.returns-in-Err-WriteFault
returns-in-Err-WriteFault g c = (
  noted_some _ c.in-Err-WriteFault.field-0 c.in-Err-WriteFault.ensures.why_not
      (c.in-Err-WriteFault.ensures.unread (λ e. write_no_memory c.in-Err-WriteFault.field-0 c.in-Err-WriteFault.field-0-is e)) c.in-Err-WriteFault.field-0-is,
  inl (c.in-Err-WriteFault.ensures.write (ap Err c.in-Err-WriteFault.field-0-is), refl),
  refl,
)

pub returns-in-Ok-fill : goal.returns-in-Ok-fill
returns-in-Ok-fill g c = (
  file_placed _ _ _ _ _ c.requires.empty c.in-Ok-fill.ensures.filled c.in-Ok.ensures.taken,
  record { first = c.in-Ok.ensures.missed; unread = c.in-Ok.ensures.unread (λ e. cc) },
  (c.in-Ok.ensures.writes (λ e. cc), c.in-Ok-fill.ensures.steady),
)

pub returns-in-Err : goal.returns-in-Err
returns-in-Err g c = (
  noted_end _ (record { first = c.in-Ok.ensures.missed; unread = c.in-Ok.ensures.unread (λ e. cc) }),
  inr (c.in-Ok.ensures.writes (λ e. cc), c.in-Err.ensures.cause),
  c.in-Err.ensures.unfilled,
)
