use Rattle.std.proofs.Common.{inl, refl, ◌∙◌}
use Rattle.std.proofs.lemmas.List.{with_items_is}
use Rattle.share_files.specs.Found.{block_in}
use Rattle.share_files.specs.Asked.{IsIn}
use Rattle.share_files.proofs.AskedLemmas.{asked_none}
use Rattle.share_files.proofs.ReadLemmas.{had_told, had_untold}
use Rattle.share_files.proofs.fetching.block_or_none.Goals as goal

pub returns-in-Ok-true-clause-read : goal.returns-in-Ok-true-clause-read
returns-in-Ok-true-clause-read g c = record {
  had = λ file shows.
      had_told c.args.geometry (block_in c.args.geometry c.args.stripe file) c.read_good.new.room _ _ _ c.in-Ok-true.field-0 (search)
      (with_items_is c.in_ok-block.block c.read_good.new.room (c.read_good.auto.room ∙ c.deref_mut.ensures.len)) c.in-Ok-true.ensures.steady
      (c.in-Ok-true.ensures.found file shows);
  shown = c.in-Ok-true.ensures.shown;
  fails = inl c.in-Ok-true.ensures.steady;
}

pub returns-in-Ok-false-clause-read : goal.returns-in-Ok-false-clause-read
returns-in-Ok-false-clause-read g c = record {
  had = λ file shows.
      had_untold c.args.geometry c.args.stripe file _ _ c.read_good.new.room c.in-Ok-false.field-0 (search)
      (c.in-Ok-false.ensures.found file shows);
  shown = c.in-Ok-false.ensures.shown;
  fails = inl c.in-Ok-false.ensures.steady;
}

pub returns-in_err-block-clause-asked : goal.returns-in_err-block-clause-asked
returns-in_err-block-clause-asked g c = asked_none (IsIn c.args.geometry c.args.stripe) _ _ refl
