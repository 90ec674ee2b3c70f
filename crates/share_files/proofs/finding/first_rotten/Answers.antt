use Rattle.std.proofs.Common.{◌≡◌, ◌≤◌, ◌+◌, length, ap, refl, ◌∙◌, arith, below_more}
use Rattle.std.proofs.lemmas.List.{with_items_is}
use Rattle.share_format.specs.Blocks.{block_length, IsBlock}
use Rattle.share_format.specs.Shares.{block_start}
use Rattle.share_files.specs.Found.{block_in}
use Rattle.share_files.proofs.FoundLemmas.{place_before, fails_among}
use Rattle.share_files.proofs.ReadLemmas.{told_good, told_bad}
use Rattle.share_files.proofs.finding.first_rotten.Goals as goal

pub read_good-requires-clause-place : goal.read_good-requires-clause-place
read_good-requires-clause-place g c =
    let before : block_start c.args.geometry c.loop-stripe.stripe + block_length c.args.geometry ≤ block_start c.args.geometry c.args.stripes =
    place_before c.args.geometry c.loop-stripe.stripe c.args.stripes c.loop-stripe-test.true in
    omega (arith, before, c.requires)

pub loop-stripe-preserved : goal.loop-stripe-preserved
loop-stripe-preserved g c =
    let size : length c.read_good.new.room ≡ length c.loop-stripe.room.items = c.read_good.auto.room ∙ ap length c.deref_mut.ensures.value in
    record {
      whole = λ file shows.
          below_more (λ i. IsBlock c.args.geometry (block_in c.args.geometry i file)) c.loop-stripe.stripe
          (c.loop-stripe.invariant.whole file (c.in-Ok-true.ensures.shown file shows))
          (told_good c.args.geometry (block_in c.args.geometry c.loop-stripe.stripe file) c.read_good.new.room _ c.in-Ok-true.field-0 (search) refl (c.in-Ok-true.ensures.found file shows)).1;
      shown = λ file shows. c.loop-stripe.invariant.shown file (c.in-Ok-true.ensures.shown file shows);
      room = ap length (with_items_is c.loop-stripe.room c.read_good.new.room (c.read_good.auto.room ∙ c.deref_mut.ensures.len)) ∙ size ∙ c.loop-stripe.invariant.room;
      steady = c.in-Ok-true.ensures.steady ∙ c.loop-stripe.invariant.steady;
    }

pub returns-in-Ok-false-clause-rotten : goal.returns-in-Ok-false-clause-rotten
returns-in-Ok-false-clause-rotten g c = λ file shows. (
  c.loop-stripe-test.true,
  told_bad c.args.geometry (block_in c.args.geometry c.loop-stripe.stripe file) c.read_good.new.room c.in-Ok-false.field-0 (search) (c.in-Ok-false.ensures.found file shows),
  c.loop-stripe.invariant.whole file (c.in-Ok-false.ensures.shown file shows),
)

pub returns-in-Ok-false-clause-shown : goal.returns-in-Ok-false-clause-shown
returns-in-Ok-false-clause-shown g c = λ file shows. c.loop-stripe.invariant.shown file (c.in-Ok-false.ensures.shown file shows)

pub returns-in-Err-clause-shown : goal.returns-in-Err-clause-shown
returns-in-Err-clause-shown g c = λ file shows. c.loop-stripe.invariant.shown file (c.in-Err.ensures.shown file shows)

pub returns-in-Err-clause-cause : goal.returns-in-Err-clause-cause
returns-in-Err-clause-cause g c = λ e.
    fails_among c.args.geometry c.loop-stripe.stripe c.args.stripes _ _ _ c.loop-stripe-test.true c.loop-stripe.invariant.steady
    c.in-Err.ensures.cause

pub returns-clause-rotten : goal.returns-clause-rotten
returns-clause-rotten g c = λ file shows i less. c.loop-stripe.invariant.whole file shows i (omega (arith, less, c.loop-stripe-test.false))
