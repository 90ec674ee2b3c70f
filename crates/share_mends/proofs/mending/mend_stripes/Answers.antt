use Rattle.std.proofs.Common.{◌≡◌, ◌≤◌, ◌+◌, ℕ, map, refl, subst, ◌∙◌, arith}
use Rattle.clay_bytes.specs.Stream.{Rises}
use Rattle.clay_aloof.specs.Shape.{all_chunks}
use Rattle.share_format.specs.Blocks.{block_length}
use Rattle.share_format.specs.Shares.{block_start}
use Rattle.share_files.specs.Seen.{seen}
use Rattle.share_files.specs.Put.{PutsBlocks}
use Rattle.share_files.proofs.FoundLemmas.{place_before}
use Rattle.share_files.proofs.Faults.{handed_on}
use Rattle.share_files.proofs.PutLemmas.{puts_none, puts_more, puts_some}
use Rattle.share_mends.specs.Asked.{AreAsked}
use Rattle.share_mends.specs.Mended.{HaveGood, IsMended}
use Rattle.share_mends.specs.declared.mend_fault.MendFault.TheVariants.{ReadFault, WriteFault}
use Rattle.share_mends.proofs.AskedLemmas.{asked_nothing, no_read_fails, fails_none, fails_one}
use Rattle.share_mends.proofs.MendLemmas.{first_ranges, asked_stripe, good_more, names_stripe, later}
use Rattle.share_mends.proofs.mending.mend_stripes.Goals as goal

pub loop-stripe-init : goal.loop-stripe-init
loop-stripe-init g c = record {
  shares = c.requires.shares;
  put = puts_none c.args.plan.now.geometry _ _;
  good = λ files shows i k less. absurd (omega (arith, less));
  asked = asked_nothing c.args.helpers.now _ _;
  writes = refl;
}

pub mend_one-requires-clause-place : goal.mend_one-requires-clause-place
mend_one-requires-clause-place g c =
    let a = c.args.plan.now.geometry in
    let before : block_start a c.loop-stripe.stripe + block_length a ≤ block_start a c.args.stripes = place_before a c.loop-stripe.stripe c.args.stripes c.loop-stripe-test.true in
    omega (arith, before, c.requires.place)

pub loop-stripe-preserved : goal.loop-stripe-preserved
loop-stripe-preserved g c =
    let a = c.args.plan.now.geometry in
    let lost = c.args.plan.now.lost in
    let inv = c.loop-stripe.invariant in
    let one = c.in-Ok.ensures in
    record {
      shares = c.mend_one.auto.sources ∙ inv.shares;
      put =
          puts_more a _ _ c.loop-stripe.stripe _ _ _ (λ i less chunk is. later a lost c.args.helpers.now _ _ i chunk one.shown is) inv.put one.put;
      good = λ files shows. good_more a lost c.args.helpers.now files c.loop-stripe.stripe (inv.good files (one.shown files shows)) (one.good files shows);
      asked = asked_stripe a lost c.loop-stripe.stripe _ c.args.helpers.now _ _ _ inv.asked one.asked;
      writes = one.writes (λ e. cc) ∙ inv.writes;
    }

pub returns-in-Err-clause-part : goal.returns-in-Err-clause-part
returns-in-Err-clause-part g c =
    puts_some c.args.plan.now.geometry _ _ c.loop-stripe.stripe _ _ _
    (λ i less chunk is. later c.args.plan.now.geometry c.args.plan.now.lost c.args.helpers.now _ _ i chunk c.in-Err.ensures.shown is) c.loop-stripe.invariant.put
    c.args.stripes c.loop-stripe-test.true c.in-Err.ensures.part

pub returns-in-Err-clause-rotten : goal.returns-in-Err-clause-rotten
returns-in-Err-clause-rotten g c = λ files shows.
    names_stripe c.args.plan.now.geometry c.args.plan.now.lost c.args.helpers.now files c.loop-stripe.stripe c.args.stripes c.in-Err.fault c.loop-stripe-test.true
    (c.loop-stripe.invariant.good files (c.in-Err.ensures.shown files shows)) (c.in-Err.ensures.rotten files shows)

pub returns-in-Err-clause-read : goal.returns-in-Err-clause-read
returns-in-Err-clause-read g c = λ e. record {
  stripe = c.loop-stripe.stripe;
  within = c.loop-stripe-test.true;
  fails =
      fails_one c.args.plan.now.geometry c.args.helpers.now c.loop-stripe.stripe _ _ _ (no_read_fails _ _ _ _ _ c.loop-stripe.invariant.asked)
      (c.in-Err.ensures.read (handed_on c.in-Err.fault ReadFault e));
}

pub returns-in-Err-clause-reads : goal.returns-in-Err-clause-reads
returns-in-Err-clause-reads g c = λ other.
    fails_none _ _ _ (no_read_fails _ _ _ _ _ c.loop-stripe.invariant.asked) (c.in-Err.ensures.reads (λ e. other (handed_on c.in-Err.fault ReadFault e)))

pub returns-in-Err-clause-write : goal.returns-in-Err-clause-write
returns-in-Err-clause-write g c = λ e.
    let P : ℕ → Type 0 = λ k. Rises k (g.K.SinkAt.faults c.mend_one.new.sink) in
    subst P c.loop-stripe.invariant.writes (c.in-Err.ensures.write (handed_on c.in-Err.fault WriteFault e))

pub returns-in-Err-clause-writes : goal.returns-in-Err-clause-writes
returns-in-Err-clause-writes g c = λ other.
    c.in-Err.ensures.writes (λ e. other (handed_on c.in-Err.fault WriteFault e)) ∙ c.loop-stripe.invariant.writes

pub returns-in-Err-clause-good : goal.returns-in-Err-clause-good
returns-in-Err-clause-good g c = λ files shows. tt

pub returns-clause-put : goal.returns-clause-put
returns-clause-put g c =
    let a = c.args.plan.now.geometry in
    let all : c.loop-stripe.stripe ≡ c.args.stripes = omega arith in
    let P : ℕ → Type 0 =
    λ n. PutsBlocks a (IsMended a c.args.plan.now.lost c.args.helpers.now (map (λ s. seen (g.S.SourceAt.given s) (g.S.SourceAt.ends s) (g.S.SourceAt.failed s)) c.loop-stripe.sources)) n
    (g.K.SinkAt.put c.args.sink.now) (g.K.SinkAt.put c.loop-stripe.sink) in
    subst P all c.loop-stripe.invariant.put

pub returns-clause-good : goal.returns-clause-good
returns-clause-good g c = λ files shows.
    let all : c.loop-stripe.stripe ≡ c.args.stripes = omega arith in
    let P : ℕ → Type 0 = λ n. HaveGood c.args.plan.now.geometry c.args.plan.now.lost c.args.helpers.now files n in
    subst P all (c.loop-stripe.invariant.good files shows)

pub returns-clause-rotten : goal.returns-clause-rotten
returns-clause-rotten g c = λ files shows. tt

pub returns-clause-asked : goal.returns-clause-asked
returns-clause-asked g c =
    let a = c.args.plan.now.geometry in
    let all : c.loop-stripe.stripe ≡ c.args.stripes = omega arith in
    let P : ℕ → Type 0 =
    λ n. AreAsked c.args.helpers.now (first_ranges a c.args.plan.now.lost n) (all_chunks a) (map (λ s. seen (g.S.SourceAt.given s) (g.S.SourceAt.ends s) (g.S.SourceAt.failed s)) c.args.sources.now)
    (map (λ s. seen (g.S.SourceAt.given s) (g.S.SourceAt.ends s) (g.S.SourceAt.failed s)) c.loop-stripe.sources) in
    subst P all c.loop-stripe.invariant.asked

pub returns-clause-reads : goal.returns-clause-reads
returns-clause-reads g c = λ other. no_read_fails _ _ _ _ _ c.loop-stripe.invariant.asked

pub returns-clause-writes : goal.returns-clause-writes
returns-clause-writes g c = λ other. c.loop-stripe.invariant.writes
