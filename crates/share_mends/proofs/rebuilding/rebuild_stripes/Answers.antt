use Rattle.std.proofs.Common.{◌≤◌, ◌+◌, ℕ, refl, sym, subst, ◌∙◌, arith}
use Rattle.std.proofs.lemmas.List.{length-map}
use Rattle.clay_bytes.specs.Stream.{Rises}
use Rattle.share_format.specs.Blocks.{block_length}
use Rattle.share_format.specs.Shares.{block_start}
use Rattle.share_files.proofs.FoundLemmas.{place_before}
use Rattle.share_files.proofs.Faults.{handed_on}
use Rattle.share_files.proofs.PutLemmas.{puts_none, puts_more, puts_some, block_as, most_as}
use Rattle.share_files.proofs.ReadLemmas.{grow_none, grow_then}
use Rattle.share_files.proofs.AskedLemmas.{grow_asked}
use Rattle.share_files.proofs.LateLemmas.{within_more}
use Rattle.share_mends.specs.declared.rebuilding.RebuildFault.TheVariants.{TooFew, WriteFault}
use Rattle.share_mends.proofs.RebuildLemmas.{none_within, lack_among, since_first, later, puts_before, few_is, err_is}
use Rattle.share_mends.proofs.rebuilding.rebuild_stripes.Goals as goal

pub loop-stripe-init : goal.loop-stripe-init
loop-stripe-init g c = record {
  sources = c.requires.sources;
  grow = grow_none _;
  within = none_within c.args.geometry 0 _;
  put = puts_none c.args.geometry _ _;
  writes = refl;
}

pub rebuild_one-requires-clause-place : goal.rebuild_one-requires-clause-place
rebuild_one-requires-clause-place g c =
    let before : block_start c.args.geometry c.loop-stripe.stripe + block_length c.args.geometry ≤ block_start c.args.geometry c.args.stripes =
    place_before c.args.geometry c.loop-stripe.stripe c.args.stripes c.loop-stripe-test.true in
    omega (arith, before, c.requires.place)

pub loop-stripe-preserved : goal.loop-stripe-preserved
loop-stripe-preserved g c =
    let inv = c.loop-stripe.invariant in
    let one = c.in-Ok.ensures in record {
      sources = c.rebuild_one.auto.sources ∙ inv.sources;
      grow = grow_then _ _ _ inv.grow (grow_asked c.args.geometry c.loop-stripe.stripe _ _ c.rebuild_one.ensures.asked);
      within = within_more c.args.geometry c.loop-stripe.stripe _ _ _ inv.grow c.rebuild_one.ensures.asked inv.within;
      put =
          puts_more c.args.geometry _ _ c.loop-stripe.stripe _ _ _
          (later c.args.geometry c.args.lost _ _ _ c.loop-stripe.stripe inv.grow inv.within c.rebuild_one.ensures.asked
          (length-map c.loop-stripe.sources _ ∙ sym c.rebuild_one.auto.sources ∙ sym (length-map c.rebuild_one.new.sources _)))
          inv.put
          (block_as c.args.geometry _ _ c.loop-stripe.stripe _ _
          (since_first c.args.geometry c.args.lost _ _ _ c.loop-stripe.stripe inv.grow inv.within c.rebuild_one.ensures.asked) one.put);
      writes = one.writes (λ e. cc) ∙ inv.writes;
    }

pub returns-in-Err-clause-part : goal.returns-in-Err-clause-part
returns-in-Err-clause-part g c =
    let inv = c.loop-stripe.invariant in
    puts_some c.args.geometry _ _ c.loop-stripe.stripe _ _ _
    (later c.args.geometry c.args.lost _ _ _ c.loop-stripe.stripe inv.grow inv.within c.rebuild_one.ensures.asked
    (length-map c.loop-stripe.sources _ ∙ sym c.rebuild_one.auto.sources ∙ sym (length-map c.rebuild_one.new.sources _)))
    inv.put c.args.stripes c.loop-stripe-test.true
    (most_as c.args.geometry _ _ c.loop-stripe.stripe _ _
    (since_first c.args.geometry c.args.lost _ _ _ c.loop-stripe.stripe inv.grow inv.within c.rebuild_one.ensures.asked) c.in-Err.ensures.part)

pub returns-in-Err-clause-lack : goal.returns-in-Err-clause-lack
returns-in-Err-clause-lack g c =
    lack_among c.args.geometry c.loop-stripe.stripe c.args.stripes _ _ _ c.in-Err.fault c.loop-stripe-test.true c.loop-stripe.invariant.grow
    (grow_asked c.args.geometry c.loop-stripe.stripe _ _ c.rebuild_one.ensures.asked) c.in-Err.ensures.lack

pub returns-in-Err-clause-write : goal.returns-in-Err-clause-write
returns-in-Err-clause-write g c = λ e.
    let P : ℕ → Type 0 = λ k. Rises k (g.K.SinkAt.faults c.rebuild_one.new.sink) in
    subst P c.loop-stripe.invariant.writes (c.in-Err.ensures.write (handed_on c.in-Err.fault WriteFault e))

pub returns-in-Err-clause-writes : goal.returns-in-Err-clause-writes
returns-in-Err-clause-writes g c = λ other.
    c.in-Err.ensures.writes (λ e. other (handed_on c.in-Err.fault WriteFault e)) ∙ c.loop-stripe.invariant.writes

pub returns-in-Err-clause-before : goal.returns-in-Err-clause-before
returns-in-Err-clause-before g c = λ few e.
    let inv = c.loop-stripe.invariant in
    puts_before c.args.geometry _ _ c.loop-stripe.stripe few _ _ _
    (later c.args.geometry c.args.lost _ _ _ c.loop-stripe.stripe inv.grow inv.within c.rebuild_one.ensures.asked
    (length-map c.loop-stripe.sources _ ∙ sym c.rebuild_one.auto.sources ∙ sym (length-map c.rebuild_one.new.sources _)))
    (few_is c.args.geometry _ _ c.loop-stripe.stripe few c.in-Err.fault (err_is c.in-Err.fault (TooFew few) e) c.in-Err.ensures.lack)
    (c.in-Err.ensures.unput few (handed_on c.in-Err.fault (TooFew few) e)) inv.put
