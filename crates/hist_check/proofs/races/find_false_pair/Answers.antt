use Rattle.std.proofs.Common.{sym, ap}
use Rattle.std.specs.Prelude.{slice_get}
use Rattle.hist_rules.specs.First.{first_fault_along}
use Rattle.hist_rules.specs.LostRaces.{race_lost}
use Rattle.hist_tables.proofs.Faults.{after_fits, after_found, none_after, before_more}
use Rattle.hist_check.proofs.races.find_false_pair.Goals as goal

pub returns-in-Some : goal.returns-in-Some
returns-in-Some c =
    let r = race_lost c.args.script.now c.args.transcript.now c.args.call c.args.name.now in
    after_found r c.args.pairs.now c.loop-pair.pair-index _ (first_fault_along r c.args.pairs.now) c.in-Some.fault c.loop-pair.invariant.so_far c.loop-pair-test.true
    (sym (c.in-Some.ensures _ c.loop-pair.invariant.before))

pub loop-pair-preserved : goal.loop-pair-preserved
loop-pair-preserved c =
    let r = race_lost c.args.script.now c.args.transcript.now c.args.call c.args.name.now in
    record {
      so_far =
          after_fits r c.args.pairs.now c.loop-pair.pair-index _ (first_fault_along r c.args.pairs.now) c.loop-pair.invariant.so_far c.loop-pair-test.true
          (sym (c.in_default.ensures _ c.loop-pair.invariant.before));
      before = sym (ap (λ before. slice_get before 0) (before_more c.args.pairs.now c.loop-pair.pair-index _ c.loop-pair-test.true));
    }

pub returns : goal.returns
returns c =
    let r = race_lost c.args.script.now c.args.transcript.now c.args.call c.args.name.now in
    none_after r c.args.pairs.now c.loop-pair.pair-index (first_fault_along r c.args.pairs.now) c.loop-pair.invariant.so_far c.loop-pair-test.false
