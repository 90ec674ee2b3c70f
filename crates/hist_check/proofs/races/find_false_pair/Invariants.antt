use Rattle.std.proofs.Common.{◌≡◌, take, drop}
use Rattle.std.specs.Prelude.{reverse, slice_get}
use Rattle.hist_rules.specs.First.{first_fault_after, first_fault_along}
use Rattle.hist_rules.specs.LostRaces.{race_lost}
use Rattle.hist_check.proofs.races.find_false_pair.Given as goal

abbrev pub invariant-loop-pair : goal.invariant-loop-pair
invariant-loop-pair l = record {
  so_far :
      first_fault_after (race_lost l.script l.transcript l.call l.name) (reverse (take l.pair-index l.pairs)) (drop l.pair-index l.pairs)
      ≡ first_fault_along (race_lost l.script l.transcript l.call l.name) l.pairs;
  before : l.before ≡ slice_get (reverse (take l.pair-index l.pairs)) 0;
}
