use Rattle.share_run.specs.Names.{AreListed}
use Rattle.share_run.proofs.share_names.note_shares.Given as goal

abbrev pub invariant-loop-entry : goal.invariant-loop-entry
invariant-loop-entry g l = record {
  can_next : (goal.iterator-loop-entry g).can_next l.entry-iterator;
  is_finite : (goal.iterator-loop-entry g).is_finite l.entry-iterator;
  listed : AreListed l.listed;
}
