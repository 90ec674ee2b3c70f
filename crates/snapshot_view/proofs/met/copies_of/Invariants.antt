use Rattle.std.proofs.Common.{◌≡◌, map, take}
use Rattle.snapshot_view.specs.Met.{told_seen}
use Rattle.snapshot_view.proofs.met.copies_of.Given as goal

abbrev pub invariant-loop-seen : goal.invariant-loop-seen
invariant-loop-seen l = map told_seen l.copies.items ≡ map told_seen (take l.seen-index l.stripes)
