use Rattle.std.proofs.Common.{◌≡◌, map, Some}
use Rattle.gathering.proofs.gather_coding.shelved.Given as goal

abbrev pub invariant-loop-chunk : goal.invariant-loop-chunk
invariant-loop-chunk l = l.shelf.items ≡ map Some l.yielded
