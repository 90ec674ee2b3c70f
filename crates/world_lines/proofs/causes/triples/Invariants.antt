use Rattle.std.proofs.Common.{◌≡◌, map, take}
use Rattle.store_core.specs.Outcomes.{triple_of}
use Rattle.store_core.specs.Told.{lost_in}
use Rattle.world_lines.proofs.causes.triples.Given as goal

abbrev pub invariant-loop-lost : goal.invariant-loop-lost
invariant-loop-lost l = l.triples ≡ map triple_of (map lost_in (take l.lost-index l.missing))
