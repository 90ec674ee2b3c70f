use Rattle.std.proofs.Common.{◌≡◌, take}
use Rattle.std.specs.List.{flat_map, enumerate_from}
use Rattle.store_scrub.specs.Strays.{strays_at}
use Rattle.store_scrub.proofs.scrubbing.strays_of.Given as goal

abbrev pub invariant-loop-number : goal.invariant-loop-number
invariant-loop-number l = l.strays.items ≡ flat_map (strays_at l.directory.core.versions) (take l.number (enumerate_from 0 l.servers))
