use Rattle.std.proofs.Common.{◌≡◌, ◌++◌, map, take}
use Rattle.std.specs.List.{flat_map, enumerate_from}
use Rattle.store_core.specs.Directory.{Directory}
use Rattle.store_scrub.specs.Lost.{lost_in, lost_from, places_with}
use Rattle.store_scrub.proofs.scrubbing.add_lost_of.Given as goal

abbrev pub invariant-loop-stripe : goal.invariant-loop-stripe
invariant-loop-stripe l =
    (d : Directory) → map lost_in l.lost.items
    ≡ map lost_in l.fn.lost.items ++ flat_map (lost_from (places_with d l.servers) l.name) (take l.stripe (enumerate_from 0 l.versions))
