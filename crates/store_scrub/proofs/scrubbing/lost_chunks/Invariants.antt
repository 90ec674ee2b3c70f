use Rattle.std.proofs.Common.{◌≡◌, map, take}
use Rattle.std.specs.List.{flat_map}
use Rattle.store_core.specs.Directory.{Directory}
use Rattle.session_rules.specs.Scrubs.{lost_of}
use Rattle.store_scrub.specs.Lost.{lost_in, places_with}
use Rattle.store_scrub.proofs.scrubbing.lost_chunks.Given as goal

abbrev pub invariant-loop-object : goal.invariant-loop-object
invariant-loop-object l =
    (d : Directory) → map lost_in l.lost.items
    ≡ flat_map (λ p. lost_of (places_with d l.servers) (p.0.now, p.1.now.versions)) (take l.object-index l.object-items)
