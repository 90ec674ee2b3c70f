use Rattle.std.proofs.Common.{◌≡◌, ◌++◌, not, map, filter}
use Rattle.std.specs.List.{range_with_len}
use Rattle.store_core.specs.Directory.{Directory}
use Rattle.session_rules.specs.Scrubs.{holds_version}
use Rattle.store_scrub.specs.Lost.{lost_in, places_with}
use Rattle.store_scrub.proofs.scrubbing.add_lost.Given as goal

abbrev pub invariant-loop-number : goal.invariant-loop-number
invariant-loop-number l =
    (d : Directory) → map lost_in l.lost.items
    ≡ map lost_in l.fn.lost.items ++ map (λ server. record { name = l.name; stripe = l.stripe; server = server })
    (filter (λ server. not (holds_version (places_with d l.servers) l.version.0 server)) (range_with_len 0 l.number))
