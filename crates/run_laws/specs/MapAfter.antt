-- The plain map after the calls at some points.
use Rattle.std.specs.Prelude.{ℕ, List, [], fold}
use Rattle.store_map.specs.PlainMap.{Objects}
use Rattle.store_core.specs.Calls.{Calls}
use Rattle.store_core.specs.Directory.{Point}
use Rattle.store_core.specs.History.{applied}

-- from the empty map on, each call at its point
abbrev pub map_by : Calls → ℕ → List Point → Objects
map_by calls max points = fold (λ objects point. (applied max objects point.event (calls point.actor point.number)).0) [] points
