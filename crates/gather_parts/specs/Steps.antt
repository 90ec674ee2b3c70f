-- A step of the gatherings at a server, and a coding between two steps.
use Rattle.std.specs.Prelude.{ℕ, Bool, true, false, nat_lt, List, [], ◌∷◌, ◌++◌, Option, None, Some, if◌then◌else◌}
use Rattle.clay_grid.specs.Shape.{Shape}
use Rattle.store_core.specs.Server.{Server}
use Rattle.run_laws.specs.Stage.{Aim}
use Rattle.gathering.specs.Gathers.{GatherOf, new_gather, stepped as gather_stepped}
use Rattle.gather_parts.specs.Wanted.{Wanted}
use Rattle.gather_parts.specs.Gatherings.{GatheringsOf, bytes_at_work}

-- the server and the gatherings after a step of the one at work
abbrev pub stepped_by : Option GatherOf → GatheringsOf → Bool → Server → Server × GatheringsOf
stepped_by None p short s = (s, p)
stepped_by (Some w) p short s =
    let after : Server × GatherOf × List ℕ = gather_stepped w short s p.takes in
    (after.0, record p { current = Some after.1; takes = after.2 })

-- in which memory was wanting or not
abbrev pub stepped : GatheringsOf → Bool → Server → Server × GatheringsOf
stepped p short s = stepped_by p.current p short s

-- the gathering of the first part that has bytes, and the parts after it
abbrev pub next_of : Shape → List Wanted → Option GatherOf × List Wanted
next_of g [] = (None, [])
next_of g (wanted ∷ left) =
    if nat_lt wanted.part.start wanted.part.end then (Some (new_gather wanted.stamp g (Aim.Range wanted.part)), left) else next_of g left

-- the bytes of the gathering at work are handed over, and the next one begins
abbrev pub handed_on : GatheringsOf → GatheringsOf
handed_on p =
    let next : Option GatherOf × List Wanted = next_of p.book.geometry p.left in
    record p { current = next.0; left = next.1; bytes = p.bytes ++ bytes_at_work p.current }

-- nothing is gathered any more
abbrev pub given_up : GatheringsOf → GatheringsOf
given_up p = record p { current = None; left = []; bytes = [] }

-- after a coding, in which memory was wanting or not
abbrev pub coded : Bool → GatheringsOf → GatheringsOf
coded true p = given_up p
coded false p = handed_on p
