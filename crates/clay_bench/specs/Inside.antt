-- The fields as the record.
use Rattle.clay_bench.specs.Racks.{RackOf, IsRack}
use Rattle.clay_bench.specs.declared.rack.Rack.TheInside.{Inside}

abbrev pub rack_in : Inside → RackOf
rack_in a = record { server = a.server; chunks = a.chunks.now; waiting = a.waiting.items }

abbrev pub IsRackIn : Inside → Type 0
IsRackIn a = IsRack (rack_in a)
