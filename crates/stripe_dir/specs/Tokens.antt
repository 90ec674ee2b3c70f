-- The tickets of actors, as the definitions see them.
use Rattle.store_core.specs.Agreement.{Seat, HeldPass}
use Rattle.stripe_dir.specs.declared.tokens.Seat.TheInside.{Inside as SeatFields}
use Rattle.stripe_dir.specs.declared.tokens.Pass.TheInside.{Inside as PassFields}

abbrev pub seat_in : SeatFields → Seat
seat_in a = record { actor = a.actor; unused = a.unused; told = a.told }

-- the pass as it was when the directory last spoke of it
abbrev pub held_in : PassFields → HeldPass
held_in a = record { pass = record (a.entry.value.pass) { actor = a.actor }; told = a.told }
