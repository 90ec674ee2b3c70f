-- The seats that a directory begins with, and that passes leave.
use Rattle.std.specs.Prelude.{ℕ, ◌+◌, List, ◌++◌, map, Option, None}
use Rattle.std.specs.List.{range_with_len}
use Rattle.store_map.specs.declared.actor.Actor.{Actor}
use Rattle.store_map.specs.declared.actor.Actor.TheVariants as actor
use Rattle.store_core.specs.Agreement.{Seat, HeldPass}

-- all numbers unused, and told no point
abbrev pub first_seat : Actor → Seat
first_seat who = record { actor = who; unused = 0; told = None }

abbrev pub client_seat : ℕ → Seat
client_seat i = first_seat (actor.Client i)

abbrev pub repairer_seat : ℕ → Seat
repairer_seat i = first_seat (actor.Repairer i)

-- those of so many clients, then of so many repairers
abbrev pub first_seats : ℕ → ℕ → List Seat
first_seats clients repairers = map client_seat (range_with_len 0 clients) ++ map repairer_seat (range_with_len 0 repairers)

-- the seat after a call that has ended, with the greatest point that its actor was told
abbrev pub seat_left : HeldPass → Option ℕ → Seat
seat_left held told = record { actor = held.pass.actor; unused = held.pass.number + 1; told = told }
