-- Actors that are being seated.
use Rattle.std.specs.Prelude.{◌≡◌, ℕ, ◌-◌, ◌<◌, List, length, take}
use Rattle.store_map.specs.declared.script.Script.{Script}
use Rattle.store_core.specs.Agreement.{Seat}
use Rattle.stripe_dir.specs.Seats.{first_seats}
use Rattle.run_seats.specs.Places.{IsStore}
use Rattle.store_run.specs.Crew.{IsCrew}
use Rattle.store_run.specs.Dealt.{IsDeck, turns_of}
use Rattle.store_run.specs.declared.seating.Seating.{Seating}

-- so many actors are seated, those of the numbers from one on, and these seats are left
pub record IsSeating (from count : ℕ) (seats : List Seat) (seating : Seating) : Type 0 where
  pub store_is : IsStore seating.store.now
  pub some : 0 < length seating.workers.items
  pub seats_are : seating.seats.items ≡ seats
  pub deck : IsDeck seating.store.now from seating.deck
  pub crew : IsCrew seating.store.now from count seating.workers.items

-- the first seats of a script's clients and repairers, in the order of their numbers
abbrev pub seats_of : Script → List Seat
seats_of script = first_seats (length script.clients) (length script.repairers)

-- all actors of the numbers from one on are seated, and the seats of those below it are left
abbrev pub IsSeatedFrom : ℕ → Seating → Type 0
IsSeatedFrom from seating = IsSeating from (turns_of seating.store.now.script.now - from) (take from (seats_of seating.store.now.script.now)) seating
