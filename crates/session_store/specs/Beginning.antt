-- A store before its first request.
use Rattle.std.specs.Prelude.{◌≡◌, ◌<◌, ◌+◌, ◌^◌, ℕ, List, map, None}
use Rattle.std.specs.List.{range_with_len}
use Rattle.clay_grid.specs.Shape.{Shape, chunk_count, stripe_length}
use Rattle.clay_grid.specs.Limits.{IsGeometry}
use Rattle.store_core.specs.Agreement.{Seat, ActorToken}
use Rattle.version_seal.specs.Entry.{IsBookFor}
use Rattle.chunk_server.specs.State.{empty_server}
use Rattle.stripe_stamps.specs.Sealed.{new_sealed}
use Rattle.stripe_dir.specs.Seats.{client_seat, first_seats}
use Rattle.session_rules.specs.State.{first_state}
use Rattle.session_store.specs.declared.places.SessionPlaces.{SessionPlaces}
use Rattle.session_store.specs.Stored.{StoreOf}
use Rattle.session_store.specs.Standing.{StandsAt}
use Rattle.session_store.specs.Kept.{IsStore}

-- of this code and with objects of at most so many bytes; it stands at the first state
pub record IsFirst (g : Shape) (max : ℕ) (store : StoreOf) : Type 0 where
  pub geometry : store.geometry ≡ g
  pub most : store.max ≡ max
  pub none : store.served ≡ 0
  pub stands : StandsAt store (first_state g)
  pub kept : IsStore store

-- new places of this code
pub record AreNew (g : Shape) (max : ℕ) (p : SessionPlaces) : Type 0 where
  pub code : IsGeometry g
  pub wide : 0 < stripe_length g
  pub small : max < 2 ^ 32
  pub book : IsBookFor g None p.book
  pub directory : p.directory ≡ new_sealed p.book max
  pub servers : p.servers.items ≡ map (λ number. empty_server number p.book) (range_with_len 0 (chunk_count g))

-- the seats of a client and so many readers, of a repairer and of a healer
abbrev pub session_seats : ℕ → List Seat
session_seats readers = first_seats (readers + 1) 2

-- the readers' tickets
abbrev pub reader_tickets : ℕ → List ActorToken
reader_tickets count = map (λ i. ActorToken.Seated (client_seat i)) (range_with_len 1 count)
