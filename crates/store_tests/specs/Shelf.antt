-- A server beside its book.
use Rattle.std.specs.Prelude.{◌≡◌, List, All}
use Rattle.version_seal.specs.Entry.{BookOf, StampOf}
use Rattle.chunk_server.specs.State.{ServerState}
use Rattle.store_tests.specs.Small.{small_code, IsSmall, IsStripeOf}

pub record ShelfOf : Type 0 where
  pub book : BookOf
  pub stamps : List StampOf
  pub server : ServerState

-- server 1 of the book's small code, and versions of one stripe
pub record IsShelf (shelf : ShelfOf) : Type 0 where
  pub small : IsSmall shelf.book
  pub stamps : All (IsStripeOf shelf.book) shelf.stamps
  pub home : shelf.server.book.home ≡ shelf.book.home
  pub number : shelf.server.number ≡ 1
  pub code : shelf.server.book.geometry ≡ small_code
