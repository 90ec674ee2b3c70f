-- A directory with its client.
use Rattle.std.specs.Prelude.{◌≡◌, None}
use Rattle.store_map.specs.declared.actor.Actor.TheVariants as actor
use Rattle.version_seal.specs.Entry.{BookOf}
use Rattle.stripe_stamps.specs.Sealed.{Sealed}
use Rattle.dir_walks.specs.Callers.{CallerOf, IsRight}

pub record StoreOf : Type 0 where
  pub book : BookOf
  pub sealed : Sealed
  pub first : CallerOf

-- the directory is of the book, and agrees with the client
pub record IsStore (store : StoreOf) : Type 0 where
  pub same_book : store.book ≡ store.sealed.book
  pub free : store.book.script ≡ None
  pub first : IsRight store.sealed store.first
  pub is_first : store.first.who ≡ actor.Client 0
