-- The fields as the record.
use Rattle.dir_walks.specs.Stores.{StoreOf, IsStore}
use Rattle.dir_walks.specs.declared.test_store.Store.TheInside.{Inside}

abbrev pub store_in : Inside → StoreOf
store_in a = record { book = a.book.now; sealed = a.directory; first = a.first }

abbrev pub IsStoreIn : Inside → Type 0
IsStoreIn a = IsStore (store_in a)
