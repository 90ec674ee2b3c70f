-- The stamps of a directory's versions, and the sealer behind them.
use Rattle.std.specs.Prelude.{◌≡◌, List, length}
use Rattle.version_seal.specs.Entry.{BookOf, StampOf}
use Rattle.version_seal.specs.Sealer.{sealer_at}
use Rattle.stripe_stamps.specs.declared.stamp_list.Stamps.TheInside.{Inside}

-- the book of the versions, and their stamps
pub record StampList : Type 0 where
  pub book : BookOf
  pub listed : List StampOf

abbrev pub stamps_in : Inside → StampList
stamps_in a = record { book = a.opening; listed = a.listed.items }

-- the sealer stands behind the last of them: what it sealed was drawn
abbrev pub IsBehind : Inside → Type 0
IsBehind a = a.sealer ≡ sealer_at a.opening (length a.listed.items)
