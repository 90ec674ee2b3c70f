-- A stripe that a look sees.
use Rattle.store_core.specs.Told.{Seen as CoreSeen}
use Rattle.call_steps.specs.declared.seen.Seen.{Seen}
use Rattle.std.specs.Prelude.{◌≡◌, List, Some}
use Rattle.std.specs.List.{slice_get}
use Rattle.version_seal.specs.Entry.{StampOf}

-- a pinned stripe as the definitions tell it
abbrev pub seen_in : Seen → CoreSeen
seen_in seen = record { stripe = seen.stripe; version = seen.stamp.version; placed = seen.placed.items }

-- the stamps that are told are the directory's own
abbrev pub IsSeenIn : List StampOf → Seen → Type 0
IsSeenIn stamps seen = slice_get stamps seen.stamp.version ≡ Some seen.stamp
