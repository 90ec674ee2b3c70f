-- What becomes of the versions at a draw, a take and a repair.
use Rattle.std.specs.Prelude.{◌≡◌, ℕ, ◌<◌, false, ◌&&◌, nat_eq, List, [], ◌∷◌, length, map, fold, find, get_or, Option, None, Some, option_map}
use Rattle.std.specs.List.{enumerate_from, range_with_len, slice_get}
use Rattle.store_map.specs.declared.actor.Actor.{Actor}
use Rattle.store_map.specs.declared.placement.Placement.{Placement}
use Rattle.store_core.specs.Lists.{change_at}
use Rattle.store_core.specs.AtDirectory.{swept_standing}
use Rattle.store_core.specs.Placements.{placed_anew}
use Rattle.store_core.specs.Look.{set_standing}
use Rattle.store_core.specs.Lookups.{is_superseded_standing, holds_standing}
use Rattle.store_core.specs.Directory.{Version, Pin}
use Rattle.store_core.specs.Directory.{Standing as CoreStanding}
use Rattle.version_table.specs.Table.{Table}

-- a version of another standing, one that became current with these placements of its chunks, and one that is swept where it was taken
abbrev pub version_standing : CoreStanding → Version → Version
version_standing standing version = record version { standing = standing }

abbrev pub version_current : List Placement → Version → Version
version_current row version = record version { placed = row; standing = CoreStanding.Current }

abbrev pub version_swept : Version → Version
version_swept version = record version { standing = swept_standing version.standing }

-- the version that pins name for a stripe, if they name one
abbrev pub base_version : List Pin → ℕ → Option ℕ
base_version pins stripe = option_map (λ pin. pin.version) (find (λ pin. nat_eq stripe pin.stripe) pins)

-- a version that a call with these pins draws, laid over the pinned one of its stripe
abbrev pub drawn_version : Actor → ℕ → List Pin → ℕ → Version
drawn_version who number pins stripe =
    record {
      actor = who;
      number = number;
      stripe = stripe;
      base = base_version pins stripe;
      placed = [];
      standing = CoreStanding.Drawn;
    }

-- one of each of so many stripes from a first one on
abbrev pub drawn_versions : Actor → ℕ → List Pin → ℕ → ℕ → List Version
drawn_versions who number pins first count = map (drawn_version who number pins) (range_with_len first count)

-- the version with this number isn't superseded
abbrev pub IsUnreplaced : List Version → ℕ → Type 0
IsUnreplaced versions number = holds_standing is_superseded_standing (slice_get versions number) ≡ false

-- and there is one
abbrev pub IsThereUnreplaced : List Version → ℕ → Type 0
IsThereUnreplaced versions number = (number < length versions) × IsUnreplaced versions number

-- the least version that is superseded and that nobody pins
abbrev pub first_free : Table → Option ℕ
first_free t =
    option_map (λ entry. entry.0)
    (find (λ entry. is_superseded_standing entry.1.standing && nat_eq (get_or t.pins entry.0 0) 0) (enumerate_from 0 t.listed))

-- the versions, one of them taken
abbrev pub taken_from : Option ℕ → List Version → List Version
taken_from None versions = versions
taken_from (Some version) versions = set_standing CoreStanding.Taken (version ∷ []) versions

-- the versions, where the chunk of one was placed anew at a server
abbrev pub placed_anew_at : ℕ → ℕ → ℕ → List Version → List Version
placed_anew_at server epoch number versions = change_at number (λ version. record version { placed = change_at server (placed_anew epoch) version.placed }) versions

-- the versions, where the chunks of pinned ones were placed anew at a server
abbrev pub placed_anew_by : ℕ → ℕ → List Pin → List Version → List Version
placed_anew_by server epoch pins versions =
    fold (λ versions pin. placed_anew_at server epoch pin.version versions) versions pins
