-- The stripes that looks pin and draws touch, by the length of a stripe.
use Rattle.std.specs.Prelude.{◌≡◌, ℕ, ◌+◌, ◌*◌, ◌-◌, ◌/◌, Bool, ◌||◌, nat_lt, min, List, [], map, get_or, filter, All}
use Rattle.std.specs.List.{range_with_len, slice_get}
use Rattle.store_map.specs.Limits.{stripes_met}
use Rattle.store_core.specs.Told.{Seen}
use Rattle.store_core.specs.Note.{Note, Kind}
use Rattle.store_core.specs.Directory.{Version, Pin, Pass}
use Rattle.store_core.specs.Look.{placed_of}
use Rattle.version_table.specs.Known.{IsKnown}
use Rattle.version_table.specs.TableSteps.{drawn_versions}
use Rattle.call_steps.specs.declared.seen.Seen.{Seen as SeenStripe}
use Rattle.stripe_stamps.specs.SeenStripes.{seen_in}

-- whether a stripe holds an old byte outside the bytes from start up to end
abbrev pub keeps : ℕ → ℕ → ℕ → ℕ → ℕ → Bool
keeps stripe_len length start end number = nat_lt (number * stripe_len) (min start length) || nat_lt end (min ((number + 1) * stripe_len) length)

-- the stripes that meet the bytes from start up to end
abbrev pub between : ℕ → ℕ → ℕ → List ℕ
between stripe_len start end = range_with_len (start / stripe_len) (stripes_met stripe_len start (end - start))

-- where a read ends
abbrev pub read_to : ℕ → ℕ → ℕ → ℕ
read_to offset count length = min (offset + count) length

-- the stripes of an object of some length that a call pins
abbrev pub pinned_of : Kind → ℕ → ℕ → ℕ → ℕ → List ℕ
pinned_of Kind.Get stripe_len offset count length = between stripe_len offset length
pinned_of Kind.ReadAt stripe_len offset count length = between stripe_len offset (read_to offset count length)
pinned_of Kind.Write stripe_len offset count length = filter (keeps stripe_len length offset (offset + count)) (between stripe_len offset (offset + count))
pinned_of _ stripe_len offset count length = []

-- a stripe as a look tells it, by the versions and by those that stand in its object
abbrev pub seen_by : List Version → List ℕ → ℕ → Seen
seen_by listed held stripe = record { stripe = stripe; version = get_or held stripe 0; placed = placed_of (slice_get listed (get_or held stripe 0)) }

-- what a pass keeps of it
abbrev pub pin_by : List ℕ → ℕ → Pin
pin_by held stripe = record { stripe = stripe; version = get_or held stripe 0 }

-- each of these stripes has a version that is there and isn't swept
abbrev pub AreThere : List Version → List ℕ → List ℕ → Type 0
AreThere listed held stripes = All (λ stripe. IsKnown listed (get_or held stripe 0)) stripes

-- these are told of the stripes
abbrev pub AreTold : List Version → List ℕ → List ℕ → List SeenStripe → Type 0
AreTold listed held stripes seen = map seen_in seen ≡ map (seen_by listed held) stripes

-- the first stripe that a put's or a write's bytes touch, and how many they touch
abbrev pub first_touched : ℕ → Note → ℕ
first_touched stripe_len note = note.offset / stripe_len

abbrev pub count_touched : ℕ → Note → ℕ
count_touched stripe_len note = stripes_met stripe_len note.offset note.length

-- the versions that its pass draws for them
abbrev pub versions_touched : ℕ → Pass → List Version
versions_touched stripe_len pass =
    drawn_versions pass.actor pass.number pass.pinned (first_touched stripe_len pass.note) (count_touched stripe_len pass.note)
