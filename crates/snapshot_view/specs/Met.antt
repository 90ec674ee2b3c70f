-- The stripes of an object that meet a range of its bytes, and copies of them.
use Rattle.std.specs.Prelude.{ℕ, ◌-◌, ◌/◌, List, take, drop}
use Rattle.store_map.specs.Limits.{stripes_met}
use Rattle.store_core.specs.Told.{Seen as CoreSeen}
use Rattle.version_seal.specs.Entry.{StampOf}
use Rattle.call_steps.specs.declared.seen.Seen.{Seen}
use Rattle.stripe_stamps.specs.SeenStripes.{seen_in}

-- from the first one on that meets the bytes from start up to end, as many as meet them, by the length of a stripe
abbrev pub met_by : ℕ → ℕ → ℕ → List Seen → List Seen
met_by stripe_len start end stripes = take (stripes_met stripe_len start (end - start)) (drop (start / stripe_len) stripes)

-- what a stripe tells, wherever it lies in memory
abbrev pub told_seen : Seen → CoreSeen × StampOf
told_seen seen = (seen_in seen, seen.stamp)
