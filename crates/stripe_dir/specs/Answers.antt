-- What the answers tell.
use Rattle.std.specs.Prelude.{Result, Ok, Err, map, option_map}
use Rattle.store_core.specs.Told.{Told}
use Rattle.stripe_dir.specs.declared.directory_answers.Look.{Look}
use Rattle.stripe_dir.specs.declared.directory_answers.Look.TheVariants as look
use Rattle.stripe_dir.specs.declared.directory_answers.RepairLook.{RepairLook}
use Rattle.stripe_dir.specs.declared.directory_answers.RepairLook.TheVariants as repair
use Rattle.stripe_dir.specs.declared.directory_answers.Drawn.{Drawn}
use Rattle.stripe_dir.specs.declared.directory_answers.Drawn.TheVariants as drawn
use Rattle.stripe_dir.specs.declared.directory_answers.Committed.{Committed}
use Rattle.stripe_dir.specs.declared.directory_answers.Committed.TheVariants as committed
use Rattle.stripe_dir.specs.declared.directory_answers.Ended.{Ended}
use Rattle.stripe_dir.specs.declared.directory_answers.Ended.TheVariants as ended
use Rattle.stripe_dir.specs.declared.directory_answers.Confirmed.{Confirmed}
use Rattle.stripe_dir.specs.declared.directory_answers.Confirmed.TheVariants as confirmed
use Rattle.stripe_stamps.specs.SeenStripes.{seen_in}

-- what a client's look tells
abbrev pub told_look : {S P : Type 0} → Look S P → Told
told_look (look.Answer seat point reply) = Told.Answer point.0 reply
told_look (look.Pinned pass point length stripes) = Told.Pinned point.0 length (map seen_in stripes.items)
told_look (look.Ready pass looked_at length stripes) = Told.Ready (option_map (λ point. point.0) looked_at) length (map seen_in stripes.items)

-- what a repairer's look tells
abbrev pub told_repair_look : {S P : Type 0} → RepairLook S P → Told
told_repair_look (repair.NoSuch seat) = Told.NoSuch
told_repair_look (repair.Pinned pass seen) = Told.PinnedStripe (seen_in seen)

-- what a draw tells
abbrev pub told_drawn : {S P : Type 0} → Drawn S P → Told
told_drawn (drawn.Versions pass stamps) = Told.Versions (map (λ stamp. stamp.version) stamps.items)
told_drawn (drawn.Reaped seat at) = Told.Reaped at.0

-- what a commit tells
abbrev pub told_committed : {S : Type 0} → Committed S → Told
told_committed (committed.Done seat point) = Told.Done point.0
told_committed (committed.Changed seat looked_at newer) = Told.Changed looked_at.0 newer.0
told_committed (committed.Reaped seat at) = Told.Reaped at.0

-- what the end of a pass tells
abbrev pub told_ended : {S : Type 0} → Ended S → Told
told_ended (ended.Ended seat) = Told.Ended
told_ended (ended.Reaped seat at) = Told.Reaped at.0

-- what a confirmation tells
abbrev pub told_confirmed : {S P : Type 0} → Confirmed S P → Told
told_confirmed (confirmed.Current pass) = Told.Current
told_confirmed (confirmed.Superseded seat newer) = Told.Superseded newer.0
told_confirmed (confirmed.Reaped seat at) = Told.Reaped at.0

-- or that memory was wanting
abbrev pub told_or_short : {A E : Type 0} → (A → Told) → Result A E → Told
told_or_short told (Ok answer) = told answer
told_or_short told (Err token) = Told.Short

-- of a look, a rebuild's look and a draw
abbrev pub told_by_look : {S P E : Type 0} → Result (Look S P) E → Told
told_by_look look = told_or_short told_look look

abbrev pub told_by_repair_look : {S P E : Type 0} → Result (RepairLook S P) E → Told
told_by_repair_look look = told_or_short told_repair_look look

abbrev pub told_by_draw : {S P E : Type 0} → Result (Drawn S P) E → Told
told_by_draw drawn = told_or_short told_drawn drawn
