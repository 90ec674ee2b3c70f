-- The tickets that come back with the answers.
use Rattle.std.specs.Prelude.{Result, Ok, Err}
use Rattle.store_core.specs.Agreement.{Seat, HeldPass, ActorToken}
use Rattle.stripe_dir.specs.declared.directory_answers.Look.{Look}
use Rattle.stripe_dir.specs.declared.directory_answers.Look.TheVariants as look
use Rattle.stripe_dir.specs.declared.directory_answers.RepairLook.{RepairLook}
use Rattle.stripe_dir.specs.declared.directory_answers.RepairLook.TheVariants as repair
use Rattle.stripe_dir.specs.declared.directory_answers.Drawn.{Drawn}
use Rattle.stripe_dir.specs.declared.directory_answers.Drawn.TheVariants as drawn
use Rattle.stripe_dir.specs.declared.directory_answers.Committed.{Committed}
use Rattle.stripe_dir.specs.declared.directory_answers.Committed.TheVariants as committed
use Rattle.stripe_dir.specs.declared.directory_answers.Ended.{Ended}
use Rattle.stripe_dir.specs.declared.directory_answers.Ended.TheVariants as ended
use Rattle.stripe_dir.specs.declared.directory_answers.Confirmed.{Confirmed}
use Rattle.stripe_dir.specs.declared.directory_answers.Confirmed.TheVariants as confirmed

-- the ticket after a client's look
abbrev pub token_look : Look Seat HeldPass → ActorToken
token_look (look.Answer seat point reply) = ActorToken.Seated seat
token_look (look.Pinned pass point length stripes) = ActorToken.InCall pass
token_look (look.Ready pass looked_at length stripes) = ActorToken.InCall pass

-- after a repairer's look
abbrev pub token_repair_look : RepairLook Seat HeldPass → ActorToken
token_repair_look (repair.NoSuch seat) = ActorToken.Seated seat
token_repair_look (repair.Pinned pass seen) = ActorToken.InCall pass

-- after a draw
abbrev pub token_drawn : Drawn Seat HeldPass → ActorToken
token_drawn (drawn.Versions pass stamps) = ActorToken.InCall pass
token_drawn (drawn.Reaped seat at) = ActorToken.Seated seat

-- after a commit
abbrev pub token_committed : Committed Seat → ActorToken
token_committed (committed.Done seat point) = ActorToken.Seated seat
token_committed (committed.Changed seat looked_at newer) = ActorToken.Seated seat
token_committed (committed.Reaped seat at) = ActorToken.Seated seat

-- after the end of a pass
abbrev pub token_ended : Ended Seat → ActorToken
token_ended (ended.Ended seat) = ActorToken.Seated seat
token_ended (ended.Reaped seat at) = ActorToken.Seated seat

-- after a confirmation
abbrev pub token_confirmed : Confirmed Seat HeldPass → ActorToken
token_confirmed (confirmed.Current pass) = ActorToken.InCall pass
token_confirmed (confirmed.Superseded seat newer) = ActorToken.Seated seat
token_confirmed (confirmed.Reaped seat at) = ActorToken.Seated seat

-- where memory was wanting the seat comes back
abbrev pub token_or_seat : {A : Type 0} → (A → ActorToken) → Result A Seat → ActorToken
token_or_seat token (Ok answer) = token answer
token_or_seat token (Err seat) = ActorToken.Seated seat

-- where memory was wanting the pass comes back
abbrev pub token_or_pass : {A : Type 0} → (A → ActorToken) → Result A HeldPass → ActorToken
token_or_pass token (Ok answer) = token answer
token_or_pass token (Err pass) = ActorToken.InCall pass
