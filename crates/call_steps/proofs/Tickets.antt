-- A ticket keeps its actor.
use Rattle.std.proofs.Common.{◌≡◌, ℕ, refl}
use Rattle.store_core.specs.Told.{Told}
use Rattle.store_core.specs.Note.{Note}
use Rattle.store_core.specs.Act.{DirectoryStep}
use Rattle.store_core.specs.Agreement.{Seat, HeldPass, ActorToken}
use Rattle.store_core.specs.Tokens.{actor_of, after_look, after_pass_step}
use Rattle.call_steps.specs.TokenAfter.{token_after}

look_stays : (seat : Seat) (number : ℕ) (note : Note) (answer : Told) → actor_of (after_look seat number note answer) ≡ seat.actor
look_stays seat number note (Told.Answer point reply) = refl
look_stays seat number note (Told.Pinned point length_now seen) = refl
look_stays seat number note (Told.Ready base length_now seen) = refl
look_stays seat number note (Told.PinnedStripe seen) = refl
look_stays seat number note answer = refl

pass_stays : (held : HeldPass) (answer : Told) → actor_of (after_pass_step held answer) ≡ held.pass.actor
pass_stays held (Told.Versions versions) = refl
pass_stays held (Told.Done point) = refl
pass_stays held (Told.Changed base newer) = refl
pass_stays held Told.Ended = refl
pass_stays held (Told.Superseded newer) = refl
pass_stays held (Told.Reaped point) = refl
pass_stays held answer = refl

pub token_stays : (token : ActorToken) (number : ℕ) (step : DirectoryStep) (answer : Told) → actor_of (token_after token number step answer) ≡ actor_of token
token_stays (ActorToken.Seated seat) number (DirectoryStep.Look note) answer = look_stays seat number note answer
token_stays (ActorToken.Seated seat) number (DirectoryStep.LookRepair note) answer = look_stays seat number note answer
token_stays (ActorToken.Seated seat) number step answer = refl
token_stays (ActorToken.InCall held) number step answer = pass_stays held answer
