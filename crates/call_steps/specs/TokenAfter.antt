-- An actor's ticket while its call's steps change it.
use Rattle.std.specs.Prelude.{◌≡◌, ⊤, ℕ}
use Rattle.store_core.specs.Told.{Told}
use Rattle.store_core.specs.Act.{DirectoryStep}
use Rattle.store_core.specs.Directory.{Directory}
use Rattle.store_core.specs.Agreement.{HeldPass, ActorToken}
use Rattle.store_core.specs.Tokens.{after_look, after_pass_step, MayLook, MayGoOn}

-- after a step of its call with this number at the directory, by the answer
abbrev pub token_after : ActorToken → ℕ → DirectoryStep → Told → ActorToken
token_after (ActorToken.Seated seat) number (DirectoryStep.Look note) answer = after_look seat number note answer
token_after (ActorToken.Seated seat) number (DirectoryStep.LookRepair note) answer = after_look seat number note answer
token_after (ActorToken.Seated seat) number step answer = ActorToken.Seated seat
token_after (ActorToken.InCall held) number step answer = after_pass_step held answer

-- its actor may make the step, as one of its call with this number
abbrev pub MayMake : Directory → ActorToken → ℕ → DirectoryStep → Type 0
MayMake d (ActorToken.Seated seat) number step = MayLook seat number step
MayMake d (ActorToken.InCall held) number step = (held.pass.number ≡ number) × MayGoOn d held step

-- the actor is in no call
abbrev pub IsSeated : ActorToken → Type 0
IsSeated (ActorToken.Seated seat) = ⊤
IsSeated (ActorToken.InCall held) = ⊥

-- of the pass that it holds, where it holds one
abbrev pub IfInCall : ActorToken → (HeldPass → Type 0) → Type 0
IfInCall (ActorToken.Seated seat) holds = ⊤
IfInCall (ActorToken.InCall held) holds = holds held
