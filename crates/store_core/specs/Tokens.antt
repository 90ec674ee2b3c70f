-- Which ticket an actor has after its step at the directory, and when it may make one.
use Rattle.std.specs.Prelude.{◌≡◌, ◌⊎◌, ℕ, ◌+◌, ◌<◌, ◌≤◌, List, [], ◌∷◌, map, Option, None, Some, ⊤}
use Rattle.clay_grid.specs.Shape.{chunk_count}
use Rattle.store_map.specs.declared.actor.Actor.{Actor}
use Rattle.store_core.specs.Told.{Told, Seen}
use Rattle.store_core.specs.Note.{Note, Kind}
use Rattle.store_core.specs.Act.{DirectoryStep}
use Rattle.store_core.specs.Directory.{Directory}
use Rattle.store_core.specs.Look.{pin_of}
use Rattle.store_core.specs.Conditions.{IsOfClient, IsOfRepairer, IsPrepared}
use Rattle.store_core.specs.Agreement.{Seat, HeldPass, ActorToken}

-- whose ticket it is
abbrev pub actor_of : ActorToken → Actor
actor_of (ActorToken.Seated seat) = seat.actor
actor_of (ActorToken.InCall held) = held.pass.actor

-- the greatest point that its actor was told
abbrev pub told_of : ActorToken → Option ℕ
told_of (ActorToken.Seated seat) = seat.told
told_of (ActorToken.InCall held) = held.told

-- the pass of a call that begins
abbrev pub begun_by : Seat → ℕ → Note → List Seen → Option ℕ → Option ℕ → ActorToken
begun_by seat number note seen base told =
    ActorToken.InCall
    (record {
      pass = record { actor = seat.actor; number = number; note = note; pinned = map pin_of seen; drawn = []; base = base; reaped = None };
      told = told;
    })

-- the ticket after a look, by its answer
abbrev pub after_look : Seat → ℕ → Note → Told → ActorToken
after_look seat number note (Told.Answer point reply) = ActorToken.Seated (record { actor = seat.actor; unused = number + 1; told = Some point })
after_look seat number note (Told.Pinned point length_now seen) = begun_by seat number note seen None (Some point)
after_look seat number note (Told.Ready base length_now seen) = begun_by seat number note seen base seat.told
after_look seat number note (Told.PinnedStripe seen) = begun_by seat number note (seen ∷ []) None seat.told
after_look seat number note answer = ActorToken.Seated seat

-- the seat after a pass
abbrev pub seat_after : HeldPass → ℕ → Option ℕ → ActorToken
seat_after held unused told = ActorToken.Seated (record { actor = held.pass.actor; unused = unused; told = told })

-- the ticket after a step on a pass, by its answer; a write that was overtaken may use its number once more
abbrev pub after_pass_step : HeldPass → Told → ActorToken
after_pass_step held (Told.Versions versions) = ActorToken.InCall (record held { pass = record (held.pass) { drawn = versions } })
after_pass_step held (Told.Done point) = seat_after held (held.pass.number + 1) (Some point)
after_pass_step held (Told.Changed base newer) = seat_after held held.pass.number (Some newer)
after_pass_step held Told.Ended = seat_after held (held.pass.number + 1) held.told
after_pass_step held (Told.Superseded newer) = seat_after held (held.pass.number + 1) (Some newer)
after_pass_step held (Told.Reaped point) = seat_after held (held.pass.number + 1) (Some point)
after_pass_step held answer = ActorToken.InCall held

-- with a seat an actor may begin a call of its own under an unused number
abbrev pub MayLook : Seat → ℕ → DirectoryStep → Type 0
MayLook seat number (DirectoryStep.Look note) = (seat.unused ≤ number) × IsOfClient seat.actor note
MayLook seat number (DirectoryStep.LookRepair note) = (seat.unused ≤ number) × IsOfRepairer seat.actor note
MayLook seat number step = ⊥

-- the pass is that of a put or a write
abbrev pub IsToWrite : HeldPass → Type 0
IsToWrite held = (held.pass.note.kind ≡ Kind.Put) ⊎ (held.pass.note.kind ≡ Kind.Write)

-- with a pass it may go on with its call
abbrev pub MayGoOn : Directory → HeldPass → DirectoryStep → Type 0
MayGoOn d held DirectoryStep.Draw = IsToWrite held × (held.pass.drawn ≡ [])
MayGoOn d held (DirectoryStep.Commit placed) = IsToWrite held × IsPrepared d held.pass placed
MayGoOn d held DirectoryStep.End = ⊤
MayGoOn d held DirectoryStep.Confirm = held.pass.note.kind ≡ Kind.Rebuild
MayGoOn d held (DirectoryStep.Repaired server epoch) = (held.pass.note.kind ≡ Kind.Rebuild) × (server < chunk_count d.shape)
MayGoOn d held step = ⊥
