-- Agreement goes on: each step leaves the directory in agreement with the ticket that it gives back, and with every other actor's.
use Rattle.std.specs.Prelude.{◌≡◌, ◌⊎◌, ℕ, ◌<◌, Bool, false, None, Some, All, IfSome}
use Rattle.clay_grid.specs.Shape.{Shape, stripe_length}
use Rattle.store_map.specs.declared.actor.Actor.{Actor}
use Rattle.store_core.specs.Told.{Told}
use Rattle.store_core.specs.Note.{Note, Kind}
use Rattle.store_core.specs.Act.{DirectoryStep}
use Rattle.store_core.specs.Directory.{Directory, new_directory}
use Rattle.store_core.specs.Lookups.{same_actor, pass_of, is_current}
use Rattle.store_core.specs.AtDirectory.{at_directory}
use Rattle.store_core.specs.Conditions.{MayStep}
use Rattle.store_core.specs.Sound.{IsSound}
use Rattle.store_core.specs.Agreement.{Seat, HeldPass, ActorToken, IsLater, WasChanged, AgreesWithSeat, AgreesWithPass, Agrees}
use Rattle.store_core.specs.Tokens.{actor_of, told_of, after_look, after_pass_step, MayLook, MayGoOn}

-- the ticket that is given back agrees, and what it tells is what was told before, or a later point
pub record GoesOn (after : Directory) (before now : ActorToken) : Type 0 where
  pub agrees : Agrees after now
  pub later : (told_of now ≡ told_of before) ⊎ IfSome (told_of now) (IsLater (told_of before))

-- what a ticket's actor does next may be done; a rebuild's version that isn't current was changed after the point that was told
pub record StepsMayBeMade : Type 0 where
  pub look :
      (seat : Seat) (number : ℕ) (step : DirectoryStep) (d : Directory) → AgreesWithSeat d seat → MayLook seat number step → MayStep d seat.actor number step
  pub on_pass :
      (held : HeldPass) (step : DirectoryStep) (d : Directory) → AgreesWithPass d held → MayGoOn d held step → MayStep d held.pass.actor held.pass.number step
  pub lost :
      (held : HeldPass) (d : Directory) → IsSound d → AgreesWithPass d held → held.pass.note.kind ≡ Kind.Rebuild → pass_of held.pass.actor d ≡ Some held.pass →
      All (λ pin. is_current d pin.version ≡ false → WasChanged d.points held.pass.note.name held.told) held.pass.pinned

-- the first directory agrees with seats whose numbers are all unused; after that agreement goes on
pub record AgreementGoesOn : Type 0 where
  pub first : (g : Shape) (max : ℕ) (who : Actor) → AgreesWithSeat (new_directory g max) (record { actor = who; unused = 0; told = None })
  pub look :
      (short : Bool) (seat : Seat) (number : ℕ) (note : Note) (d : Directory) → 0 < stripe_length d.shape → IsSound d → AgreesWithSeat d seat →
      MayLook seat number (DirectoryStep.Look note) →
      let after : Directory × Told = at_directory short seat.actor number (DirectoryStep.Look note) d in
      GoesOn after.0 (ActorToken.Seated seat) (after_look seat number note after.1)
  pub look_repair :
      (short : Bool) (seat : Seat) (number : ℕ) (note : Note) (d : Directory) → AgreesWithSeat d seat →
      MayLook seat number (DirectoryStep.LookRepair note) →
      let after : Directory × Told = at_directory short seat.actor number (DirectoryStep.LookRepair note) d in
      GoesOn after.0 (ActorToken.Seated seat) (after_look seat number note after.1)
  pub on_pass :
      (short : Bool) (held : HeldPass) (step : DirectoryStep) (d : Directory) → IsSound d → AgreesWithPass d held → MayGoOn d held step →
      let after : Directory × Told = at_directory short held.pass.actor held.pass.number step d in
      GoesOn after.0 (ActorToken.InCall held) (after_pass_step held after.1)
  pub others :
      (short : Bool) (who : Actor) (number : ℕ) (step : DirectoryStep) (d : Directory) (token : ActorToken) → same_actor who (actor_of token) ≡ false →
      Agrees d token → Agrees (at_directory short who number step d).0 token
