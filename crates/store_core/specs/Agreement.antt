-- When a directory agrees with an actor's ticket: with a seat, whose actor is in no call, or with a pass.
use Rattle.std.specs.Prelude.{◌≡◌, ◌⊎◌, ℕ, ◌<◌, List, length, Option, None, Some, All, IfSome, MatchOption, IsTrue, ⊤}
use Rattle.store_map.specs.declared.actor.Actor.{Actor}
use Rattle.store_core.specs.Lists.{is_among}
use Rattle.store_core.specs.Note.{Kind}
use Rattle.store_core.specs.Directory.{Object, Pass, Point, Directory}
use Rattle.store_core.specs.Lookups.{same_actor, find_object, pass_of, last_change}

-- the actor, the least call number that is still unused, and the greatest point that the actor was told
pub record Seat : Type 0 where
  pub actor : Actor
  pub unused : ℕ
  pub told : Option ℕ

-- a pass as its actor knows it, with the greatest point that the actor was told
pub record HeldPass : Type 0 where
  pub pass : Pass
  pub told : Option ℕ

-- what an actor has of its own: a seat, or the pass of its call
pub data ActorToken : Type 0 where
  Seated : (seat : Seat) → ActorToken
  InCall : (held : HeldPass) → ActorToken

-- the point that was told stands in the history
abbrev pub IsTold : Directory → Option ℕ → Type 0
IsTold d told = IfSome told (λ point. point < length d.points)

-- no call number of an actor's points is this one or a later one
abbrev pub AreBelow : Actor → ℕ → List Point → Type 0
AreBelow who number points = All (λ point. IsTrue (same_actor point.actor who) → point.number < number) points

-- the actor is in no pass, its unused numbers are unused, and the point that it was told is there
pub record AgreesWithSeat (d : Directory) (seat : Seat) : Type 0 where
  pub no_pass : pass_of seat.actor d ≡ None
  pub numbers : AreBelow seat.actor seat.unused d.points
  pub told : IsTold d seat.told

-- a later point than the one that was told
abbrev pub IsLater : Option ℕ → ℕ → Type 0
IsLater told point = IfSome told (λ earlier. earlier < point)

-- the last change of a write's object is its base
abbrev pub IsBase : List Point → Pass → Type 0
IsBase points pass = (point : ℕ) × (last_change pass.note.name points ≡ Some point) × (pass.base ≡ Some point)

-- the last change of the object is later than the point that was told
abbrev pub WasChanged : List Point → List ℕ → Option ℕ → Type 0
WasChanged points name told = (point : ℕ) × (last_change name points ≡ Some point) × IsLater told point

-- a version stands in the object with this name
abbrev pub IsInObject : List Object → List ℕ → ℕ → Type 0
IsInObject objects name version = (object : Object) × (find_object name objects ≡ Some object) × IsTrue (is_among version object.versions)

-- of a pass that isn't reaped, by the kind of its call: where a write's object or a rebuild's version was changed since its look, that was after the point that was told; and a write's number is still unused
abbrev pub KeepsOrder : Kind → Directory → Pass → Option ℕ → Type 0
KeepsOrder Kind.Write d pass told = AreBelow pass.actor pass.number d.points × (IsBase d.points pass ⊎ WasChanged d.points pass.note.name told)
KeepsOrder Kind.Rebuild d pass told =
    All (λ pin. IsInObject d.objects pass.note.name pin.version ⊎ WasChanged d.points pass.note.name told) pass.pinned
KeepsOrder kind d pass told = ⊤

-- the directory holds the pass as its actor knows it, with or without a reap point; that comes after the point that was told
pub record AgreesWithPass (d : Directory) (held : HeldPass) : Type 0 where
  pub reap : Option ℕ
  pub is_pass : pass_of held.pass.actor d ≡ Some (record (held.pass) { reaped = reap })
  pub live : held.pass.reaped ≡ None
  pub told : IsTold d held.told
  pub order : MatchOption reap (KeepsOrder held.pass.note.kind d held.pass held.told) (λ point. IsLater held.told point × (point < length d.points))

-- with either ticket
abbrev pub Agrees : Directory → ActorToken → Type 0
Agrees d (ActorToken.Seated seat) = AgreesWithSeat d seat
Agrees d (ActorToken.InCall held) = AgreesWithPass d held
