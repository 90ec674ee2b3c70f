-- When a directory is sound.
use Rattle.std.specs.Prelude.{◌≡◌, ◌≢◌, ℕ, ◌<◌, ◌≤◌, ◌⊎◌, [], length, map, get_or, Some, All, AllPairs, IfSome, IsTrue, IsFalse}
use Rattle.std.specs.List.{slice_get}
use Rattle.clay_grid.specs.Shape.{stripe_length}
use Rattle.store_map.specs.Limits.{stripes_met}
use Rattle.store_core.specs.Lists.{is_among}
use Rattle.store_core.specs.Placements.{IsRow}
use Rattle.store_core.specs.Directory.{Object, Standing, Version, Event, Point, Directory}
use Rattle.store_core.specs.Lookups.{same_actor, is_live}
use Rattle.store_core.specs.Replay.{Replays}
use Rattle.store_core.specs.Lengths.{Lengths}
use Rattle.store_core.specs.SoundPasses.{Stands, IsRight, IsLive, HasVersions, IsOfItsCall}

-- the objects' names and lengths
abbrev pub lengths_of : Directory → Lengths
lengths_of d = map (λ object. (object.name, object.length)) d.objects

-- an object has a version for each stripe that its bytes meet, all of them current
pub record HasItsVersions (d : Directory) (object : Object) : Type 0 where
  pub count : length object.versions ≡ stripes_met (stripe_length d.shape) 0 object.length
  pub current : All (Stands d Standing.Current) object.versions

-- no version stands twice in the objects
abbrev pub StandsOnce : Directory → Type 0
StandsOnce d =
    (i j a b : ℕ) (o p : Object) → slice_get d.objects i ≡ Some o → slice_get d.objects j ≡ Some p → a < length o.versions → b < length p.versions →
    get_or o.versions a 0 ≡ get_or p.versions b 0 → (i ≡ j) × (a ≡ b)

-- of one actor's points the call numbers don't fall, and a call has at most one point that is no reap
pub record AreInOrder (p q : Point) : Type 0 where
  pub numbers : IsTrue (same_actor p.actor q.actor) → p.number ≤ q.number
  pub once : IsTrue (same_actor p.actor q.actor) → p.number ≡ q.number → p.event ≢ Event.Reaped → q.event ≡ Event.Reaped

-- a version has a row of placements, or none yet; a drawn one has none, a current one a row
pub record IsPlaced (d : Directory) (version : Version) : Type 0 where
  pub row_or_none : (version.placed ≡ []) ⊎ IsRow d.shape version.placed
  pub current : version.standing ≡ Standing.Current → IsRow d.shape version.placed
  pub drawn : version.standing ≡ Standing.Drawn → version.placed ≡ []

-- what each step at the directory keeps
pub record IsSound (d : Directory) : Type 0 where
  pub history : Replays d.max [] d.points (lengths_of d)
  pub objects : All (HasItsVersions d) d.objects
  pub once : StandsOnce d
  pub points : AllPairs AreInOrder d.points
  pub passes : AllPairs (λ p q. IsFalse (same_actor p.actor q.actor)) d.passes
  pub live : All (λ pass. IsTrue (is_live pass.reaped) → IsLive d pass) d.passes
  pub calls : All (λ pass. IsRight d pass pass.note.kind) d.passes
  pub newest : All (λ pass. All (IsOfItsCall pass) d.points) d.passes
  pub apart : AllPairs (λ p q. All (λ version. IsFalse (is_among version q.drawn)) p.drawn) d.passes
  pub listed : (number : ℕ) → Stands d Standing.Current number → (i : ℕ) × (i < length d.objects) × IfSome (slice_get d.objects i) (λ object. IsTrue (is_among number object.versions))
  pub placed : All (IsPlaced d) d.versions
  pub pinned_placed : All (λ pass. All (λ pin. IfSome (slice_get d.versions pin.version) (λ version. IsRow d.shape version.placed)) pass.pinned) d.passes
  pub versions : All (HasVersions d) d.passes
