-- When a pass of a sound directory is right.
use Rattle.std.specs.Prelude.{◌≡◌, ◌≢◌, ℕ, ◌+◌, ◌<◌, ◌≤◌, ◌⊎◌, [], length, take, Some, All, AllPairs, IfSome, IsTrue}
use Rattle.std.specs.List.{slice_get}
use Rattle.store_map.specs.declared.reply.Reply.TheVariants as reply
use Rattle.store_core.specs.Note.{Note, Kind}
use Rattle.store_core.specs.Directory.{Standing, Pass, Event, Point, Directory}
use Rattle.store_core.specs.Lookups.{same_actor, find_object, last_change}
use Rattle.store_core.specs.PassSteps.{touched}
use Rattle.store_core.specs.Replay.{lengths_after}
use Rattle.store_core.specs.Lengths.{apply_length}

-- the version with this number has such a standing
abbrev pub Stands : Directory → Standing → ℕ → Type 0
Stands d standing number = IfSome (slice_get d.versions number) (λ version. version.standing ≡ standing) × (number < length d.versions)

-- the map replies ok to a call after the first so many points
abbrev pub IsAllowed : Directory → Note → ℕ → Type 0
IsAllowed d note count = (apply_length d.max note (lengths_after d.max (take count d.points))).1 ≡ reply.Done

-- where its object wasn't changed since, the pinned versions are the current ones of their stripes
abbrev pub PinsCurrent : Directory → Pass → Type 0
PinsCurrent d pass =
    pass.base ≡ last_change pass.note.name d.points →
    All (λ pin. IfSome (find_object pass.note.name d.objects) (λ object. slice_get object.versions pin.stripe ≡ Some pin.version)) pass.pinned

-- a write has a base, a point of the history, and is allowed after it
pub record HasBase (d : Directory) (pass : Pass) : Type 0 where
  pub base : ℕ
  pub is_base : pass.base ≡ Some base
  pub within : base < length d.points
  pub allowed : IsAllowed d pass.note (base + 1)

-- a put is allowed after every point, writes from the first byte on and pins nothing, a write is allowed after its base; other calls draw nothing
abbrev pub IsRight : Directory → Pass → Kind → Type 0
IsRight d pass Kind.Put = (pass.note.offset ≡ 0) × ((count : ℕ) → count ≤ length d.points → IsAllowed d pass.note count) × (pass.pinned ≡ [])
IsRight d pass Kind.Write = HasBase d pass
IsRight d pass _ = pass.drawn ≡ []

-- a pass that isn't reaped
pub record IsLive (d : Directory) (pass : Pass) : Type 0 where
  pub pins : All (λ pin. Stands d Standing.Current pin.version ⊎ Stands d Standing.Superseded pin.version) pass.pinned
  pub drawn : All (Stands d Standing.Drawn) pass.drawn
  pub differ : AllPairs (λ v w. v ≢ w) pass.drawn
  pub all_drawn : (pass.drawn ≡ []) ⊎ (length pass.drawn ≡ length (touched d pass.note))
  pub current : pass.note.kind ≡ Kind.Write → PinsCurrent d pass

-- what a pass pins and what it drew are versions, also where it was reaped
pub record HasVersions (d : Directory) (pass : Pass) : Type 0 where
  pub pinned : All (λ pin. pin.version < length d.versions) pass.pinned
  pub drawn : All (λ version. version < length d.versions) pass.drawn

-- no point of the pass's actor is of a later call, and of the pass's own call there is no point but that of its look and that of its reap
pub record IsOfItsCall (pass : Pass) (point : Point) : Type 0 where
  pub not_later : IsTrue (same_actor point.actor pass.actor) → point.number ≤ pass.number
  pub own : IsTrue (same_actor point.actor pass.actor) → point.number ≡ pass.number →
      (point.event ≡ Event.Reaped) ⊎ ((point.event ≡ Event.Pinned) × (point.note ≡ pass.note))
