-- The bytes that a get or a read is owed stay those of its pins.
use Rattle.std.specs.Prelude.{◌≡◌, ℕ, ◌<◌, Bool, List, [], length, map, take, IfSome, All, ⊤}
use Rattle.std.specs.List.{slice_get}
use Rattle.clay_grid.specs.Shape.{Shape, stripe_length}
use Rattle.store_map.specs.declared.actor.Actor.{Actor}
use Rattle.store_map.specs.declared.reply.Reply.TheVariants as reply
use Rattle.store_core.specs.Note.{Kind}
use Rattle.store_core.specs.Act.{DirectoryStep}
use Rattle.store_core.specs.Gathering.{Part}
use Rattle.store_core.specs.Read.{parts_of}
use Rattle.store_core.specs.Directory.{Pass, Event, Point, Directory, new_directory}
use Rattle.store_core.specs.AtDirectory.{at_directory}
use Rattle.store_core.specs.Conditions.{MayStep}
use Rattle.store_core.specs.History.{applied}
use Rattle.store_core.specs.Sound.{IsSound}
use Rattle.store_core.specs.Content.{contents_by}
use Rattle.store_core.specs.Calls.{Calls, IsOfCall}
use Rattle.run_laws.specs.MapAfter.{map_by}
use Rattle.run_laws.specs.Contents.{HasBytes}
use Rattle.run_laws.specs.ReadLaws.{bytes_read}

-- a get or a read
abbrev pub IsReading : Kind → Type 0
IsReading Kind.Get = ⊤
IsReading Kind.ReadAt = ⊤
IsReading kind = ⊥

-- the parts of a pass's pins, of an object of some length
abbrev pub parts_pinned : Shape → Pass → ℕ → List Part
parts_pinned g pass length_now = parts_of g pass.note length_now (map (λ pin. record { stripe = pin.stripe; version = pin.version; placed = [] }) pass.pinned)

-- at the point of its look the map's reply to the pass's call is the bytes that its pins stand for
pub record IsServed (calls : Calls) (g : Shape) (most : ℕ) (points : List Point) (contents : List (List ℕ)) (pass : Pass) : Type 0 where
  pub place : ℕ
  pub within : place < length points
  pub point : IfSome (slice_get points place) (λ point. (point.actor ≡ pass.actor) × (point.number ≡ pass.number) × (point.event ≡ Event.Pinned))
  pub length_now : ℕ
  pub reply :
      (applied most (map_by calls most (take place points)) Event.Pinned (calls pass.actor pass.number)).1 ≡ reply.Bytes (bytes_read contents (parts_pinned g pass length_now))

-- so it is of each pass of a get or a read
abbrev pub AreServed : Calls → Directory → Type 0
AreServed calls d = All (λ pass. IsReading pass.note.kind → IsServed calls d.shape d.max d.points (contents_by d.shape calls d.versions) pass) d.passes

-- each step that may be made keeps it so, whatever it commits
pub record StepsKeepServed (calls : Calls) : Type 0 where
  pub first : (g : Shape) (max : ℕ) → AreServed calls (new_directory g max)
  pub step :
      (short : Bool) (who : Actor) (number : ℕ) (step : DirectoryStep) (d : Directory) → 0 < stripe_length d.shape →
      IsSound d → HasBytes calls d → AreServed calls d → MayStep d who number step → IsOfCall calls who number step → AreServed calls (at_directory short who number step d).0
