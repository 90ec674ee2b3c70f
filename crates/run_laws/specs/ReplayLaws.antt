-- A sound directory's points replay the plain map.
use Rattle.std.specs.Prelude.{◌≡◌, ◌⊎◌, ℕ, take, Some, All}
use Rattle.std.specs.List.{slice_get}
use Rattle.store_map.specs.declared.reply.Reply.{Reply}
use Rattle.store_core.specs.Directory.{Event, Point, Directory}
use Rattle.store_core.specs.History.{applied}
use Rattle.store_core.specs.Replay.{FitsEvent}
use Rattle.store_core.specs.Sound.{IsSound, lengths_of}
use Rattle.store_core.specs.Calls.{Calls, IsNoteOf}
use Rattle.run_laws.specs.MapAfter.{map_by}
use Rattle.run_laws.specs.LengthLaws.{lengths_seen, unread}

-- the map after the calls at the points has the objects' names and lengths; each event says what the map replies there without the bytes, and an answer has none
pub record ReplaysTheMap (calls : Calls) (d : Directory) : Type 0 where
  pub lengths : lengths_seen (map_by calls d.max d.points) ≡ lengths_of d
  pub replies :
      (i : ℕ) (point : Point) → slice_get d.points i ≡ Some point →
      FitsEvent point.event point.note.kind (unread (applied d.max (map_by calls d.max (take i d.points)) point.event (calls point.actor point.number)).1)
  pub answers :
      (i : ℕ) (point : Point) (given : Reply) → slice_get d.points i ≡ Some point → point.event ≡ Event.Answer given →
      (applied d.max (map_by calls d.max (take i d.points)) point.event (calls point.actor point.number)).1 ≡ given

-- so does every sound directory whose points are of these calls, or reaps
abbrev pub SoundReplaysTheMap : Type 0
SoundReplaysTheMap =
    (calls : Calls) (d : Directory) → IsSound d → All (λ point. (point.event ≡ Event.Reaped) ⊎ IsNoteOf calls point.actor point.number point.note) d.points →
    ReplaysTheMap calls d
