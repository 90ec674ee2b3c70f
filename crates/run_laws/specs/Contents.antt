-- That objects' current versions stand for the bytes of the plain map, and what passes keep for it.
use Rattle.std.specs.Prelude.{◌≡◌, ◌⊎◌, ℕ, ◌+◌, List, [], get_or, map, All, IfSome, ⊤}
use Rattle.clay_grid.specs.Shape.{Shape}
use Rattle.clay_model.specs.Code.{stripes_of}
use Rattle.store_map.specs.PlainMap.{Objects}
use Rattle.store_core.specs.Note.{Note, Kind}
use Rattle.store_core.specs.Directory.{Object, Pin, Pass, Event, Point, Directory}
use Rattle.store_core.specs.Lookups.{find_object, last_change}
use Rattle.store_core.specs.PassSteps.{new_version}
use Rattle.store_core.specs.Look.{stripes_between, pinned_by}
use Rattle.store_core.specs.Content.{content_after, contents_by}
use Rattle.store_core.specs.Calls.{Calls, IsNoteOf}
use Rattle.run_laws.specs.MapAfter.{map_by}

-- the stripes of each object's bytes
abbrev pub stripes_in : Shape → Objects → List (List ℕ × List (List ℕ))
stripes_in g objects = map (λ object. (object.0, stripes_of g object.1)) objects

-- what the objects' versions stand for, by the contents of all versions
abbrev pub stored_in : List (List ℕ) → List Object → List (List ℕ × List (List ℕ))
stored_in contents objects = map (λ object. (object.name, map (λ version. get_or contents version []) object.versions)) objects

-- by name, it is the stripes of the bytes that the plain map has after the calls at the points
abbrev pub HasContents : Calls → Directory → Type 0
HasContents calls d = stored_in (contents_by d.shape calls d.versions) d.objects ≡ stripes_in d.shape (map_by calls d.max d.points)

-- the pins of a look at an object
abbrev pub pins_of : Shape → Note → Object → List Pin
pins_of g note object = map (λ stripe. record { stripe = stripe; version = get_or object.versions stripe 0 }) (pinned_by note.kind g note object.length)

-- a write has its object's pins as they are, where that wasn't changed since its look
abbrev pub HasPins : Shape → List Object → List Point → Pass → Kind → Type 0
HasPins g objects points pass Kind.Write =
    pass.base ≡ last_change pass.note.name points → IfSome (find_object pass.note.name objects) (λ object. pass.pinned ≡ pins_of g pass.note object)
HasPins g objects points pass kind = ⊤

-- a pass is of its actor's call or of a rebuild, and what it drew stands for the call's bytes laid over what it pinned
pub record KeepsBytes (calls : Calls) (g : Shape) (objects : List Object) (contents : List (List ℕ)) (points : List Point) (pass : Pass) : Type 0 where
  pub call : (pass.note.kind ≡ Kind.Rebuild) ⊎ IsNoteOf calls pass.actor pass.number pass.note
  pub pins : HasPins g objects points pass pass.note.kind
  pub drawn :
      (pass.drawn ≡ [])
      ⊎ (map (λ version. get_or contents version []) pass.drawn
      ≡ map (λ stripe. content_after g calls contents (new_version pass stripe)) (stripes_between g pass.note.offset (pass.note.offset + pass.note.length)))

-- what each step at the directory keeps, beside that it is sound
pub record HasBytes (calls : Calls) (d : Directory) : Type 0 where
  pub contents : HasContents calls d
  pub points : All (λ point. (point.event ≡ Event.Reaped) ⊎ IsNoteOf calls point.actor point.number point.note) d.points
  pub passes : All (KeepsBytes calls d.shape d.objects (contents_by d.shape calls d.versions) d.points) d.passes
