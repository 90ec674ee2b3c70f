-- What the directory holds.
use Rattle.std.specs.Prelude.{ℕ, List, [], Option}
use Rattle.clay_grid.specs.Shape.{Shape}
use Rattle.store_map.specs.declared.actor.Actor.{Actor}
use Rattle.store_map.specs.declared.placement.Placement.{Placement}
use Rattle.store_map.specs.declared.reply.Reply.{Reply}
use Rattle.store_core.specs.Note.{Note}

-- an object's name, its length in bytes, and the current version of each stripe
pub record Object : Type 0 where
  pub name : List ℕ
  pub length : ℕ
  pub versions : List ℕ

-- a version is drawn, then current, then superseded, or superseded at once where its call gives it up; the sweeper takes it and has swept it
pub data Standing : Type 0 where
  Drawn Current Superseded Taken Swept : Standing

-- a version: the call that drew it, its stripe, the version that it was laid over, how each server took its chunk
pub record Version : Type 0 where
  pub actor : Actor
  pub number : ℕ
  pub stripe : ℕ
  pub base : Option ℕ
  pub placed : List Placement
  pub standing : Standing

-- a pinned stripe and its version that was current then
pub record Pin : Type 0 where
  pub stripe : ℕ
  pub version : ℕ

-- a call that has begun: its pins, what it drew, of a write the last change of its object when it looked, and where it was reaped
pub record Pass : Type 0 where
  pub actor : Actor
  pub number : ℕ
  pub note : Note
  pub pinned : List Pin
  pub drawn : List ℕ
  pub base : Option ℕ
  pub reaped : Option ℕ

-- what a point stands for
pub data Event : Type 0 where
  Answer : (reply : Reply) → Event
  Pinned Done Reaped : Event

-- a point of the history, with the call that it belongs to
pub record Point : Type 0 where
  pub actor : Actor
  pub number : ℕ
  pub note : Note
  pub event : Event

-- a version's number is its place among the versions, a point's its place among the points
pub record Directory : Type 0 where
  pub shape : Shape
  pub max : ℕ
  pub objects : List Object
  pub versions : List Version
  pub passes : List Pass
  pub points : List Point

-- a directory without objects
abbrev pub new_directory : Shape → ℕ → Directory
new_directory g max = record { shape = g; max = max; objects = []; versions = []; passes = []; points = [] }
