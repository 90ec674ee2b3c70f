-- What a call keeps of its gatherings and its versions.
use Rattle.std.specs.Prelude.{◌≡◌, ⊤, ℕ, ◌+◌, ◌/◌, ◌<◌, List, [], length, None, Some}
use Rattle.std.specs.List.{slice_get}
use Rattle.clay_grid.specs.Shape.{stripe_length}
use Rattle.store_map.specs.declared.call.Call.{Call}
use Rattle.store_core.specs.Note.{note_of}
use Rattle.store_core.specs.Look.{stripes_between}
use Rattle.store_core.specs.Agreement.{ActorToken}
use Rattle.run_laws.specs.State.{State}
use Rattle.version_seal.specs.Entry.{BookOf, StampOf}
use Rattle.call_steps.specs.TokenAfter.{IfInCall}
use Rattle.gather_parts.specs.Gatherings.{GatheringsOf}
use Rattle.gather_parts.specs.declared.progress.Progress.{Progress}
use Rattle.gather_parts.specs.declared.progress.Progress.TheVariants as progress
use Rattle.write_course.specs.Writings.{WritingOf}
use Rattle.client_patch.specs.Kept.{new_of}

-- the versions are those of the stripes of the call, with its bytes over the old ones
pub record IsOfCall (book : BookOf) (written : Call) (size : ℕ) (kept : List ℕ) (w : WritingOf) : Type 0 where
  pub book_is : w.book ≡ book
  pub first : w.first ≡ (note_of written).offset / stripe_length book.geometry
  pub count : length w.stamps ≡ length (stripes_between book.geometry (note_of written).offset ((note_of written).offset + (note_of written).length))
  pub contents : (place : ℕ) (stamp : StampOf) → slice_get w.stamps place ≡ Some stamp → stamp.content ≡ new_of book.geometry written size kept (w.first + place)

-- gatherings that have ended without their bytes
abbrev pub IsUngathered : Progress → Type 0
IsUngathered progress.TooMany = ⊤
IsUngathered progress.Short = ⊤
IsUngathered now = ⊥

-- the pass of a put pins nothing
abbrev pub PinsNothing : ActorToken → Type 0
PinsNothing token = IfInCall token (λ held. held.pass.pinned ≡ [])

-- and it has nothing to gather
pub record GathersNothing (p : GatheringsOf) : Type 0 where
  pub idle : p.current ≡ None
  pub none_left : p.left ≡ []
  pub no_bytes : p.bytes ≡ []

-- before the commit there is room for one change more
abbrev pub HasRoom : State → ℕ → ℕ → Type 0
HasRoom (State.Settling point place places) count room = ⊤
HasRoom (State.Finished outcome) count room = ⊤
HasRoom at count room = count < room
