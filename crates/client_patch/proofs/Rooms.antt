-- What a call that writes keeps of its versions and its room.
use Rattle.std.proofs.Common.{◌≡◌, ℕ, ◌<◌, Bool, List, [], ◌∷◌, Some, sym, subst}
use Rattle.clay_grid.specs.Shape.{Shape}
use Rattle.store_map.specs.declared.call.Call.{Call}
use Rattle.store_core.specs.Note.{Note}
use Rattle.store_core.specs.Server.{Server}
use Rattle.store_core.specs.Agreement.{ActorToken}
use Rattle.run_laws.specs.State.{State}
use Rattle.run_laws.specs.States.{settle_state}
use Rattle.version_seal.specs.Entry.{BookOf}
use Rattle.write_course.specs.Writings.{WritingOf, server_of}
use Rattle.write_course.specs.WritingSteps.{stepped}
use Rattle.write_course.specs.Holding.{HasToken}
use Rattle.client_patch.specs.Known.{UpToDraw}
use Rattle.client_patch.specs.Holds.{HasRoom, IsOfCall}

-- it has drawn
module _ (number : ℕ) (note : Note) (drawn : List ℕ) (token : ActorToken) where
  pub known_drawn : (H : Type 0) (at : State) → HasToken number note drawn token at → UpToDraw at H
  known_drawn H (State.Preparing stripe version asked servers row later placed versions) h = tt
  known_drawn H (State.Committing versions placed) h = tt
  known_drawn H (State.Settling point place places) h = tt
  known_drawn H (State.Ending outcome) h = tt
  known_drawn H (State.Finished outcome) h = tt
  known_drawn H _ h = absurd h

-- room for one change more
pub room_at : (at : State) (count room : ℕ) → count < room → HasRoom at count room
room_at (State.Settling point place places) count room h = tt
room_at (State.Finished outcome) count room h = tt
room_at _ count room h = h

pub settle_room : (point : ℕ) (places : List (ℕ × ℕ)) (count room : ℕ) → HasRoom (settle_state point places) count room
settle_room point [] count room = tt
settle_room point (place ∷ places) count room = tt

pub stepped_room : (g : Shape) (short : Bool) (s : Server) (at : State) (server count room : ℕ) → server_of at ≡ Some server → HasRoom at count room → HasRoom (stepped g short s at).1 count room
stepped_room g short s (State.Preparing stripe version asked servers row later placed versions) server count room e h = room_at _ count room h
stepped_room g short s (State.Settling point place places) server count room e h = settle_room point places count room
stepped_room g short s _ server count room e h = absurd (cc)

-- a writing of the same versions is of the same call
pub same_call : (book : BookOf) (written : Call) (size : ℕ) (kept : List ℕ) (w now : WritingOf) → now ≡ record w { state = now.state; due = now.due }
    → IsOfCall book written size kept w → IsOfCall book written size kept now
same_call book written size kept w now same its =
    subst (IsOfCall book written size kept) (sym same)
    (record { book_is = its.book_is; first = its.first; count = its.count; contents = its.contents })
