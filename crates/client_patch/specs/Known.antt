-- That a write knows the old bytes of the stripes that its pass pins.
use Rattle.std.specs.Prelude.{◌≡◌, ⊤, ℕ, ◌+◌, ◌/◌, ◌<◌, ◌++◌, List, length, All}
use Rattle.clay_grid.specs.Shape.{stripe_length}
use Rattle.store_map.specs.Limits.{stripes_met}
use Rattle.store_core.specs.Note.{Note, note_of}
use Rattle.store_core.specs.Directory.{Pass}
use Rattle.run_laws.specs.State.{State}
use Rattle.version_seal.specs.Entry.{StampOf, BookOf, old_bytes}
use Rattle.stripe_stamps.specs.Sealed.{Sealed, base_stamp}
use Rattle.call_steps.specs.TokenAfter.{IfInCall}
use Rattle.client_patch.specs.Kept.{old_of}
use Rattle.client_patch.specs.Patches.{PatchOf}

-- by the stamps of what a pass pins, the old bytes of each stripe that it touches are these
pub record AreOldBytes (stamps : List StampOf) (book : BookOf) (note : Note) (size : ℕ) (kept : List ℕ) (pass : Pass) : Type 0 where
  pub pins : All (λ pin. pin.version < length stamps) pass.pinned
  pub bytes :
      (place : ℕ) → place < stripes_met (stripe_length book.geometry) note.offset note.length →
      let stripe : ℕ = note.offset / stripe_length book.geometry + place in
      old_bytes book.geometry (base_stamp stamps pass.pinned stripe) ≡ old_of book.geometry note size kept stripe

-- up to its draw
abbrev pub UpToDraw : State → Type 0 → Type 0
UpToDraw (State.Gather aim asking parts after) holds = holds
UpToDraw State.Drawing holds = holds
UpToDraw at holds = ⊤

-- by a directory's stamps
abbrev pub KnowsOld : Sealed → PatchOf → Type 0
KnowsOld s p =
    UpToDraw p.call.state.at (IfInCall p.call.token (λ held. AreOldBytes s.stamps p.call.book (note_of p.written) p.size p.kept held.pass))

-- more stamps change nothing of it
abbrev pub MoreStampsAreKnown : Type 0
MoreStampsAreKnown = (s now : Sealed) (more : List StampOf) (p : PatchOf) → now.stamps ≡ s.stamps ++ more → KnowsOld s p → KnowsOld now p
