-- Calls known by their actor and number.
use Rattle.std.specs.Prelude.{◌≡◌, ℕ, Option, Some, ⊤}
use Rattle.store_map.specs.declared.actor.Actor.{Actor}
use Rattle.store_map.specs.declared.call.Call.{Call}
use Rattle.store_core.specs.Note.{Note, note_of}
use Rattle.store_core.specs.Act.{DirectoryStep}

-- a client's call by the client and its number; a script is one such function, a session without one another
abbrev pub Calls : Type 0
Calls = Actor → ℕ → Option Call

-- there is such a call, and this is kept of it
abbrev pub IsNoteOf : Calls → Actor → ℕ → Note → Type 0
IsNoteOf calls who number note = (call : Call) × (calls who number ≡ Some call) × (note_of call ≡ note)

-- a client's look is of its call with this number
abbrev pub IsOfCall : Calls → Actor → ℕ → DirectoryStep → Type 0
IsOfCall calls who number (DirectoryStep.Look note) = IsNoteOf calls who number note
IsOfCall calls who number step = ⊤
