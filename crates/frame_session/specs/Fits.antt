-- Answers fit into frames, where objects are within a session's limits.
use Rattle.std.specs.Prelude.{⊤, ℕ, ◌≤◌, List, length, Option, None, Some, IsTrue}
use Rattle.std.specs.List.{AllByRecursion}
use Rattle.clay_grid.specs.Shape.{Shape}
use Rattle.clay_grid.specs.Limits.{IsGeometry}
use Rattle.store_map.specs.Name.{IsName}
use Rattle.store_map.specs.PlainMap.{Objects}
use Rattle.session_rules.specs.State.{Numbering, Snapshot, State, first_state}
use Rattle.session_rules.specs.declared.session_answer.Answer.{Answer}
use Rattle.session_rules.specs.Replies.{answer_bytes}
use Rattle.session_rules.specs.Input.{is_frame_length}
use Rattle.session_rules.specs.Session.{AreAnswered}
use Rattle.frame_bytes.specs.Writing.{IsWritable}

-- no object has more than max bytes
abbrev pub AreShort : ℕ → Objects → Type 0
AreShort max objects = AllByRecursion (λ object. length object.1 ≤ max) objects

-- nor has one of the snapshot, if one is open
abbrev pub IsShortSnapshot : ℕ → Option Snapshot → Type 0
IsShortSnapshot max None = ⊤
IsShortSnapshot max (Some kept) = AreShort max kept.objects

-- the objects' names are names
abbrev pub AreNamed : Numbering → Type 0
AreNamed numbers = AllByRecursion (λ object. IsName object.0) numbers

-- a state whose objects, also those of the snapshot, are within the limits
pub record IsBounded (max : ℕ) (s : State) : Type 0 where
  pub objects : AreShort max s.objects
  pub names : AreNamed s.numbers
  pub snapshot : IsShortSnapshot max s.snapshot

-- an answer has a length that a frame may have, and the servers that it names are counted in a byte
pub record IsFitting (answer : Answer) : Type 0 where
  pub frame : IsTrue (is_frame_length (length (answer_bytes answer)))
  pub writable : IsWritable answer

-- so it is of each answer of a session within its limits
abbrev pub AnswersFit : Type 0
AnswersFit =
    (g : Shape) (max : ℕ) (frames : List (List ℕ)) (answers : List Answer) → IsGeometry g → max ≤ 1048576 →
    AreAnswered g max (first_state g) frames answers → AllByRecursion IsFitting answers
