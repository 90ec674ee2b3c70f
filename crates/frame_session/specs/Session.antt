-- What a session owes, by the bytes that its source handed out and those that its sink took.
use Rattle.std.specs.Prelude.{◌≡◌, ◌⊎◌, ◌≤◌, ℕ, ◌+◌, Bool, true, Option, Some, List, [], ◌∷◌, ◌++◌, length, take, drop, flat_map}
use Rattle.clay_grid.specs.Shape.{Shape}
use Rattle.session_rules.specs.State.{first_state}
use Rattle.session_rules.specs.declared.session_answer.Answer.{Answer}
use Rattle.session_rules.specs.declared.session_ending.Ending.{Ending}
use Rattle.session_rules.specs.Input.{most_input, framed, input_of}
use Rattle.session_rules.specs.Replies.{answer_bytes}
use Rattle.session_rules.specs.Session.{written_as, AreAnswered}

-- how many bytes are read of an input with these frames to its ending, or as many as there are: behind the frames the length that no frame may
-- have, else all that are served and one more
abbrev pub read_to : List (List ℕ) → Ending → ℕ
read_to frames Ending.FrameTooLong = length (flat_map framed frames) + 4
read_to frames _ = most_input + 1

-- each of some frames is answered in its turn, and these are the answers' bytes
pub record AreServed (g : Shape) (max : ℕ) (frames : List (List ℕ)) (taken : List ℕ) : Type 0 where
  pub answers : List Answer
  pub answered : AreAnswered g max (first_state g) frames answers
  pub taken_are : taken ≡ written_as answers

-- a session of an input that has this ending: all its frames are served, and what stands behind what was read is left
pub record IsSession (g : Shape) (max : ℕ) (input : List ℕ) (ending : Ending) (left taken : List ℕ) : Type 0 where
  pub ends : (input_of input).1 ≡ ending
  pub left_is : left ≡ drop (read_to (input_of input).0 ending) input
  pub served : AreServed g max (input_of input).0 taken

-- a session of each input that begins with what was handed out, which is all of it where the end was told
abbrev pub IsSessionOf : Shape → ℕ → List ℕ → Bool → Ending → List ℕ → Type 0
IsSessionOf g max got ended ending taken = (more : List ℕ) → (ended ≡ true → more ≡ []) → IsSession g max (got ++ more) ending more taken

-- and a session of the input that the source told, where it told one
abbrev pub IsSessionIn : Shape → ℕ → Option (List ℕ) → List ℕ → Ending → List ℕ → Type 0
IsSessionIn g max told got ending taken = (more : List ℕ) → told ≡ Some (got ++ more) → IsSession g max (got ++ more) ending more taken

-- between two frames or inside one
abbrev pub IsWithin : Ending → Type 0
IsWithin ending = (ending ≡ Ending.Done) ⊎ (ending ≡ Ending.TornFrame)

-- a session that was given up: what was handed out ends with a frame or inside one, and all its frames are served
abbrev pub IsGivenUp : Shape → ℕ → List ℕ → List ℕ → Type 0
IsGivenUp g max got taken = IsWithin (input_of got).1 × AreServed g max (input_of got).0 taken

-- the bytes are whole frames and the length of one more, or none
abbrev pub IsAtLength : List ℕ → Type 0
IsAtLength got = (got ≡ []) ⊎ (length got ≡ length (flat_map framed (input_of got).0) + 4)

-- memory was wanting before the first frame, or for a frame of which the length was read
abbrev pub IsWanting : Shape → ℕ → List ℕ → List ℕ → Type 0
IsWanting g max got taken = IsAtLength got × IsGivenUp g max got taken

-- a write failed: what was handed out are whole frames, each is answered, and the answers to all but the last were taken, then a prefix of
-- that to the last
pub record IsCutShort (g : Shape) (max : ℕ) (got taken : List ℕ) : Type 0 where
  pub whole : (input_of got).1 ≡ Ending.Done
  pub before : List (List ℕ)
  pub last : List ℕ
  pub frames : (input_of got).0 ≡ before ++ last ∷ []
  pub answers : List Answer
  pub answer : Answer
  pub answered : AreAnswered g max (first_state g) (before ++ last ∷ []) (answers ++ answer ∷ [])
  pub part : ℕ
  pub within : part ≤ length (framed (answer_bytes answer))
  pub taken_are : taken ≡ written_as answers ++ take part (framed (answer_bytes answer))
