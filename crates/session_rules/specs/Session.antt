-- A whole session: the answers to its frames, and the bytes that it writes.
use Rattle.std.specs.Prelude.{◌≡◌, ℕ, List, [], ◌∷◌, flat_map, Option, None, Some}
use Rattle.clay_grid.specs.Shape.{Shape, chunk_count}
use Rattle.session_rules.specs.State.{State, first_state}
use Rattle.session_rules.specs.declared.request.Request.{Request}
use Rattle.session_rules.specs.declared.session_answer.Answer.{Answer}
use Rattle.session_rules.specs.Serve.{serve}
use Rattle.session_rules.specs.Shortages.{IsServed}
use Rattle.session_rules.specs.Requests.{request_of}
use Rattle.session_rules.specs.Replies.{answer_bytes}
use Rattle.session_rules.specs.declared.session_ending.Ending.{Ending}
use Rattle.session_rules.specs.Input.{framed, input_of}

-- a frame that is no request leaves the state
abbrev pub serve_if : Shape → ℕ → Option Request → State → State × Answer
serve_if g max None s = (s, Answer.BadRequest)
serve_if g max (Some request) s = serve g max request s

-- the answers to frames one after another, where memory is ample
abbrev pub answers_from : Shape → ℕ → State → List (List ℕ) → List Answer
answers_from g max s [] = []
answers_from g max s (frame ∷ frames) =
    let served : State × Answer = serve_if g max (request_of (chunk_count g) frame) s in
    served.1 ∷ answers_from g max served.0 frames

-- the bytes that answers are written as
abbrev pub written_as : List Answer → List ℕ
written_as answers = flat_map (λ answer. framed (answer_bytes answer)) answers

-- what is written for an input, and how the session ends, where memory is ample
abbrev pub session_of : Shape → ℕ → List ℕ → List ℕ × Ending
session_of g max input = (written_as (answers_from g max (first_state g) (input_of input).0), (input_of input).1)

-- one frame is answered so, where memory may be wanting
abbrev pub IsAnswered : Shape → ℕ → Option Request → State → State × Answer → Type 0
IsAnswered g max None s served = served ≡ (s, Answer.BadRequest)
IsAnswered g max (Some request) s served = IsServed g max request s served

-- frames are answered so, one after another
abbrev pub AreAnswered : Shape → ℕ → State → List (List ℕ) → List Answer → Type 0
AreAnswered g max s [] answers = answers ≡ []
AreAnswered g max s (frame ∷ frames) [] = ⊥
AreAnswered g max s (frame ∷ frames) (answer ∷ answers) =
    (after : State) × IsAnswered g max (request_of (chunk_count g) frame) s (after, answer) × AreAnswered g max after frames answers
