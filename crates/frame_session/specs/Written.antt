-- What sessions write.
use Rattle.std.specs.Prelude.{◌≡◌, ◌≢◌, ℕ, ◌≤◌, List, [], map}
use Rattle.std.specs.List.{AllByRecursion}
use Rattle.clay_grid.specs.Shape.{Shape}
use Rattle.clay_grid.specs.Limits.{IsGeometry}
use Rattle.session_rules.specs.State.{first_state}
use Rattle.session_rules.specs.declared.session_answer.Answer.{Answer}
use Rattle.session_rules.specs.declared.session_ending.Ending.{Ending}
use Rattle.session_rules.specs.Replies.{answer_bytes}
use Rattle.session_rules.specs.Session.{written_as, session_of, AreAnswered}
use Rattle.frame_bytes.specs.Cuts.{IsCut}
use Rattle.frame_session.specs.Session.{IsSession}

-- what is written as the answers of a session within its limits is cut into them, each a frame
abbrev pub AnswersAreCut : Type 0
AnswersAreCut =
    (g : Shape) (max : ℕ) (frames : List (List ℕ)) (answers : List Answer) → IsGeometry g → max ≤ 1048576 →
    AreAnswered g max (first_state g) frames answers → IsCut (written_as answers) (map answer_bytes answers) []

-- memory was wanting for no request
abbrev pub AreAmple : List Answer → Type 0
AreAmple answers = AllByRecursion (λ answer. answer ≢ Answer.NoMemory) answers

-- then what is written and the ending are those that the definitions compute
abbrev pub AmpleSessionsAreThose : Type 0
AmpleSessionsAreThose =
    (g : Shape) (max : ℕ) (input : List ℕ) (ending : Ending) (left taken : List ℕ) (session : IsSession g max input ending left taken) →
    AreAmple session.served.answers → (taken, ending) ≡ session_of g max input
