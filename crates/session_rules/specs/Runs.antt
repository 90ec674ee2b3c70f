-- Requests of a session one after another.
use Rattle.std.specs.Prelude.{◌≡◌, ℕ, ◌<◌, List, [], ◌∷◌, ⊤}
use Rattle.clay_grid.specs.Shape.{Shape, stripe_length}
use Rattle.clay_grid.specs.Limits.{IsGeometry}
use Rattle.store_core.specs.Calls.{Calls}
use Rattle.store_core.specs.Step.{Places}
use Rattle.session_rules.specs.State.{State}
use Rattle.session_rules.specs.declared.request.Request.{Request}
use Rattle.session_rules.specs.declared.session_answer.Answer.{Answer}
use Rattle.session_rules.specs.Serve.{serve}
use Rattle.session_rules.specs.Between.{Seats, seats_after, IsBetween}
use Rattle.session_rules.specs.Serving.{IsServedBy, MayBeAsked}

-- the session's state after some requests, its seats, and its answers
abbrev pub state_after : Shape → ℕ → State → List Request → State
state_after g max s [] = s
state_after g max s (request ∷ requests) = state_after g max (serve g max request s).0 requests

abbrev pub seats_after_all : Seats → List Request → Seats
seats_after_all seats [] = seats
seats_after_all seats (request ∷ requests) = seats_after_all (seats_after request seats) requests

abbrev pub answers_to : Shape → ℕ → State → List Request → List Answer
answers_to g max s [] = []
answers_to g max s (request ∷ requests) = (serve g max request s).1 ∷ answers_to g max (serve g max request s).0 requests

-- each of them may be asked in its turn
abbrev pub MayAllBeAsked : Calls → Shape → ℕ → Seats → State → List Request → Type 0
MayAllBeAsked calls g max seats s [] = ⊤
MayAllBeAsked calls g max seats s (request ∷ requests) =
    MayBeAsked calls g seats s request × MayAllBeAsked calls g max (seats_after request seats) (serve g max request s).0 requests

-- each is served with its answer, from the places that the one before it left
abbrev pub AreServedBy : Calls → Shape → ℕ → ℕ → Seats → State → List Request → Places → List Answer → Places → Type 0
AreServedBy calls g max tries seats s [] before answers after = (answers ≡ []) × (after ≡ before)
AreServedBy calls g max tries seats s (request ∷ requests) before [] after = ⊥
AreServedBy calls g max tries seats s (request ∷ requests) before (answer ∷ answers) after =
    (between : Places) × IsServedBy calls g max tries seats s request before answer between
    × AreServedBy calls g max tries (seats_after request seats) (serve g max request s).0 requests between answers after

-- they are served with the session's answers, and the places are between requests again, with the session's state
pub record AreServedAlone (calls : Calls) (g : Shape) (max tries : ℕ) (seats : Seats) (s : State) (requests : List Request)
    (before : Places) : Type 0 where
  pub after : Places
  pub stands : List ℕ
  pub served : AreServedBy calls g max tries seats s requests before (answers_to g max s requests) after
  pub between : IsBetween calls g max (seats_after_all seats requests) stands after (state_after g max s requests)

-- so it is of any list of requests, from places between two requests on
abbrev pub RunsAreServed : Type 0
RunsAreServed =
    (calls : Calls) (g : Shape) (max tries : ℕ) (seats : Seats) (stands : List ℕ) (p : Places) (s : State) (requests : List Request) →
    0 < stripe_length g → IsGeometry g → 0 < tries → IsBetween calls g max seats stands p s → MayAllBeAsked calls g max seats s requests →
    AreServedAlone calls g max tries seats s requests p
