-- How frames are served by a store.
use Rattle.std.specs.Prelude.{◌≡◌, ℕ, ◌+◌, ◌≤◌, Option, List, Result, Ok, Err}
use Rattle.clay_bytes.specs.Stream.{Accepts, AcceptsPrefix}
use Rattle.clay_grid.specs.Shape.{chunk_count}
use Rattle.clay_grid.specs.Limits.{IsGeometry}
use Rattle.session_rules.specs.State.{State, first_state}
use Rattle.session_rules.specs.declared.session_answer.Answer.{Answer}
use Rattle.session_rules.specs.Input.{framed}
use Rattle.session_rules.specs.Requests.{request_of}
use Rattle.session_rules.specs.Replies.{answer_bytes}
use Rattle.session_rules.specs.Session.{IsAnswered}
use Rattle.session_store.specs.Stored.{StoreOf}
use Rattle.session_store.specs.Standing.{StandsAt}
use Rattle.frame_session.specs.Fits.{IsBounded}

-- from a state a frame was answered so, and the store stands at the state after it
pub record Answers (frame : List ℕ) (before : State) (answer : Answer) (now : StoreOf) : Type 0 where
  pub after : State
  pub answered : IsAnswered now.geometry now.max (request_of (chunk_count now.geometry) frame) before (after, answer)
  pub stands : StandsAt now after

-- so it is from each state at which the store stood
abbrev pub AnswersAll : List ℕ → StoreOf → Answer → StoreOf → Type 0
AnswersAll frame old answer now = (before : State) → StandsAt old before → Answers frame before answer now

-- a store of the same code and limit, which has served one request more at most
pub record IsLater (old now : StoreOf) : Type 0 where
  pub geometry : now.geometry ≡ old.geometry
  pub max : now.max ≡ old.max
  pub served : now.served ≤ old.served + 1

-- a store within the limits of a session
pub record IsLimited (store : StoreOf) : Type 0 where
  pub geometry : IsGeometry store.geometry
  pub max : store.max ≤ 1048576

-- that has served nothing
pub record IsBeginning (store : StoreOf) : Type 0 where
  pub limited : IsLimited store
  pub none : store.served ≡ 0
  pub stands : StandsAt store (first_state store.geometry)

-- or stands at some state of its objects within the limits
pub record IsReady (store : StoreOf) : Type 0 where
  pub limited : IsLimited store
  pub state : State
  pub stands : StandsAt store state
  pub bounded : IsBounded store.max state

-- a sink took these bytes, or after a fault a prefix of them: what it had accepted and written, then both after it
abbrev pub IsWritten : {X E : Type 0} → Result X E → List ℕ → Option (List ℕ) → List ℕ → List ℕ → Option (List ℕ) → Type 0
IsWritten (Ok done) accepted written bytes now new = Accepts accepted written bytes now new
IsWritten (Err fault) accepted written bytes now new = AcceptsPrefix accepted written bytes now new

-- from a state a frame was answered, and the answer written as a frame; the store stands at the state after it
pub record ServesFrame {X E : Type 0} (frame : List ℕ) (before : State) (store : StoreOf) (result : Result X E) (accepted : List ℕ) (written : Option (List ℕ))
    (now : List ℕ) (new : Option (List ℕ)) : Type 0 where
  pub after : State
  pub answer : Answer
  pub answered : IsAnswered store.geometry store.max (request_of (chunk_count store.geometry) frame) before (after, answer)
  pub stands : StandsAt store after
  pub writes : IsWritten result accepted written (framed (answer_bytes answer)) now new
