-- What a call does next can be read off its state, and the state's step is what is kept of the answers.
use Rattle.std.specs.Prelude.{◌≡◌, ℕ, List, [], ◌∷◌, ◌++◌, fold}
use Rattle.clay_grid.specs.Shape.{Shape, chunk_count}
use Rattle.store_core.specs.Lists.{places_of}
use Rattle.store_core.specs.Told.{Told}
use Rattle.store_core.specs.Note.{Kind}
use Rattle.store_core.specs.NextAct.{Job, next_act}
use Rattle.store_core.specs.Tell.{tell}
use Rattle.run_laws.specs.State.{State, CallState, first_state}
use Rattle.run_laws.specs.States.{settle_state, open_call}
use Rattle.run_laws.specs.CallAfter.{call_after_from, state_of}
use Rattle.run_laws.specs.StateActs.{act_of_state}
use Rattle.run_laws.specs.FitLaws.{Fits, AreFit}

-- a machine's step by an answer: a commit's answers lead on, where the definitions begin a new list
abbrev pub next_call_from : Shape → Kind → Job → List (ℕ × ℕ) → State → Told → CallState
next_call_from g kind job pairs (State.Committing versions placed) (Told.Done point) =
    record { pairs = []; at = settle_state point (places_of (chunk_count g) versions) }
next_call_from g kind job pairs (State.Committing versions placed) (Told.Changed base newer) =
    record { pairs = pairs ++ (base, newer) ∷ []; at = State.Start }
next_call_from g kind job pairs at answer = open_call g (call_after_from g kind job pairs at answer)

-- by the kind of its call
abbrev pub next_call : Shape → Job → CallState → Told → CallState
next_call g job s answer = next_call_from g job.note.kind job s.pairs s.at answer

-- for every list of answers the act of its state is the call's next act
abbrev pub ActsResume : Type 0
ActsResume = (g : Shape) (tries : ℕ) (job : Job) (told : List Told) → act_of_state g tries job (state_of g job told) ≡ next_act g tries job told

-- the state of what is kept with one answer more is the machine's step from the state before
abbrev pub StatesResume : Type 0
StatesResume =
    (g : Shape) (tries : ℕ) (job : Job) (told : List Told) (answer : Told) → Fits job.note.kind (next_act g tries job told) answer →
    open_call g (state_of g job (tell g job told answer)) ≡ next_call g job (open_call g (state_of g job told)) answer

-- a machine that keeps its state alone does what the definitions say of the answers
abbrev pub CallsResume : Type 0
CallsResume =
    (g : Shape) (tries : ℕ) (job : Job) (answers : List Told) → AreFit g tries job [] answers →
    act_of_state g tries job (fold (next_call g job) first_state answers) ≡ next_act g tries job (fold (tell g job) [] answers)
