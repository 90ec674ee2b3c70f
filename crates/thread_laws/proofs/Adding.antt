-- A step more at the end of a list.
use Rattle.std.proofs.Common.{◌≡◌, ℕ, ◌<◌, List, [], ◌∷◌, ◌++◌, refl, ap, arith}
use Rattle.std.proofs.lemmas.List.Elements.{All-nil, All-cons, All-head, All-tail, All-push}
use Rattle.std.specs.Prelude.{All}
use Rattle.thread_laws.specs.MadeSteps.{MadeStep, MomentsRise}
use Rattle.thread_laws.specs.AtPlaces.{after_all, AllCome}
use Rattle.thread_laws.specs.Entries.{steps_in, last_of, next_moment}

pub steps_more : (log : List (ℕ × MadeStep)) (e : ℕ × MadeStep) → steps_in (log ++ e ∷ []) ≡ steps_in log ++ e.1 ∷ []
steps_more [] e = refl
steps_more (x ∷ log) e = ap (λ (l : List MadeStep). x.1 ∷ l) (steps_more log e)

module _ {S : Type 0} (next : MadeStep → S → S) (MayCome : MadeStep → S → Type 0) where
  pub after_more : (steps : List MadeStep) (s : S) (m : MadeStep) → after_all next (steps ++ m ∷ []) s ≡ next m (after_all next steps s)
  after_more [] s m = refl
  after_more (x ∷ steps) s m = after_more steps (next x s) m

  pub come_more : (steps : List MadeStep) (s : S) (m : MadeStep) → AllCome next MayCome steps s → MayCome m (after_all next steps s) → AllCome next MayCome (steps ++ m ∷ []) s
  come_more [] s m h here = (here, tt)
  come_more (x ∷ steps) s m h here = (h.0, come_more steps (next x s) m h.1 here)

rise_more : (steps : List MadeStep) (m : MadeStep) → MomentsRise steps → All (λ (x : MadeStep). x.moment < m.moment) steps → MomentsRise (steps ++ m ∷ [])
rise_more [] m h below = (All-nil (λ (later : MadeStep). m.moment < later.moment), tt)
rise_more (x ∷ steps) m h below = (
  All-push (λ (later : MadeStep). x.moment < later.moment) steps m h.0 (All-head (λ (y : MadeStep). y.moment < m.moment) x steps below),
  rise_more steps m h.1 (All-tail (λ (y : MadeStep). y.moment < m.moment) x steps below),
)

pub all_below : (steps : List MadeStep) (k : ℕ) → last_of steps < k → All (λ (x : MadeStep). x.moment < k) steps
all_below [] k h = All-nil (λ (x : MadeStep). x.moment < k)
all_below (m ∷ steps) k h = All-cons (λ (x : MadeStep). x.moment < k) m steps (omega (arith, h)) (all_below steps k (omega (arith, h)))

pub rises_on : (steps : List MadeStep) (m : MadeStep) → MomentsRise steps → last_of steps < m.moment → MomentsRise (steps ++ m ∷ [])
rises_on steps m h above = rise_more steps m h (all_below steps m.moment above)

-- the next moment is above the history's and the actor's
pub moment_above : (steps : List MadeStep) (last : ℕ) → last_of steps < next_moment steps last
moment_above steps last = omega arith

pub moment_after : (steps : List MadeStep) (last : ℕ) → last < next_moment steps last
moment_after steps last = omega arith
