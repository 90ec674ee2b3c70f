-- With all turns joined nobody else adds to a history.
use Rattle.std.specs.Prelude.{◌≡◌, ℕ, List, All}
use Rattle.thread_laws.specs.MadeSteps.{MadeStep}
use Rattle.turn_lock.specs.History.{Among, GoesOn}
use Rattle.thread_laws.specs.Noted.{Noted}

-- a turn with the numbers of all entries has seen the whole history
pub record JoinedSeeAll (numbers : List ℕ) : Type 0 where
  pub at_server : (seen log : List (ℕ × MadeStep)) → All (λ (entry : ℕ × MadeStep). Among entry.0 numbers) log → GoesOn numbers seen log → log ≡ seen
  pub at_directory : (seen log : List (ℕ × Noted)) → All (λ (entry : ℕ × Noted). Among entry.0 numbers) log → GoesOn numbers seen log → log ≡ seen

abbrev pub JoinedTurnsSeeAll : Type 0
JoinedTurnsSeeAll = (numbers : List ℕ) → JoinedSeeAll numbers
