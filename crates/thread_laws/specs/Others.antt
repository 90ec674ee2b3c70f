-- What others add to the histories of the places changes nothing of an actor's own list.
use Rattle.std.specs.Prelude.{◌≡◌, ℕ, ◌<◌, List, length}
use Rattle.store_core.specs.ActPlace.{ActPlace}
use Rattle.thread_laws.specs.MadeSteps.{MadeStep}
use Rattle.turn_lock.specs.History.{Among, SameEntries, GoesOn}
use Rattle.thread_laws.specs.Noted.{Noted}
use Rattle.thread_laws.specs.Logs.{Logs, log_of, own_at, HasSeenOwn}
use Rattle.thread_laws.specs.Stepped.{with_log, with_notes}

-- where a turn with these numbers sees a history go on, and where the last histories have the same entries of its numbers
pub record OthersAdd (number : ℕ) (numbers : List ℕ) (seen : Logs) : Type 0 where
  pub at_server :
      (server : ℕ) (now : List (ℕ × MadeStep)) → server < length seen.servers → GoesOn numbers (log_of seen server) now → (place : ActPlace) →
      own_at number (with_log server now seen) place ≡ own_at number seen place
  pub at_directory : (now : List (ℕ × Noted)) → GoesOn numbers seen.directory now → (place : ActPlace) → own_at number (with_notes now seen) place ≡ own_at number seen place
  pub at_end :
      (logs : Logs) → SameEntries numbers seen.directory logs.directory → ((j : ℕ) → SameEntries numbers (log_of seen j) (log_of logs j)) →
      HasSeenOwn number seen logs

abbrev pub OthersAddNothing : Type 0
OthersAddNothing = (number : ℕ) (numbers : List ℕ) (seen : Logs) → Among number numbers → OthersAdd number numbers seen
