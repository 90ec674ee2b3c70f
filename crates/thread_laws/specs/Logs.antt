-- The histories of all places, whole or as far as an actor's turns have seen them.
use Rattle.std.specs.Prelude.{◌≡◌, ℕ, List, [], filter, length, unwrap_or}
use Rattle.std.specs.List.{slice_get}
use Rattle.store_map.specs.declared.script.Script.{Script}
use Rattle.store_core.specs.ActPlace.{ActPlace}
use Rattle.thread_laws.specs.MadeSteps.{MadeStep, is_by}
use Rattle.thread_laws.specs.Histories.{Histories}
use Rattle.thread_laws.specs.OwnSteps.{own_steps}
use Rattle.turn_lock.specs.History.{entries_of}
use Rattle.thread_laws.specs.Entries.{steps_in}
use Rattle.thread_laws.specs.Noted.{Noted, made_in}
use Rattle.thread_laws.specs.Numbers.{Counts}

-- the directory's, and each server's
pub record Logs : Type 0 where
  pub directory : List (ℕ × Noted)
  pub servers : List (List (ℕ × MadeStep))

-- that of a server, none where there is no such server
abbrev pub log_of : Logs → ℕ → List (ℕ × MadeStep)
log_of logs j = unwrap_or (slice_get logs.servers j) []

-- the steps at each place
abbrev pub steps_at : Logs → ActPlace → List MadeStep
steps_at logs ActPlace.Directory = made_in logs.directory
steps_at logs (ActPlace.Server j) = steps_in (log_of logs j)

-- those under a number
abbrev pub own_at : ℕ → Logs → ActPlace → List MadeStep
own_at number logs ActPlace.Directory = made_in (entries_of number logs.directory)
own_at number logs (ActPlace.Server j) = steps_in (entries_of number (log_of logs j))

-- a turn of this number has seen all its entries
abbrev pub HasSeenOwn : ℕ → Logs → Logs → Type 0
HasSeenOwn number seen logs = (place : ActPlace) → own_at number logs place ≡ own_at number seen place

-- how many clients and repairers a script has
abbrev pub counts_of : Script → Counts
counts_of script = record { clients = length script.clients; repairers = length script.repairers }

-- the lists of a run with so many servers: of each place its history, of each actor its own steps
abbrev pub run_lists : ℕ → Logs → Histories
run_lists servers logs = record { at = steps_at logs; of = λ who. own_steps servers (λ place. filter (is_by who) (steps_at logs place)) }
