-- What an actor's turns have seen, beside histories that go on from it.
use Rattle.std.specs.Prelude.{◌≡◌, ℕ, List, [], length, Some}
use Rattle.std.specs.List.{slice_get}
use Rattle.store_map.specs.declared.script.Script.{Script}
use Rattle.thread_laws.specs.MadeSteps.{MadeStep}
use Rattle.turn_lock.specs.History.{entries_of}
use Rattle.thread_laws.specs.Begin.{ActorsBegin}
use Rattle.thread_laws.specs.Logs.{Logs, HasSeenOwn, own_at}

-- nothing was seen at any place
pub record HasSeenNothing (seen : Logs) : Type 0 where
  pub directory : seen.directory ≡ []
  pub servers : (j : ℕ) (log : List (ℕ × MadeStep)) → slice_get seen.servers j ≡ Some log → log ≡ []

abbrev pub NewTurnsBegin : Type 0
NewTurnsBegin = (script : Script) (number : ℕ) (seen : Logs) → HasSeenNothing seen → ActorsBegin script (own_at number seen)

-- of a number each history has the entries that were seen there
pub record HasEntries (number : ℕ) (seen logs : Logs) : Type 0 where
  pub directory : entries_of number logs.directory ≡ entries_of number seen.directory
  pub wide : length logs.servers ≡ length seen.servers
  pub servers :
      (j : ℕ) (log own : List (ℕ × MadeStep)) → slice_get logs.servers j ≡ Some log → slice_get seen.servers j ≡ Some own →
      entries_of number log ≡ entries_of number own

abbrev pub HistoriesHaveAll : Type 0
HistoriesHaveAll = (number : ℕ) (seen logs : Logs) → HasEntries number seen logs → HasSeenOwn number seen logs
