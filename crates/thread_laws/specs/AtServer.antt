-- What a chunk server behind a lock stands for: the steps of its history.
use Rattle.std.specs.Prelude.{◌≡◌, ℕ, ◌<◌, true, List, [], ◌∷◌, ◌++◌, filter, All}
use Rattle.store_map.specs.declared.actor.Actor.{Actor}
use Rattle.store_core.specs.ActPlace.{ActPlace}
use Rattle.store_core.specs.Server.{Server, new_server}
use Rattle.thread_laws.specs.MadeSteps.{MadeStep, is_at, is_by, MomentsRise}
use Rattle.thread_laws.specs.AtPlaces.{after_all, AllCome, server_next, ServerAnswers}
use Rattle.turn_lock.specs.History.{entries_of}
use Rattle.thread_laws.specs.Numbers.{Counts, IsTurnOf}
use Rattle.thread_laws.specs.Entries.{steps_in, last_of}

-- the server of this number: the steps lead to it from a new one, with their answers, all at this server and in rising moments, each under the number of its actor
pub record StandsAtServer (of : Counts) (number : ℕ) (s : Server) (log : List (ℕ × MadeStep)) : Type 0 where
  pub ends : s ≡ after_all server_next (steps_in log) new_server
  pub answers : AllCome server_next ServerAnswers (steps_in log) new_server
  pub here : All (λ m. is_at (ActPlace.Server number) m ≡ true) (steps_in log)
  pub rise : MomentsRise (steps_in log)
  pub turns : All (λ (entry : ℕ × MadeStep). IsTurnOf of entry.0 entry.1.actor) log

-- a step at this server, with the answer that the server gives, under the number of its actor and after the moment of the history's last
pub record MayBeAdded (of : Counts) (number : ℕ) (s : Server) (log : List (ℕ × MadeStep)) (entry : ℕ × MadeStep) : Type 0 where
  pub here : is_at (ActPlace.Server number) entry.1 ≡ true
  pub answers : ServerAnswers entry.1 s
  pub above : last_of (steps_in log) < entry.1.moment
  pub turn : IsTurnOf of entry.0 entry.1.actor

-- the server after such a step stands for the history with it
abbrev pub ServersStandOn : Type 0
ServersStandOn =
    (of : Counts) (number : ℕ) (s : Server) (log : List (ℕ × MadeStep)) (entry : ℕ × MadeStep) → StandsAtServer of number s log →
    MayBeAdded of number s log entry → StandsAtServer of number (server_next entry.1 s) (log ++ entry ∷ [])

-- the steps of an actor are the entries of its number
abbrev pub NumbersAreActors : Type 0
NumbersAreActors =
    (of : Counts) (server number : ℕ) (who : Actor) (s : Server) (log : List (ℕ × MadeStep)) → IsTurnOf of number who → StandsAtServer of server s log →
    filter (is_by who) (steps_in log) ≡ steps_in (entries_of number log)
