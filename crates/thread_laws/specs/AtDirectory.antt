-- What the directory behind a lock stands for: the steps of its history.
use Rattle.std.specs.Prelude.{◌≡◌, ℕ, ◌<◌, true, List, [], ◌∷◌, ◌++◌, filter, All, IfSome}
use Rattle.store_map.specs.declared.actor.Actor.{Actor}
use Rattle.store_core.specs.ActPlace.{ActPlace}
use Rattle.store_core.specs.Agreement.{Agrees}
use Rattle.store_core.specs.Directory.{new_directory}
use Rattle.store_core.specs.History.{call_of}
use Rattle.run_laws.specs.Contents.{HasBytes}
use Rattle.thread_laws.specs.MadeSteps.{is_at, is_by, MomentsRise}
use Rattle.thread_laws.specs.AtPlaces.{after_all, AllCome, directory_next, DirectoryAnswers}
use Rattle.stripe_stamps.specs.Sealed.{Sealed}
use Rattle.turn_lock.specs.History.{entries_of}
use Rattle.thread_laws.specs.Numbers.{Counts, IsTurnOf}
use Rattle.thread_laws.specs.Entries.{last_of}
use Rattle.thread_laws.specs.Noted.{Noted, made_in, stamps_in, token_by, token_in, IsCaller}

-- the steps lead to it from a new one, with their answers, all at the directory and in rising moments, each under the number of its actor; its stamps are those that they drew,
-- it agrees with the ticket of each actor that has calls, and with a script it has the bytes of the map
pub record StandsAtDirectory (of : Counts) (max : ℕ) (d : Sealed) (log : List (ℕ × Noted)) : Type 0 where
  pub ends : d.core ≡ after_all directory_next (made_in log) (new_directory d.book.geometry max)
  pub answers : AllCome directory_next DirectoryAnswers (made_in log) (new_directory d.book.geometry max)
  pub here : All (λ m. is_at ActPlace.Directory m ≡ true) (made_in log)
  pub rise : MomentsRise (made_in log)
  pub turns : All (λ (entry : ℕ × Noted). IsTurnOf of entry.0 entry.1.made.actor) log
  pub stamps : d.stamps ≡ stamps_in log
  pub agree : (who : Actor) → IsCaller who → Agrees d.core (token_in who (made_in log))
  pub bytes : IfSome d.book.script (λ script. HasBytes (call_of script) d.core)

-- a step that leads to another directory of the same book, with the answer that the directory gives and the stamps that it drew, under the number of its actor and after the moment of the history's last;
-- afterwards the directory agrees with the ticket of an actor that has calls, and has the bytes of the map
pub record IsAddedAtDirectory (of : Counts) (d now : Sealed) (log : List (ℕ × Noted)) (entry : ℕ × Noted) : Type 0 where
  pub here : is_at ActPlace.Directory entry.1.made ≡ true
  pub answers : DirectoryAnswers entry.1.made d.core
  pub above : last_of (made_in log) < entry.1.made.moment
  pub turn : IsTurnOf of entry.0 entry.1.made.actor
  pub leads : now.core ≡ directory_next entry.1.made d.core
  pub book : now.book ≡ d.book
  pub stamps : now.stamps ≡ d.stamps ++ entry.1.drawn
  pub agrees : IsCaller entry.1.made.actor → Agrees now.core (token_by entry.1.made.act entry.1.made (token_in entry.1.made.actor (made_in log)))
  pub bytes : IfSome d.book.script (λ script. HasBytes (call_of script) now.core)

-- the directory after such a step stands for the history with it
abbrev pub DirectoriesStandOn : Type 0
DirectoriesStandOn =
    (of : Counts) (max : ℕ) (d now : Sealed) (log : List (ℕ × Noted)) (entry : ℕ × Noted) → StandsAtDirectory of max d log → IsAddedAtDirectory of d now log entry →
    StandsAtDirectory of max now (log ++ entry ∷ [])

-- the steps of an actor are the entries of its number
abbrev pub NumbersAreActorsThere : Type 0
NumbersAreActorsThere =
    (of : Counts) (max number : ℕ) (who : Actor) (d : Sealed) (log : List (ℕ × Noted)) → IsTurnOf of number who → StandsAtDirectory of max d log →
    filter (is_by who) (made_in log) ≡ made_in (entries_of number log)
