-- What a call of the program owes for its words: what its source had handed out, what it has then and whether it told the end, what its
-- sink had taken, and what it has then.
use Rattle.std.specs.Prelude.{◌≡◌, ℕ, Bool, List, ◌++◌}
use Rattle.session_rules.specs.declared.session_ending.Ending.{Ending}
use Rattle.frame_session.specs.declared.session_status.SessionStatus.{SessionStatus}
use Rattle.frame_session.specs.Status.{status_of}
use Rattle.frame_session.specs.Words.{AskNothing, IfAsked}
use Rattle.frame_session.specs.Session.{IsSessionOf, IsGivenUp, IsWanting, IsCutShort}

pub record Serves (words : List (List ℕ)) (status : SessionStatus) (given now : List ℕ) (ended : Bool) (accepted after : List ℕ) : Type 0 where
  -- words that are no session's, and no others, are refused, and nothing is read or written
  pub usage : AskNothing words → (status ≡ SessionStatus.Usage) × (now ≡ given) × (after ≡ accepted)
  pub usage_only : status ≡ SessionStatus.Usage → AskNothing words
  -- some bytes were handed out and some taken: a session to its ending
  pub session : IfAsked words (λ g max. (ending : Ending) → status ≡ status_of ending → (got : List ℕ) × (taken : List ℕ)
      × (now ≡ given ++ got) × (after ≡ accepted ++ taken) × IsSessionOf g max got ended ending taken)
  -- or one that was given up where a read failed, memory was wanting or a write failed
  pub given_up : IfAsked words (λ g max. status ≡ SessionStatus.ReadFault → (got : List ℕ) × (taken : List ℕ)
      × (now ≡ given ++ got) × (after ≡ accepted ++ taken) × IsGivenUp g max got taken)
  pub wanting : IfAsked words (λ g max. status ≡ SessionStatus.OutOfMemory → (got : List ℕ) × (taken : List ℕ)
      × (now ≡ given ++ got) × (after ≡ accepted ++ taken) × IsWanting g max got taken)
  pub cut_off : IfAsked words (λ g max. status ≡ SessionStatus.WriteFault → (got : List ℕ) × (taken : List ℕ)
      × (now ≡ given ++ got) × (after ≡ accepted ++ taken) × IsCutShort g max got taken)
