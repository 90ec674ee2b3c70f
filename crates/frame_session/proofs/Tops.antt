-- What a whole call owes, of what its session owes.
use Rattle.std.proofs.Common.{◌≡◌, ◌⊎◌, ℕ, List, refl, subst, inl, inr}
use Rattle.clay_grid.specs.Shape.{Shape}
use Rattle.session_rules.specs.declared.session_ending.Ending.{Ending}
use Rattle.frame_session.specs.declared.session_status.SessionStatus.{SessionStatus}
use Rattle.frame_session.specs.Status.{status_of}
use Rattle.frame_session.specs.Words.{AreWords, IfAsked}
use Rattle.frame_session.proofs.WordLaws.{one_code}

-- a fact of one code is one of an equal code
pub of_code : (P : Shape → ℕ → Type 0) (g other : Shape) (max most : ℕ) → g ≡ other → max ≡ most → P g max → P other most
of_code P g other max most code limit holds = subst (λ m. P other m) limit (subst (λ c. P c max) code holds)

-- and of the one that the words ask for
pub of_asked : (P : Shape → ℕ → Type 0) (words : List (List ℕ)) (g : Shape) (max : ℕ) → AreWords words g max → P g max → IfAsked words P
of_asked P words g max words_are holds other most asked =
    let same : (g ≡ other) × (max ≡ most) = one_code words g other max most words_are asked in
    of_code P g other max most same.0 same.1 holds

-- without a fault, and with words that are a session's, a session comes to an ending, or memory was wanting
pub ends_or_wants : (status : SessionStatus) → (status ≡ SessionStatus.Usage → ⊥) → (status ≡ SessionStatus.ReadFault → ⊥) →
    (status ≡ SessionStatus.WriteFault → ⊥) → ((ending : Ending) × (status ≡ status_of ending)) ⊎ (status ≡ SessionStatus.OutOfMemory)
ends_or_wants SessionStatus.Done usage read write = inl (Ending.Done, refl)
ends_or_wants SessionStatus.TornFrame usage read write = inl (Ending.TornFrame, refl)
ends_or_wants SessionStatus.FrameTooLong usage read write = inl (Ending.FrameTooLong, refl)
ends_or_wants SessionStatus.InputTooLong usage read write = inl (Ending.InputTooLong, refl)
ends_or_wants SessionStatus.OutOfMemory usage read write = inr refl
ends_or_wants SessionStatus.Usage usage read write = absurd (usage refl)
ends_or_wants SessionStatus.ReadFault usage read write = absurd (read refl)
ends_or_wants SessionStatus.WriteFault usage read write = absurd (write refl)
