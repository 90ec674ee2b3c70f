-- The ticket of a call that writes, by where it stands from its draw on.
use Rattle.std.specs.Prelude.{◌≡◌, ⊤, ℕ, List, length, All, None}
use Rattle.clay_grid.specs.Shape.{Shape}
use Rattle.store_core.specs.Note.{Note}
use Rattle.store_core.specs.Placements.{IsRow}
use Rattle.store_core.specs.Agreement.{HeldPass, ActorToken}
use Rattle.store_core.specs.Act.{Outcome}
use Rattle.run_laws.specs.State.{State}
use Rattle.call_steps.specs.TokenAfter.{IsSeated}
use Rattle.call_steps.specs.Ends.{point_ended}
use Rattle.write_course.specs.Writings.{WritingOf}

-- the pass of this call, which has drawn these versions
pub record IsHolding (number : ℕ) (note : Note) (drawn : List ℕ) (token : ActorToken) : Type 0 where
  pub held : HeldPass
  pub is : token ≡ ActorToken.InCall held
  pub its : held.pass.note ≡ note
  pub its_number : held.pass.number ≡ number
  pub its_drawn : held.pass.drawn ≡ drawn

-- whatever it has drawn
pub record IsPassing (number : ℕ) (note : Note) (token : ActorToken) : Type 0 where
  pub drawn : List ℕ
  pub holding : IsHolding number note drawn token

-- while there is a writing the ticket is the pass up to the commit, and a seat from then on
abbrev pub HasToken : ℕ → Note → List ℕ → ActorToken → State → Type 0
HasToken number note drawn token (State.Preparing stripe version server servers row later placed versions) = IsHolding number note drawn token
HasToken number note drawn token (State.Committing versions placed) = IsHolding number note drawn token
HasToken number note drawn token (State.Ending outcome) = IsHolding number note drawn token × (point_ended outcome ≡ None)
HasToken number note drawn token (State.Settling point place places) = IsSeated token
HasToken number note drawn token (State.Finished outcome) = IsSeated token
HasToken number note drawn token at = ⊥

-- the end of a writing that was given up
pub record IsGivenUp (at : State) : Type 0 where
  pub ending : Outcome
  pub is : at ≡ State.Ending ending
  pub pointless : point_ended ending ≡ None

-- at the commit there is a whole row of placements for each version
abbrev pub AreWholeAt : Shape → ℕ → State → Type 0
AreWholeAt g count (State.Committing versions placed) = (length placed ≡ count) × All (IsRow g) placed
AreWholeAt g count at = ⊤

abbrev pub HasWholeRows : WritingOf → Type 0
HasWholeRows w = AreWholeAt w.book.geometry (length w.stamps) w.state
