-- The value that was taken is that of the turn's fixed part, and a line of the operator is of it.
use Rattle.std.proofs.Common.{◌≡◌, ℕ, true, List, Option, Some, IfSome, refl, sym, subst, ◌∙◌}
use Rattle.std.proofs.lemmas.Option.{same_Some}
use Rattle.store_map.specs.declared.actor.Actor.TheVariants as actor
use Rattle.store_map.specs.declared.actor.Token.{Token}
use Rattle.store_map.specs.declared.actor.Actor.{Actor}
use Rattle.store_map.specs.declared.actor.Token.TheVariants as token
use Rattle.store_core.specs.Act.{Act, DirectoryStep}
use Rattle.store_core.specs.ActPlace.{ActPlace}
use Rattle.thread_laws.specs.Lines.{operator_act}
use Rattle.thread_laws.specs.MadeSteps.{MadeStep}
use Rattle.turn_lock.specs.History.{entries_of}
use Rattle.thread_laws.specs.Entries.{steps_in}
use Rattle.thread_laws.specs.Noted.{Noted, made_in}
use Rattle.thread_laws.specs.Numbers.{IsTurnOf}
use Rattle.thread_laws.specs.Operated.{is_outage, IsNextThere}
use Rattle.run_seats.specs.Fixed.{counts_of, counts_there}
use Rattle.run_seats.specs.Plain.{IsLineAtServer, IsLineAtDirectory, line_step}
use Rattle.run_seats.specs.declared.server_box.ServerIdentity.{ServerIdentity}
use Rattle.run_seats.specs.declared.directory_box.DirectoryIdentity.{DirectoryIdentity}

-- the step of a line at a server is one that only the operator makes
pub line_theirs : (line : Token) → is_outage (line_step line) ≡ true
line_theirs (token.Down server) = refl
line_theirs (token.Up server) = refl
line_theirs line = refl

pub record LineFits (identity : ServerIdentity) (number : ℕ) (seen : List (ℕ × MadeStep)) (line : Token) : Type 0 where
  pub acts : operator_act line ≡ Some (Act.AtServer identity.number (line_step line))
  pub turn : IsTurnOf (counts_of identity) number actor.Operator
  pub next :
      IfSome identity.opening.script
      (λ script. IsNextThere script (ActPlace.Server identity.number) (steps_in (entries_of number seen)) (Act.AtServer identity.number (line_step line)))

pub line_fits : (identity : ServerIdentity) (fixed : Option ServerIdentity) (number : ℕ) (seen : List (ℕ × MadeStep)) (line : Token) → Some identity ≡ fixed → IsLineAtServer fixed number seen line
    → LineFits identity number seen line
line_fits identity fixed number seen line took h =
    subst (λ (x : ServerIdentity). LineFits x number seen line) (sym (same_Some identity h.identity (took ∙ h.is))) (record { acts = h.acts; turn = h.turn; next = h.next })

-- so at the directory
pub record ReapFits (identity : DirectoryIdentity) (number : ℕ) (seen : List (ℕ × Noted)) (reaped : Actor) : Type 0 where
  pub turn : IsTurnOf (counts_there identity) number actor.Operator
  pub next :
      IfSome identity.opening.script
      (λ script. IsNextThere script ActPlace.Directory (made_in (entries_of number seen)) (Act.AtDirectory (DirectoryStep.Reap reaped)))

pub reap_fits : (identity : DirectoryIdentity) (fixed : Option DirectoryIdentity) (number : ℕ) (seen : List (ℕ × Noted)) (reaped : Actor) → Some identity ≡ fixed → IsLineAtDirectory fixed number seen reaped
    → ReapFits identity number seen reaped
reap_fits identity fixed number seen reaped took h =
    subst (λ (x : DirectoryIdentity). ReapFits x number seen reaped) (sym (same_Some identity h.identity (took ∙ h.is))) (record { turn = h.turn; next = h.next })
