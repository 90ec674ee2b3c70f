-- The value that was taken is that of the turn's fixed part, and the call in work is the one that makes the step.
use Rattle.std.proofs.Common.{◌≡◌, ℕ, List, Option, Some, sym, ap, subst, ◌∙◌}
use Rattle.std.proofs.lemmas.Option.{same_Some}
use Rattle.store_map.specs.declared.script.Script.{Script}
use Rattle.store_core.specs.Tokens.{actor_of}
use Rattle.call_steps.specs.declared.need.Need.TheVariants as need
use Rattle.call_steps.specs.Steps.{need_of}
use Rattle.call_machine.specs.Calls.{MachineOf}
use Rattle.actors.specs.Callers.{CallerOf}
use Rattle.actors.specs.Steps.{NeedsNow}
use Rattle.thread_laws.specs.Noted.{Noted}
use Rattle.thread_laws.specs.Numbers.{IsTurnOf}
use Rattle.run_seats.specs.Before.{IsInCall, IsBeforeServer, IsBeforeDirectory}
use Rattle.run_seats.specs.Fixed.{counts_of, counts_there}
use Rattle.run_seats.specs.declared.server_box.ServerIdentity.{ServerIdentity}
use Rattle.run_seats.specs.declared.directory_box.DirectoryIdentity.{DirectoryIdentity}

-- the caller has this call in work
pub work_is : (call : MachineOf) (a : CallerOf) → IsInCall call a → a.work ≡ Some call
work_is call a h = ap (λ (x : CallerOf). x.work) h.works

-- so it is the only one
pub call_is : (call other : MachineOf) (a : CallerOf) → IsInCall call a → a.work ≡ Some other → other ≡ call
call_is call other a h was = same_Some other call (sym was ∙ work_is call a h)

-- a server with these
pub record Fits (identity : ServerIdentity) (number : ℕ) (a : CallerOf) (call : MachineOf) : Type 0 where
  pub book : identity.opening ≡ a.book
  pub needs : need_of call.call ≡ need.Server identity.number
  pub turn : IsTurnOf (counts_of identity) number (actor_of call.call.token)

pub fits : (identity : ServerIdentity) (fixed : Option ServerIdentity) (number : ℕ) (a : CallerOf) → Some identity ≡ fixed → (h : IsBeforeServer fixed number a) → Fits identity number a h.call
fits identity fixed number a took h =
    subst (λ (x : ServerIdentity). Fits x number a h.call) (sym (same_Some identity h.identity (took ∙ h.is))) (record { book = h.book; needs = h.needs; turn = h.turn })

pub needs_here : (identity : ServerIdentity) (fixed : Option ServerIdentity) (number : ℕ) (a : CallerOf) → Some identity ≡ fixed → IsBeforeServer fixed number a → NeedsNow a (need.Server identity.number)
needs_here identity fixed number a took h = record { call = h.call; was = work_is h.call a h.work; is = (fits identity fixed number a took h).needs }

-- a directory with these
pub record FitsThere (identity : DirectoryIdentity) (number : ℕ) (a : CallerOf) (call : MachineOf) (script : Script) : Type 0 where
  pub written : identity.opening.script ≡ Some script
  pub book : identity.opening ≡ a.book
  pub turn : IsTurnOf (counts_there identity) number (actor_of call.call.token)

pub fits_there : (identity : DirectoryIdentity) (fixed : Option DirectoryIdentity) (number : ℕ) (seen : List (ℕ × Noted)) (a : CallerOf) → Some identity ≡ fixed → (h : IsBeforeDirectory fixed number seen a)
    → FitsThere identity number a h.call h.script
fits_there identity fixed number seen a took h =
    subst (λ (x : DirectoryIdentity). FitsThere x number a h.call h.script) (sym (same_Some identity h.identity (took ∙ h.is)))
    (record { written = h.written; book = h.book; turn = h.turn })

pub needs_there : (fixed : Option DirectoryIdentity) (number : ℕ) (seen : List (ℕ × Noted)) (a : CallerOf) → IsBeforeDirectory fixed number seen a → NeedsNow a need.Directory
needs_there fixed number seen a h = record { call = h.call; was = work_is h.call a h.work; is = h.needs }
