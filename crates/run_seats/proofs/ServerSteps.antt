-- A caller's step at a server, as the turn that gives it back has it.
use Rattle.std.proofs.Common.{◌≡◌, ℕ, List, [], ◌∷◌, ◌++◌, Option, None, Some, refl, sym, ap, subst}
use Rattle.store_core.specs.Server.{Server}
use Rattle.store_core.specs.Tokens.{actor_of}
use Rattle.thread_laws.specs.MadeSteps.{MadeStep}
use Rattle.chunk_server.specs.Core.{core_of}
use Rattle.chunk_server.specs.State.{ServerState}
use Rattle.stripe_stamps.specs.Sealed.{Sealed}
use Rattle.call_steps.specs.declared.need.Need.TheVariants as need
use Rattle.call_steps.specs.CallOf.{CallOf}
use Rattle.call_steps.specs.Steps.{need_of}
use Rattle.call_machine.specs.Calls.{MachineOf}
use Rattle.actors.specs.Callers.{CallerOf, Knows}
use Rattle.actors.specs.Steps.{MadeAtServer, MakesStep}
use Rattle.turn_lock.specs.History.{Among, GoesOn}
use Rattle.thread_laws.specs.Numbers.{Counts, IsTurnOf}
use Rattle.thread_laws.specs.AtServer.{StandsAtServer}
use Rattle.thread_laws.proofs.ServerGiving.{given_stands, given_made}
use Rattle.run_seats.specs.Stepped.{entry_at_server, HasSteppedAtServer}

-- the entry is under the number
pub number_is : (number : ℕ) (work : Option MachineOf) (left : MachineOf) (s : Server) (log : List (ℕ × MadeStep)) (last : ℕ) → (entry_at_server number work left s log last).0 ≡ number
number_is number None left s log last = refl
number_is number (Some call) left s log last = refl

module _ (number last : ℕ) (a : CallerOf) (call left : MachineOf) (was : a.work ≡ Some call) (s now : ServerState) (made : MadeAtServer call left s now) (needs : need_of call.call ≡ need.Server s.number)
    (log : List (ℕ × MadeStep)) where
  pub caller_stands : (of : Counts) → StandsAtServer of s.number (core_of s) log → IsTurnOf of number (actor_of call.call.token)
      → StandsAtServer of s.number (core_of now) (log ++ entry_at_server number a.work left (core_of s) log last ∷ [])
  caller_stands of stands turn =
      subst (λ (o : Option MachineOf). StandsAtServer of s.number (core_of now) (log ++ entry_at_server number o left (core_of s) log last ∷ [])) (sym was)
      (given_stands s.number call.call left.call (core_of s) (core_of now) needs made.made log number last of stands turn)

  pub caller_stepped : (numbers : List ℕ) (seen seen_now : List (ℕ × MadeStep)) (after : CallerOf) → Among number numbers → GoesOn numbers seen log
      → seen_now ≡ log ++ entry_at_server number a.work left (core_of s) log last ∷ [] → (step : MakesStep (λ c x. MadeAtServer c x s now) left a after) → ((d : Sealed) → Knows d a → Knows d after)
      → HasSteppedAtServer number last seen seen_now a after
  caller_stepped numbers seen seen_now after among goes is step knows =
      let is_call : seen_now ≡ log ++ entry_at_server number (Some call) left (core_of s) log last ∷ [] =
      subst (λ (o : Option MachineOf). seen_now ≡ log ++ entry_at_server number o left (core_of s) log last ∷ []) was is in
      record {
        call = call;
        was = was;
        left = left;
        made = given_made s.number call.call left.call (core_of s) (core_of now) needs made.made log number last numbers seen seen_now among goes is_call;
        asked = made.asked;
        owed = made.owed;
        place = core_of s;
        stepped = ap (λ (p : Server × CallOf). p.1) made.made;
        concludes = step.concludes;
        knows = knows;
      }
