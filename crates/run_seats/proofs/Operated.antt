-- What the operator's steps at a place are stays so at the place that is given back.
use Rattle.std.proofs.Common.{◌≡◌, ℕ, List, Option, Some, sym, subst}
use Rattle.store_core.specs.ActPlace.{ActPlace}
use Rattle.store_core.specs.Server.{Server}
use Rattle.store_core.specs.Tokens.{actor_of}
use Rattle.thread_laws.specs.MadeSteps.{MadeStep}
use Rattle.version_seal.specs.Entry.{BookOf}
use Rattle.stripe_stamps.specs.Sealed.{Sealed}
use Rattle.call_machine.specs.Calls.{MachineOf}
use Rattle.thread_laws.specs.Noted.{Noted, IsCaller}
use Rattle.thread_laws.specs.Operated.{IsOperated}
use Rattle.thread_laws.proofs.Operated.{callers_differ, calls_plain, IsOthers}
use Rattle.run_seats.specs.Stepped.{entry_at_server, entry_at_directory}

-- the same book and the same number
pub same_operated : (book now : BookOf) (number n : ℕ) (steps : List MadeStep) → now ≡ book → n ≡ number → IsOperated book.script (ActPlace.Server number) steps → IsOperated now.script (ActPlace.Server n) steps
same_operated book now number n steps same_book same_number is =
    subst (λ (b : BookOf). IsOperated b.script (ActPlace.Server n) steps) (sym same_book) (subst (λ (k : ℕ). IsOperated book.script (ActPlace.Server k) steps) (sym same_number) is)

-- the step of a call is none of the operator's
pub call_at_server : (number : ℕ) (work : Option MachineOf) (call left : MachineOf) (s : Server) (log : List (ℕ × MadeStep)) (last : ℕ) → work ≡ Some call → IsCaller (actor_of call.call.token)
    → IsOthers (entry_at_server number work left s log last).1
call_at_server number work call left s log last is calls =
    subst (λ (o : Option MachineOf). IsOthers (entry_at_server number o left s log last).1) (sym is) (calls_plain call.call, callers_differ (actor_of call.call.token) calls)

pub call_at_directory : (number : ℕ) (work : Option MachineOf) (call left : MachineOf) (d : Sealed) (log : List (ℕ × Noted)) (last : ℕ) → work ≡ Some call → IsCaller (actor_of call.call.token)
    → IsOthers (entry_at_directory number work left d log last).1.made
call_at_directory number work call left d log last is calls =
    subst (λ (o : Option MachineOf). IsOthers (entry_at_directory number o left d log last).1.made) (sym is) (calls_plain call.call, callers_differ (actor_of call.call.token) calls)
