-- What an ended call leaves of the bytes that it was served.
use Rattle.std.proofs.Common.{◌≡◌, ℕ, List, [], ◌∷◌, ◌++◌, Option, sym, ap, subst, ◌∙◌}
use Rattle.std.proofs.lemmas.List.{map-append}
use Rattle.store_core.specs.Act.{Act}
use Rattle.call_steps.specs.CallOutcomes.{call_outcome_of}
use Rattle.call_steps.specs.declared.outcome.CallOutcome.{CallOutcome}
use Rattle.call_steps.specs.declared.outcome.CallOutcome.TheVariants as ended
use Rattle.call_steps.specs.declared.outcomes.Outcome.TheVariants as client
use Rattle.call_steps.specs.declared.outcomes.RepairOutcome.TheVariants as repair
use Rattle.call_machine.specs.Kinds.{Machine, IfReads}
use Rattle.call_machine.specs.Ends.{IfBytesServed}
use Rattle.call_steps.specs.declared.caller_calls.EndedCall.{EndedCall}
use Rattle.world_laws.specs.Served.{bytes_in}
use Rattle.actors.specs.Owing.{AreServed}
use Rattle.actors.specs.Inside.{served_of}

by_outcome : (outcome : CallOutcome) (m : Machine) (owed : List ℕ) (served after : List (Option (List ℕ))) → after ≡ served ++ bytes_in outcome ∷ []
    → IfReads m (IfBytesServed outcome (λ bytes. bytes.items ≡ owed)) → AreServed (Act.Finish (call_outcome_of outcome)) m owed served after
by_outcome (ended.Client (client.Served point bytes)) m owed served after more reads = record { bytes = bytes.items; more = more; reads = reads }
by_outcome (ended.Rebuild repair.Rebuilt) m owed served after more reads = more
by_outcome outcome m owed served after more reads = more

pub served_after : (act : Act) (x : EndedCall) (m : Machine) (owed : List ℕ) (ended last : List EndedCall) → act ≡ Act.Finish (call_outcome_of x.outcome) → last ≡ ended ++ x ∷ []
    → IfReads m (IfBytesServed x.outcome (λ bytes. bytes.items ≡ owed)) → AreServed act m owed (served_of ended) (served_of last)
served_after act x m owed ended last over pushed reads =
    subst (λ (a : Act). AreServed a m owed (served_of ended) (served_of last)) (sym over)
    (by_outcome x.outcome m owed (served_of ended) (served_of last)
    (ap served_of pushed ∙ map-append (λ (call : EndedCall). bytes_in call.outcome) ended (x ∷ [])) reads)
