-- How a call ended, as the store's definitions say it.
use Rattle.std.specs.Prelude.{map}
use Rattle.store_core.specs.Act.{Outcome as CoreOutcome}
use Rattle.store_core.specs.Told.{lost_in}
use Rattle.call_steps.specs.declared.outcomes.Outcome.{Outcome}
use Rattle.call_steps.specs.declared.outcomes.Outcome.TheVariants as outcome
use Rattle.call_steps.specs.declared.outcomes.RepairOutcome.{RepairOutcome}
use Rattle.call_steps.specs.declared.outcomes.RepairOutcome.TheVariants as repair

-- a client's call
abbrev pub outcome_of : Outcome → CoreOutcome
outcome_of (outcome.Answered point reply) = CoreOutcome.Answered point.0 reply
outcome_of (outcome.Served point bytes) = CoreOutcome.Served point.0
outcome_of (outcome.Unavailable stripe missing) = CoreOutcome.Unavailable stripe (map lost_in missing.items)
outcome_of (outcome.Contended changes) = CoreOutcome.Contended (map (λ change. (change.looked_at.0, change.newer.0)) changes.items)
outcome_of (outcome.Reaped at) = CoreOutcome.Reaped at.0
outcome_of outcome.NoMemory = CoreOutcome.NoMemory

-- a rebuild
abbrev pub repair_outcome_of : RepairOutcome → CoreOutcome
repair_outcome_of repair.Rebuilt = CoreOutcome.Rebuilt
repair_outcome_of repair.Here = CoreOutcome.Here
repair_outcome_of (repair.Away downs) = CoreOutcome.Away downs
repair_outcome_of repair.NoSuch = CoreOutcome.NoSuch
repair_outcome_of (repair.Superseded newer) = CoreOutcome.Superseded newer.0
repair_outcome_of (repair.Unavailable stripe missing) = CoreOutcome.Unavailable stripe (map lost_in missing.items)
repair_outcome_of (repair.Reaped at) = CoreOutcome.Reaped at.0
repair_outcome_of repair.NoMemory = CoreOutcome.NoMemory
