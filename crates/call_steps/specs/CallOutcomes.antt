-- How a call ended, as the store's definitions say it.
use Rattle.store_core.specs.Act.{Outcome as CoreOutcome}
use Rattle.call_steps.specs.Outcomes.{outcome_of, repair_outcome_of}
use Rattle.call_steps.specs.declared.outcome.CallOutcome.{CallOutcome}
use Rattle.call_steps.specs.declared.outcome.CallOutcome.TheVariants as ended

-- a call of any actor
abbrev pub call_outcome_of : CallOutcome → CoreOutcome
call_outcome_of (ended.Client outcome) = outcome_of outcome
call_outcome_of (ended.Rebuild outcome) = repair_outcome_of outcome
