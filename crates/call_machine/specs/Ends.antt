-- How a call of any kind ends.
use Rattle.std.specs.Prelude.{⊤, ℕ, Vec}
use Rattle.std.specs.declared.alloc.Global.{Global}
use Rattle.client_read.specs.Ends.{IfServed}
use Rattle.call_machine.specs.Kinds.{Machine}
use Rattle.call_steps.specs.declared.outcome.CallOutcome.{CallOutcome}
use Rattle.call_steps.specs.declared.outcome.CallOutcome.TheVariants as ended

-- of bytes that are served, where some are
abbrev pub IfBytesServed : CallOutcome → (Vec ℕ Global → Type 0) → Type 0
IfBytesServed (ended.Client outcome) holds = IfServed outcome holds
IfBytesServed (ended.Rebuild outcome) holds = ⊤

-- a rebuild ends as one, a call of each other machine as a client's
abbrev pub IsEndOf : Machine → CallOutcome → Type 0
IsEndOf Machine.Rebuilds (ended.Rebuild outcome) = ⊤
IsEndOf Machine.Rebuilds (ended.Client outcome) = ⊥
IsEndOf machine (ended.Client outcome) = ⊤
IsEndOf machine (ended.Rebuild outcome) = ⊥
