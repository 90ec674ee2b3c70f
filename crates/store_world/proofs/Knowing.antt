-- More stamps change nothing of what a caller knows.
use Rattle.std.proofs.Common.{◌≡◌, List, ◌++◌, Option, None, Some, IfSome}
use Rattle.version_seal.specs.Entry.{StampOf}
use Rattle.stripe_stamps.specs.Sealed.{Sealed}
use Rattle.call_machine.specs.Calls.{MachineOf, KnowsOldOf}
use Rattle.call_machine.proofs.Knowing.{more_stamps_are_known}
use Rattle.actors.specs.Callers.{CallerOf, Knows}

more_by : (s now : Sealed) (more : List StampOf) (work : Option MachineOf) → now.stamps ≡ s.stamps ++ more → IfSome work (KnowsOldOf s) → IfSome work (KnowsOldOf now)
more_by s now more None is knows = tt
more_by s now more (Some c) is knows = more_stamps_are_known s now more c is knows

pub knows_more : (s now : Sealed) (more : List StampOf) (c : CallerOf) → now.stamps ≡ s.stamps ++ more → Knows s c → Knows now c
knows_more s now more c is knows = more_by s now more c.work is knows
