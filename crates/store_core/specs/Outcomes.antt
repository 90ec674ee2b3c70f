-- How an outcome without a reply, and a rebuild's, is shown.
use Rattle.std.specs.Prelude.{map, Option, None, Some}
use Rattle.store_map.specs.declared.cause.Triple.{Triple}
use Rattle.store_map.specs.declared.cause.Cause.{Cause}
use Rattle.store_map.specs.declared.cause.Cause.TheVariants as cause
use Rattle.store_map.specs.declared.cause.RepairResult.{RepairResult}
use Rattle.store_map.specs.declared.cause.RepairResult.TheVariants as result
use Rattle.store_core.specs.Told.{Lost}
use Rattle.store_core.specs.Act.{Outcome}

-- a lost chunk as it is shown
abbrev pub triple_of : Lost → Triple
triple_of lost = record { server = lost.server; placed = lost.placed; found = lost.found }

-- why a client's call was refused, if it was
abbrev pub cause_of : Outcome → Option Cause
cause_of (Outcome.Unavailable stripe missing) = Some (cause.Unavailable stripe (map triple_of missing))
cause_of (Outcome.Contended pairs) = Some (cause.Contended pairs)
cause_of (Outcome.Reaped point) = Some (cause.Reaped point)
cause_of Outcome.NoMemory = Some cause.NoMemory
cause_of _ = None

-- how a rebuild came out
abbrev pub result_of : Outcome → Option RepairResult
result_of Outcome.Rebuilt = Some result.Rebuilt
result_of Outcome.Here = Some result.Here
result_of Outcome.NoSuch = Some result.NoSuch
result_of (Outcome.Away downs) = Some (result.Away downs)
result_of (Outcome.Superseded newer) = Some (result.Superseded newer)
result_of (Outcome.Unavailable stripe missing) = Some (result.Unavailable stripe (map triple_of missing))
result_of (Outcome.Reaped point) = Some (result.Reaped point)
result_of Outcome.NoMemory = Some result.NoMemory
result_of _ = None
