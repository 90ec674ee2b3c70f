-- What gatherings came to.
use Rattle.std.specs.Prelude.{⊤, ℕ, map, Vec}
use Rattle.std.specs.declared.alloc.Global.{Global}
use Rattle.store_core.specs.Act.{Outcome}
use Rattle.run_laws.specs.State.{Sequel, State}
use Rattle.run_laws.specs.States.{sequel_state}
use Rattle.store_core.specs.Told.{lost_in}
use Rattle.gather_parts.specs.declared.parts_ends.Gathered.{Gathered}
use Rattle.gather_parts.specs.declared.parts_ends.Gathered.TheVariants as gathered

-- the state in which the call goes on
abbrev pub end_state : Sequel → Gathered → State
end_state after (gathered.Bytes bytes) = sequel_state after
end_state after (gathered.TooMany stripe missing) = State.Ending (Outcome.Unavailable stripe (map lost_in missing.items))
end_state after gathered.Short = State.Ending Outcome.NoMemory

-- of bytes, where they are there
abbrev pub IfBytes : Gathered → (Vec ℕ Global → Type 0) → Type 0
IfBytes (gathered.Bytes bytes) holds = holds bytes
IfBytes ended holds = ⊤
