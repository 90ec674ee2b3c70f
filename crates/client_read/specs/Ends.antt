-- How a call that reads ends.
use Rattle.std.specs.Prelude.{◌≡◌, ⊤, ℕ, Vec}
use Rattle.std.specs.declared.alloc.Global.{Global}
use Rattle.call_steps.specs.declared.outcomes.Outcome.{Outcome}
use Rattle.call_steps.specs.declared.outcomes.Outcome.TheVariants as outcome
use Rattle.gather_parts.specs.declared.parts_ends.Gathered.{Gathered}
use Rattle.gather_parts.specs.declared.parts_ends.Gathered.TheVariants as gathered

-- of bytes that are served, where some are
abbrev pub IfServed : Outcome → (Vec ℕ Global → Type 0) → Type 0
IfServed (outcome.Served point bytes) holds = holds bytes
IfServed ended holds = ⊤

-- an end without bytes
abbrev pub IsPlain : Outcome → Type 0
IsPlain (outcome.Served point bytes) = ⊥
IsPlain ended = ⊤

-- the bytes that are served are those that were gathered
abbrev pub AreBytes : Vec ℕ Global → Gathered → Type 0
AreBytes bytes (gathered.Bytes own) = bytes ≡ own
AreBytes bytes ended = ⊥
