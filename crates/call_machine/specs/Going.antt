-- Whether a call goes on, and whether it has a step next.
use Rattle.std.specs.Prelude.{⊤}
use Rattle.call_steps.specs.declared.need.Need.{Need}
use Rattle.call_steps.specs.declared.need.Need.TheVariants as need

-- a call that isn't over
abbrev pub GoesOn : Need → Type 0
GoesOn need.Finished = ⊥
GoesOn _ = ⊤

-- a call that has a step next, without a coding before it
abbrev pub HasPlace : Need → Type 0
HasPlace need.Directory = ⊤
HasPlace (need.Server server) = ⊤
HasPlace _ = ⊥
