-- A call that is ready for its next step, and what memory is wanting then.
use Rattle.std.specs.Prelude.{Bool, ◌&&◌, if◌then◌else◌}
use Rattle.clay_grid.specs.Shape.{Shape}
use Rattle.store_core.specs.ActPlace.{is_in_pass}
use Rattle.store_core.specs.NextAct.{Job}
use Rattle.store_core.specs.Step.{Shortage, told_first}
use Rattle.store_core.specs.Work.{Calling}
use Rattle.call_steps.specs.CallOf.{CallOf, act_of}
use Rattle.call_steps.specs.Steps.{coded}

-- the call after the coding before its next step, in which memory was wanting or not, if a coding is due
abbrev pub ready : Bool → CallOf → CallOf
ready coding c = if c.due then coded coding c else c

-- what was wanting in the step and in the coding before it; without a coding none was
abbrev pub shortage_of : Bool → Bool → CallOf → Shortage
shortage_of coding short c = record { coding = c.due && coding; step = short }

-- its actor after that coding
abbrev pub actor_coded : Shape → Job → Bool → CallOf → Calling → Calling
actor_coded g job coding c actor = record actor { told = told_first (c.due && coding) (is_in_pass (act_of c)) g job actor.told }
