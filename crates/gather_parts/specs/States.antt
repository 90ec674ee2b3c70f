-- The state of a call that stands in gatherings, as the store's definitions say it.
use Rattle.std.specs.Prelude.{◌≡◌, Bool, true, false, List, Option, None, Some}
use Rattle.clay_grid.specs.Shape.{Shape}
use Rattle.store_core.specs.Act.{Outcome}
use Rattle.store_core.specs.Gathering.{Part}
use Rattle.run_laws.specs.State.{Sequel, State}
use Rattle.run_laws.specs.States.{stage_state, open_parts}
use Rattle.gathering.specs.Gathers.{GatherOf}
use Rattle.call_steps.specs.CallOf.{CallOf}
use Rattle.gather_parts.specs.Wanted.{parts_of}
use Rattle.gather_parts.specs.Gatherings.{GatheringsOf}
use Rattle.gather_parts.specs.Progress.{is_due}

-- by the gathering at work
abbrev pub state_by : Shape → List Part → Sequel → Option GatherOf → State
state_by g parts after None = open_parts g parts after
state_by g parts after (Some w) = stage_state (open_parts g parts after) w.course.aim parts after w.course.stage

-- of gatherings, and of what follows the last of them
abbrev pub state_in : GatheringsOf → Sequel → State
state_in p after = state_by p.book.geometry (parts_of p.left) after p.current

-- the call stands in them
pub record StandsIn (c : CallOf) (p : GatheringsOf) (after : Sequel) : Type 0 where
  pub book : c.book ≡ p.book
  pub state : c.state.at ≡ state_in p after
  pub takes : c.takes ≡ p.takes

-- the call as it stands in gatherings after a step, in which memory was wanting or not, or after a coding in which it wasn't
abbrev pub moved : CallOf → GatheringsOf → Sequel → Bool → Bool → CallOf
moved c p after due step =
    record c { state = record { pairs = c.state.pairs; at = state_in p after }; takes = p.takes; due = due; coding = false; step = step }

-- the call after their coding, in which memory was wanting or not: it stands in them, or ends its pass
abbrev pub after_coding : Bool → CallOf → GatheringsOf → Sequel → CallOf
after_coding true c p after =
    record c { state = record { pairs = c.state.pairs; at = State.Ending Outcome.NoMemory }; takes = p.takes; due = false; coding = true }
after_coding false c p after = moved c p after (is_due p) c.step
