-- Where a call that reads stands, by what its program keeps.
use Rattle.std.specs.Prelude.{◌≡◌, Bool, false}
use Rattle.store_core.specs.Told.{Told}
use Rattle.store_map.specs.declared.actor.Point.{Point}
use Rattle.run_laws.specs.State.{Sequel, State}
use Rattle.call_steps.specs.Outcomes.{outcome_of}
use Rattle.call_steps.specs.declared.outcomes.Outcome.{Outcome}
use Rattle.call_steps.specs.Ends.{finished_of}
use Rattle.gather_parts.specs.Gatherings.{GatheringsOf}
use Rattle.gather_parts.specs.Progress.{is_due}
use Rattle.gather_parts.specs.States.{state_in}
use Rattle.client_read.specs.declared.read_stage.ReadStage.{ReadStage}
use Rattle.client_read.specs.declared.read_stage.ReadStage.TheVariants as stage

-- by its stage
abbrev pub state_by : ReadStage → GatheringsOf → Point → Outcome → State
state_by stage.Looking p point outcome = State.Start
state_by stage.Gathering p point outcome = state_in p (Sequel.Serve point.0)
state_by stage.Ending p point outcome = State.Ending (outcome_of outcome)
state_by stage.Ended p point outcome = finished_of (state_in p (Sequel.Serve point.0))
state_by stage.Finished p point outcome = State.Finished (outcome_of outcome)

-- coding is due before its next step
abbrev pub due_by : ReadStage → GatheringsOf → Bool
due_by stage.Gathering p = is_due p
due_by _ p = false

-- the pass's end was told
abbrev pub after_end : ReadStage → ReadStage
after_end stage.Gathering = stage.Ended
after_end _ = stage.Finished

-- where it goes on after its look
abbrev pub IsLooked : Told → ReadStage → Type 0
IsLooked (Told.Pinned point length stripes) next = next ≡ stage.Gathering
IsLooked answer next = next ≡ stage.Finished
