-- Where a write or a delete stands, by what its program keeps.
use Rattle.std.specs.Prelude.{Bool, true, false}
use Rattle.run_laws.specs.State.{Sequel, State}
use Rattle.call_steps.specs.Outcomes.{outcome_of}
use Rattle.call_steps.specs.declared.outcomes.Outcome.{Outcome}
use Rattle.call_steps.specs.Ends.{finished_of}
use Rattle.gather_parts.specs.Gatherings.{GatheringsOf}
use Rattle.gather_parts.specs.Progress.{is_due}
use Rattle.gather_parts.specs.States.{state_in}
use Rattle.write_course.specs.Writings.{WritingOf}
use Rattle.client_patch.specs.declared.patch_stage.PatchStage.{PatchStage}
use Rattle.client_patch.specs.declared.patch_stage.PatchStage.TheVariants as stage

-- by its stage
abbrev pub state_by : PatchStage → GatheringsOf → WritingOf → Outcome → State
state_by stage.Looking p w outcome = State.Start
state_by stage.Looked p w outcome = state_in p Sequel.Draw
state_by stage.Gathering p w outcome = state_in p Sequel.Draw
state_by stage.Ungathered p w outcome = finished_of (state_in p Sequel.Draw)
state_by stage.Writing p w outcome = w.state
state_by stage.GivenUp p w outcome = finished_of w.state
state_by stage.Ending p w outcome = State.Ending (outcome_of outcome)
state_by stage.Finished p w outcome = State.Finished (outcome_of outcome)

-- whether coding is due before its next step
abbrev pub due_by : PatchStage → GatheringsOf → WritingOf → Bool
due_by stage.Looked p w = true
due_by stage.Gathering p w = is_due p
due_by stage.Writing p w = w.due
due_by _ p w = false

-- the pass's end was told
abbrev pub after_end : PatchStage → PatchStage
after_end stage.Gathering = stage.Ungathered
after_end stage.Writing = stage.GivenUp
after_end _ = stage.Finished
