-- What a call does next that stands in gatherings, as its machine tells it.
use Rattle.std.specs.Prelude.{List, [], ◌∷◌, Option, None, Some}
use Rattle.clay_grid.specs.Shape.{Shape}
use Rattle.run_laws.specs.Stage.{Aim, Stage}
use Rattle.run_laws.specs.StageAfter.{server_asked, step_asked}
use Rattle.run_laws.specs.State.{Sequel}
use Rattle.call_steps.specs.declared.act.Act.{Act}
use Rattle.call_steps.specs.declared.act.Act.TheVariants as act
use Rattle.call_steps.specs.declared.act.DirectoryAct.{DirectoryAct}
use Rattle.call_steps.specs.declared.act.DirectoryAct.TheVariants as there
use Rattle.call_steps.specs.Acts.{server_act}
use Rattle.gathering.specs.Gathers.{GatherOf}
use Rattle.gather_parts.specs.Wanted.{Wanted}
use Rattle.gather_parts.specs.Gatherings.{GatheringsOf}

-- what follows the last of them
abbrev pub act_after : Sequel → DirectoryAct
act_after (Sequel.Serve point) = there.End
act_after Sequel.Draw = there.Draw
act_after (Sequel.Confirm seen target) = there.Confirm

-- by the stage of the gathering at work: a server is asked, or the coder hands its bytes over, or the pass ends
abbrev pub act_at_stage : Shape → Aim → Stage → Act
act_at_stage g aim (Stage.Asks asking) = act.Server (server_asked g aim asking) (server_act (step_asked g aim asking))
act_at_stage g aim Stage.HasBytes = act.Coding
act_at_stage g aim stage = act.Directory there.End

-- by the parts that are left where none is at work
abbrev pub act_by_parts : Shape → DirectoryAct → Option GatherOf → List Wanted → Act
act_by_parts g follows (Some w) left = act_at_stage g w.course.aim w.course.stage
act_by_parts g follows None [] = act.Directory follows
act_by_parts g follows None (wanted ∷ left) = act.Coding

-- where this follows them
abbrev pub act_in : GatheringsOf → DirectoryAct → Act
act_in p follows = act_by_parts p.book.geometry follows p.current p.left
