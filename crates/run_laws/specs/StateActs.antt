-- What a call does next, by its state.
use Rattle.std.specs.Prelude.{ℕ, List, [], ◌∷◌, length, nat_lt, if◌then◌else◌}
use Rattle.clay_grid.specs.Shape.{Shape}
use Rattle.store_core.specs.Note.{Kind}
use Rattle.store_core.specs.Act.{Act, DirectoryStep, ServerStep, Outcome}
use Rattle.store_core.specs.NextAct.{Job}
use Rattle.store_core.specs.Gathering.{Part}
use Rattle.run_laws.specs.Stage.{Aim, Stage}
use Rattle.run_laws.specs.Stages.{first_stage}
use Rattle.run_laws.specs.StageAfter.{server_asked, step_asked}
use Rattle.run_laws.specs.State.{Sequel, State, CallState}

-- what follows the last gathering
abbrev pub sequel_act : Sequel → Act
sequel_act (Sequel.Serve point) = Act.AtDirectory DirectoryStep.End
sequel_act Sequel.Draw = Act.AtDirectory DirectoryStep.Draw
sequel_act (Sequel.Confirm seen target) = Act.AtDirectory DirectoryStep.Confirm

-- a gathering at a stage; where it has its bytes the call goes on as said first
abbrev pub stage_act : Shape → Act → Aim → Stage → Act
stage_act g bytes aim (Stage.Asks asking) = Act.AtServer (server_asked g aim asking) (step_asked g aim asking)
stage_act g bytes aim Stage.HasBytes = bytes
stage_act g bytes aim stage = Act.AtDirectory DirectoryStep.End

-- gatherings of some parts, none of which was told anything
abbrev pub parts_act : Shape → List Part → Sequel → Act
parts_act g [] after = sequel_act after
parts_act g (part ∷ parts) after = stage_act g (parts_act g parts after) (Aim.Range part) (first_stage g (Aim.Range part))

-- a call that looks; a write as long as it has a try left
abbrev pub start_act : Kind → ℕ → Job → List (ℕ × ℕ) → Act
start_act Kind.Write tries job pairs =
    if nat_lt (length pairs) tries then Act.AtDirectory (DirectoryStep.Look job.note) else Act.Finish (Outcome.Contended pairs)
start_act Kind.Rebuild tries job pairs = Act.AtDirectory (DirectoryStep.LookRepair job.note)
start_act kind tries job pairs = Act.AtDirectory (DirectoryStep.Look job.note)

-- at each state
abbrev pub act_at : Shape → ℕ → Job → List (ℕ × ℕ) → State → Act
act_at g tries job pairs State.Start = start_act job.note.kind tries job pairs
act_at g tries job pairs (State.Parts part parts after) = parts_act g (part ∷ parts) after
act_at g tries job pairs (State.Chunk seen target) = Act.AtServer target (ServerStep.Has seen.version)
act_at g tries job pairs (State.Gather aim asking parts after) = Act.AtServer (server_asked g aim asking) (step_asked g aim asking)
act_at g tries job pairs State.Drawing = Act.AtDirectory DirectoryStep.Draw
act_at g tries job pairs (State.Preparing stripe version server servers row later placed versions) = Act.AtServer server (ServerStep.Prepare version)
act_at g tries job pairs (State.Committing versions placed) = Act.AtDirectory (DirectoryStep.Commit placed)
act_at g tries job pairs (State.Committed versions) = Act.Finish Outcome.NoMemory
act_at g tries job pairs (State.Settling point place places) = Act.AtServer place.0 (ServerStep.Settle place.1)
act_at g tries job pairs (State.Confirming seen target) = Act.AtDirectory DirectoryStep.Confirm
act_at g tries job pairs (State.Installing seen target) = Act.AtServer target (ServerStep.Install seen.version)
act_at g tries job pairs (State.Placing target epoch) = Act.AtDirectory (DirectoryStep.Repaired target epoch)
act_at g tries job pairs (State.Ending outcome) = Act.AtDirectory DirectoryStep.End
act_at g tries job pairs (State.Finished outcome) = Act.Finish outcome

-- the act of a call
abbrev pub act_of_state : Shape → ℕ → Job → CallState → Act
act_of_state g tries job s = act_at g tries job s.pairs s.at
