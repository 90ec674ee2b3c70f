-- What a call does next that stands in its gatherings: it asks a server, ends its pass, or does what follows them.
use Rattle.std.proofs.Common.{ℕ, List, [], ◌∷◌, Option, None, Some}
use Rattle.clay_grid.specs.Shape.{Shape}
use Rattle.store_core.specs.Act.{Act, DirectoryStep, ServerStep}
use Rattle.store_core.specs.Gathering.{Part}
use Rattle.store_core.specs.NextAct.{Job}
use Rattle.run_laws.specs.Stage.{Aim, Stage}
use Rattle.run_laws.specs.Stages.{first_stage}
use Rattle.run_laws.specs.State.{Sequel, State}
use Rattle.run_laws.specs.States.{sequel_state, stage_state, open_parts}
use Rattle.run_laws.specs.StateActs.{act_at}
use Rattle.gathering.specs.Gathers.{GatherOf}
use Rattle.gather_parts.specs.Wanted.{parts_of}
use Rattle.gather_parts.specs.Gatherings.{GatheringsOf}
use Rattle.gather_parts.specs.States.{state_by, state_in}

module _ (P : Act → Type 0) (asks : (server : ℕ) (step : ServerStep) → P (Act.AtServer server step)) (ends : P (Act.AtDirectory DirectoryStep.End))
    (g : Shape) (tries : ℕ) (job : Job) (pairs : List (ℕ × ℕ)) (after : Sequel) (follows : P (act_at g tries job pairs (sequel_state after))) where
  stage_does : (bytes : State) (aim : Aim) (parts : List Part) (stage : Stage) → P (act_at g tries job pairs bytes) → P (act_at g tries job pairs (stage_state bytes aim parts after stage))
  stage_does bytes aim parts (Stage.Asks asking) h = asks _ _
  stage_does bytes aim parts Stage.HasBytes h = h
  stage_does bytes aim parts (Stage.TooMany missing) h = ends
  stage_does bytes aim parts Stage.AtTarget h = ends
  stage_does bytes aim parts (Stage.TargetAway downs) h = ends
  stage_does bytes aim parts Stage.Short h = ends

  open_does : (parts : List Part) → P (act_at g tries job pairs (open_parts g parts after))
  open_does [] = follows
  open_does (part ∷ parts) = stage_does (open_parts g parts after) (Aim.Range part) parts (first_stage g (Aim.Range part)) (open_does parts)

  does_by : (parts : List Part) (current : Option GatherOf) → P (act_at g tries job pairs (state_by g parts after current))
  does_by parts None = open_does parts
  does_by parts (Some w) = stage_does (open_parts g parts after) w.course.aim parts w.course.stage (open_does parts)

pub gathering_does : (P : Act → Type 0) → ((server : ℕ) (step : ServerStep) → P (Act.AtServer server step)) → P (Act.AtDirectory DirectoryStep.End)
    → (p : GatheringsOf) (tries : ℕ) (job : Job) (pairs : List (ℕ × ℕ)) (after : Sequel) → P (act_at p.book.geometry tries job pairs (sequel_state after))
    → P (act_at p.book.geometry tries job pairs (state_in p after))
gathering_does P asks ends p tries job pairs after follows = does_by P asks ends p.book.geometry tries job pairs after follows (parts_of p.left) p.current
