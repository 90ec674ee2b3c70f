-- The question of a gathering, and the stage after its answer.
use Rattle.std.specs.Prelude.{ℕ, suc, List, [], ◌∷◌, ◌++◌}
use Rattle.clay_grid.specs.Shape.{Shape}
use Rattle.clay_grid.specs.Repair.{all_layers, repair_layers_of}
use Rattle.store_map.specs.declared.placement.Found.{Found}
use Rattle.store_map.specs.declared.placement.Found.TheVariants as found
use Rattle.store_core.specs.Told.{Lost, Told}
use Rattle.store_core.specs.Act.{ServerStep}
use Rattle.store_core.specs.Gathering.{servers_but, lost_at}
use Rattle.store_core.specs.GatheringParts.{layers_for}
use Rattle.run_laws.specs.Stage.{Aim, Asking, Stage, seen_of}
use Rattle.run_laws.specs.Stages.{unless_many, whole_stage, repair_stage, recover_stage, look_stage, fetch_stage_of}

-- the layers of a server's chunk with wanted bytes; a chunk's gathering wants no part of one
abbrev pub wanted_layers : Shape → Aim → ℕ → List ℕ
wanted_layers g (Aim.Range part) server = layers_for g part.start part.end server
wanted_layers g (Aim.Chunk seen target) server = []

module _ (g : Shape) (aim : Aim) where
  -- one more server is missing
  abbrev pub with_lost : List Lost → ℕ → Found → List Lost
  with_lost missing server found = missing ++ lost_at g (seen_of aim) server found ∷ []

  -- a target that is away ends the gathering; of one that lacks its chunk the others are asked
  abbrev pub without_target : ℕ → Found → Stage
  without_target target (found.Absent epoch) =
      look_stage g (seen_of aim) (servers_but g (seen_of aim) (target ∷ [])) (with_lost [] target (found.Absent epoch))
  without_target target (found.Away downs) = Stage.TargetAway downs

  -- the stage after an answer to the question
  abbrev pub stage_after : Asking → Told → Stage
  stage_after (Asking.Fetch server more missing) (Told.Given layers) = fetch_stage_of g aim more missing
  stage_after (Asking.Fetch server more missing) (Told.Missing found) =
      unless_many g (with_lost missing server found) (fetch_stage_of g aim more (with_lost missing server found))
  stage_after (Asking.Look server more missing) Told.Here = look_stage g (seen_of aim) more missing
  stage_after (Asking.Look server more missing) (Told.Missing found) =
      unless_many g (with_lost missing server found) (look_stage g (seen_of aim) more (with_lost missing server found))
  stage_after (Asking.Repair server more lost) (Told.Given layers) = repair_stage g more lost
  stage_after (Asking.Repair server more lost) (Told.Missing found) =
      unless_many g (with_lost (lost ∷ []) server found) (recover_stage g (seen_of aim) (with_lost (lost ∷ []) server found))
  stage_after (Asking.Whole server more wanted missing) (Told.Given layers) = whole_stage g more wanted missing
  stage_after (Asking.Whole server more wanted missing) (Told.Missing found) =
      unless_many g (with_lost missing server found) (whole_stage g more (suc wanted) (with_lost missing server found))
  stage_after (Asking.Target server) Told.Here = Stage.AtTarget
  stage_after (Asking.Target server) (Told.Missing found) = without_target server found
  stage_after _ _ = Stage.Short

  -- after an answer at any stage; a gathering that has ended stays so
  abbrev pub next_stage : Stage → Told → Stage
  next_stage (Stage.Asks asking) answer = stage_after asking answer
  next_stage stage answer = stage

  -- the server that is asked
  abbrev pub server_asked : Asking → ℕ
  server_asked (Asking.Fetch server more missing) = server
  server_asked (Asking.Look server more missing) = server
  server_asked (Asking.Repair server more lost) = server
  server_asked (Asking.Whole server more wanted missing) = server
  server_asked (Asking.Target server) = server

  -- what it is asked
  abbrev pub step_asked : Asking → ServerStep
  step_asked (Asking.Fetch server more missing) = ServerStep.Fetch (seen_of aim).version (wanted_layers g aim server)
  step_asked (Asking.Look server more missing) = ServerStep.Has (seen_of aim).version
  step_asked (Asking.Repair server more lost) = ServerStep.Fetch (seen_of aim).version (repair_layers_of g lost.server)
  step_asked (Asking.Whole server more wanted missing) = ServerStep.Fetch (seen_of aim).version (all_layers g)
  step_asked (Asking.Target server) = ServerStep.Has (seen_of aim).version
