-- The course of a gathering as callers see it: plain data.
use Rattle.std.specs.Prelude.{ℕ, ⊤, Bool, true, false, List, [], ◌∷◌, ◌++◌, Option, None, Some}
use Rattle.clay_grid.specs.Shape.{Shape}
use Rattle.clay_grid.specs.Repair.{all_layers, repair_layers_of}
use Rattle.store_core.specs.Told.{Told}
use Rattle.run_laws.specs.Stage.{Aim, Asking, Stage}
use Rattle.run_laws.specs.Stages.{first_stage}
use Rattle.run_laws.specs.StageAfter.{next_stage, server_asked, wanted_layers}

-- the code, what is gathered, how far that has come, and the servers that were found missing, in the order found
pub record CourseOf : Type 0 where
  pub geometry : Shape
  pub aim : Aim
  pub stage : Stage
  pub gone : List ℕ

-- a course before its first answer
abbrev pub new_course : Shape → Aim → CourseOf
new_course g aim = record { geometry = g; aim = aim; stage = first_stage g aim; gone = [] }

-- a server is asked
abbrev pub IsAskingStage : Stage → Type 0
IsAskingStage (Stage.Asks asking) = ⊤
IsAskingStage stage = ⊥

-- which one, if one is
abbrev pub server_at : Shape → Aim → Stage → Option ℕ
server_at g aim (Stage.Asks asking) = Some (server_asked g aim asking)
server_at g aim stage = None

-- which one a course asks
abbrev pub server_of : CourseOf → Option ℕ
server_of c = server_at c.geometry c.aim c.stage

-- the servers that were found missing, after an answer
abbrev pub gone_after : Told → Option ℕ → List ℕ → List ℕ
gone_after (Told.Missing found) (Some server) gone = gone ++ server ∷ []
gone_after answer server gone = gone

-- the course after an answer
abbrev pub after_answer : CourseOf → Told → CourseOf
after_answer c answer =
    record c { stage = next_stage c.geometry c.aim c.stage answer; gone = gone_after answer (server_of c) c.gone }

-- the question is whether the server has its chunk, and not for a part of it
abbrev pub is_look : Stage → Bool
is_look (Stage.Asks (Asking.Look server more missing)) = true
is_look (Stage.Asks (Asking.Target server)) = true
is_look stage = false

-- the question is for wanted layers
abbrev pub is_fetch : Stage → Bool
is_fetch (Stage.Asks (Asking.Fetch server more missing)) = true
is_fetch stage = false

-- the gathering has its bytes
abbrev pub has_bytes : Stage → Bool
has_bytes Stage.HasBytes = true
has_bytes stage = false

-- too many servers are missing
abbrev pub is_lost : Stage → Bool
is_lost (Stage.TooMany missing) = true
is_lost stage = false

-- the layers that are asked for
abbrev pub layers_at : Shape → Aim → Stage → List ℕ
layers_at g aim (Stage.Asks (Asking.Fetch server more missing)) = wanted_layers g aim server
layers_at g aim (Stage.Asks (Asking.Repair server more lost)) = repair_layers_of g lost.server
layers_at g aim (Stage.Asks (Asking.Whole server more wanted missing)) = all_layers g
layers_at g aim stage = []

-- those that a course asks for
abbrev pub layers_asked : CourseOf → List ℕ
layers_asked c = layers_at c.geometry c.aim c.stage
