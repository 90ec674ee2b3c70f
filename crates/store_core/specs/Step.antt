-- One step of an actor of the core.
use Rattle.std.specs.Prelude.{ℕ, ◌+◌, Bool, true, List, [], ◌∷◌, ◌++◌, length, replicate, Option, None, Some}
use Rattle.std.specs.List.{slice_get}
use Rattle.clay_grid.specs.Shape.{Shape, chunk_count}
use Rattle.store_map.specs.declared.actor.Actor.{Actor}
use Rattle.store_core.specs.Lists.{change_at}
use Rattle.store_core.specs.Told.{Told}
use Rattle.store_core.specs.Act.{Act, ServerStep}
use Rattle.store_core.specs.ActPlace.{is_in_pass}
use Rattle.store_core.specs.NextAct.{Job, next_act}
use Rattle.store_core.specs.Tell.{tell}
use Rattle.store_core.specs.Directory.{Directory}
use Rattle.store_core.specs.AtDirectory.{at_directory}
use Rattle.store_core.specs.Server.{Server, at_server, raised_by}
use Rattle.store_core.specs.Work.{Calling}

-- whether memory is wanting in the coding before a step, and in the step
pub record Shortage : Type 0 where
  pub coding : Bool
  pub step : Bool

-- directory and servers, without the actors
pub record Places : Type 0 where
  pub directory : Directory
  pub servers : List Server

-- a step at a server, if there is one with this number
abbrev pub at_server_there : Bool → ℕ → ServerStep → Places → Option Server → Places × Told
at_server_there short server step places None = (places, Told.NotMade)
at_server_there short server step places (Some s) =
    let after : Server × Told = at_server short step s in
    (record places { servers = change_at server (λ _. after.0) places.servers }, after.1)

-- the step of an actor's call with this number, at the directory or at a server
abbrev pub at_places : Bool → Actor → ℕ → Act → Places → Places × Told
at_places short who number (Act.AtDirectory step) places =
    let after : Directory × Told = at_directory short who number step places.directory in
    (record places { directory = after.0 }, after.1)
at_places short who number (Act.AtServer server step) places = at_server_there short server step places (slice_get places.servers server)
at_places short who number (Act.Finish outcome) places = (places, Told.NotMade)

-- what the call took, after an answer
abbrev pub take_from : Act → Told → List ℕ → List ℕ
take_from (Act.AtServer server step) (Told.Given layers) takes = change_at server (raised_by layers) takes
take_from act answer takes = takes

-- the call that has its outcome ends, and the next one begins anew
abbrev pub ended_by : Act → ℕ → Calling → Calling
ended_by (Act.Finish outcome) servers actor =
    record {
      ended = actor.ended ++ record { outcome = outcome; takes = actor.takes } ∷ [];
      told = [];
      takes = replicate servers 0;
      steps = 0;
    }
ended_by act servers actor = actor

-- want of memory in the coding counts only where the actor has a pass
abbrev pub told_first : Bool → Bool → Shape → Job → List Told → List Told
told_first true true g job told = tell g job told Told.Short
told_first coding has_pass g job told = told

-- the actor after the answer to its act
abbrev pub after_answer : Shape → ℕ → Job → List Told → Act → Told → Calling → Calling
after_answer g tries job told act answer actor =
    let now : List Told = tell g job told answer in
    ended_by (next_act g tries job now) (chunk_count g)
    (record { ended = actor.ended; told = now; takes = take_from act answer actor.takes; steps = actor.steps + 1 })

-- one step of an actor in its job
abbrev pub actor_step : Shape → ℕ → Shortage → Actor → Job → Calling → Places → Places × Calling
actor_step g tries shortage who job actor places =
    let told : List Told = told_first shortage.coding (is_in_pass (next_act g tries job actor.told)) g job actor.told in
    let act : Act = next_act g tries job told in
    let after : Places × Told = at_places shortage.step who (length actor.ended) act places in
    (after.0, after_answer g tries job told act after.1 actor)
