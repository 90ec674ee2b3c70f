-- A small run by moments at several places: one client puts an object, while another reads it as soon as it is committed.
use Rattle.std.specs.Prelude.{ℕ, ◌+◌, List, [], ◌∷◌, None, codes}
use Rattle.store_map.specs.declared.script.Script.{Script}
use Rattle.store_map.specs.declared.call.Call.TheVariants as call
use Rattle.store_map.specs.declared.placement.Placement.{Placement}
use Rattle.store_map.specs.declared.placement.Placement.TheVariants as placement
use Rattle.store_map.specs.declared.actor.Actor.{Actor}
use Rattle.store_map.specs.declared.actor.Actor.TheVariants as actor
use Rattle.store_core.specs.Told.{Told}
use Rattle.store_core.specs.Act.{Act, DirectoryStep, ServerStep}
use Rattle.store_core.specs.Note.{note_of}
use Rattle.thread_laws.specs.MadeSteps.{MadeStep}
use Rattle.thread_laws.specs.ByActors.{no_shortage}
use Rattle.thread_laws.specs.StatsExample.{two_stats, list_at}
use Rattle.thread_laws.specs.ShortExample.{the_put}

-- the script
abbrev pub put_get : Script
put_get =
    record two_stats {
      clients = record { calls = the_put ∷ []; leave = None } ∷ record { calls = call.Get (codes "a") ∷ []; leave = None } ∷ [];
      schedule = [];
    }

-- a step of a client
abbrev pub client_step : ℕ → Act → Told → ℕ → MadeStep
client_step client act answer moment = record { actor = actor.Client client; number = 0; shortage = no_shortage; act = act; answer = answer; moment = moment }

-- how all servers took the version
abbrev pub row : List Placement
row = placement.At 0 ∷ placement.At 0 ∷ placement.At 0 ∷ placement.At 0 ∷ []

-- the steps of the put
abbrev pub put_looks : MadeStep
put_looks = client_step 0 (Act.AtDirectory (DirectoryStep.Look (note_of the_put))) (Told.Ready None 0 []) 1

abbrev pub put_draws : MadeStep
put_draws = client_step 0 (Act.AtDirectory DirectoryStep.Draw) (Told.Versions (0 ∷ [])) 2

abbrev pub prepares : ℕ → MadeStep
prepares server = client_step 0 (Act.AtServer server (ServerStep.Prepare 0)) (Told.Prepared (placement.At 0)) (3 + server)

abbrev pub commits : MadeStep
commits = client_step 0 (Act.AtDirectory (DirectoryStep.Commit (row ∷ []))) (Told.Done 0) 7

abbrev pub settles : ℕ → MadeStep
settles server = client_step 0 (Act.AtServer server (ServerStep.Settle 0)) Told.Settled (8 + server)

-- those of the get, each of which has the moment of a settle at another place
abbrev pub get_looks : MadeStep
get_looks = client_step 1 (Act.AtDirectory (DirectoryStep.Look (note_of (call.Get (codes "a"))))) (Told.Pinned 1 8 (record { stripe = 0; version = 0; placed = row } ∷ [])) 8

abbrev pub fetches : ℕ → MadeStep
fetches server = client_step 1 (Act.AtServer server (ServerStep.Fetch 0 (0 ∷ 1 ∷ 2 ∷ 3 ∷ []))) (Told.Given 4) (9 + server)

abbrev pub get_ends : MadeStep
get_ends = client_step 1 (Act.AtDirectory DirectoryStep.End) Told.Ended 11

-- the lists of actors and places
abbrev pub put_steps : List MadeStep
put_steps = put_looks ∷ put_draws ∷ prepares 0 ∷ prepares 1 ∷ prepares 2 ∷ prepares 3 ∷ commits ∷ settles 0 ∷ settles 1 ∷ settles 2 ∷ settles 3 ∷ []

abbrev pub get_steps : List MadeStep
get_steps = get_looks ∷ fetches 0 ∷ fetches 1 ∷ get_ends ∷ []

abbrev pub read_of : Actor → List MadeStep
read_of (actor.Client i) = list_at (put_steps ∷ get_steps ∷ []) i
read_of _ = []
