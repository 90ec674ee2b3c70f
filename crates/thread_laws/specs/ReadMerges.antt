-- The put and the get as one run.
use Rattle.std.specs.Prelude.{◌≡◌, List, [], ◌∷◌, map}
use Rattle.store_core.specs.ActPlace.{ActPlace}
use Rattle.store_core.specs.Server.{Server}
use Rattle.store_core.specs.Core.{first_core}
use Rattle.thread_laws.specs.MadeSteps.{MadeStep}
use Rattle.thread_laws.specs.Histories.{GoOn}
use Rattle.thread_laws.specs.Merging.{run_of_steps}
use Rattle.thread_laws.specs.InOrder.{in_order}
use Rattle.thread_laws.specs.CallTakes.{taken_by_calls, client_after}
use Rattle.thread_laws.specs.StatsExample.{list_at}
use Rattle.thread_laws.specs.ReadExample.{put_get, put_looks, put_draws, prepares, commits, settles, get_looks, fetches, get_ends, read_of}

-- the list of each place
abbrev pub read_at : ActPlace → List MadeStep
read_at ActPlace.Directory = put_looks ∷ put_draws ∷ commits ∷ get_looks ∷ get_ends ∷ []
read_at (ActPlace.Server j) =
    list_at ((prepares 0 ∷ settles 0 ∷ fetches 0 ∷ []) ∷ (prepares 1 ∷ settles 1 ∷ fetches 1 ∷ []) ∷ (prepares 2 ∷ settles 2 ∷ []) ∷ (prepares 3 ∷ settles 3 ∷ []) ∷ []) j

-- all steps by moment, and by client where two moments are equal
abbrev pub merged_steps : List MadeStep
merged_steps =
    put_looks ∷ put_draws ∷ prepares 0 ∷ prepares 1 ∷ prepares 2 ∷ prepares 3 ∷ commits
    ∷ settles 0 ∷ get_looks ∷ settles 1 ∷ fetches 0 ∷ settles 2 ∷ fetches 1 ∷ settles 3 ∷ get_ends ∷ []

-- the lists go on from the first core; the run gives four subchunks at each of two servers, which the get counts
pub record ReadMerges : Type 0 where
  pub go : GoOn put_get [] (first_core put_get) read_at read_of
  pub order : in_order put_get (record { at = read_at; of = read_of }) ≡ merged_steps
  pub taken : map (λ (s : Server). s.taken) (run_of_steps put_get merged_steps).servers ≡ 4 ∷ 4 ∷ 0 ∷ 0 ∷ []
  pub counted :
      map (λ server. taken_by_calls server (client_after put_get (record { at = read_at; of = read_of }) 1)) (0 ∷ 1 ∷ 2 ∷ 3 ∷ []) ≡ 4 ∷ 4 ∷ 0 ∷ 0 ∷ []
