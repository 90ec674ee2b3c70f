-- What a server counts as taken from it is what the actors' own lists took there.
use Rattle.std.specs.Prelude.{◌≡◌, ℕ, ◌+◌, ◌-◌, ◌^◌, ◌<◌, min, List, length, filter, sum_by}
use Rattle.std.specs.List.{range_with_len}
use Rattle.clay_grid.specs.Shape.{chunk_count}
use Rattle.store_map.specs.declared.script.Script.{Script}
use Rattle.store_map.specs.declared.actor.Actor.TheVariants as actor
use Rattle.store_map.specs.declared.actor.Token.{Token}
use Rattle.store_core.specs.Told.{Told}
use Rattle.store_core.specs.Act.{Act}
use Rattle.store_core.specs.ActPlace.{ActPlace}
use Rattle.store_core.specs.Server.{new_server}
use Rattle.store_core.specs.Core.{first_core}
use Rattle.thread_laws.specs.MadeSteps.{MadeStep, is_at}
use Rattle.thread_laws.specs.AtPlaces.{after_all, server_next}
use Rattle.thread_laws.specs.Histories.{Histories, StandTwice, GoOn}

-- the subchunks that a step was given by its server
abbrev pub given_by : Act → Told → ℕ
given_by (Act.AtServer server step) (Told.Given layers) = layers
given_by act answer = 0

abbrev pub given : MadeStep → ℕ
given m = given_by m.act m.answer

-- what a list of steps took from a server
abbrev pub taken_at : ℕ → List MadeStep → ℕ
taken_at server steps = sum_by given (filter (is_at (ActPlace.Server server)) steps)

-- what the lists of all clients and repairers, of the sweeper and of the operator took from it
abbrev pub taken_by_all : Script → Histories → ℕ → ℕ
taken_by_all script h server =
    sum_by (λ i. taken_at server (h.of (actor.Client i))) (range_with_len 0 (length script.clients))
    + (sum_by (λ i. taken_at server (h.of (actor.Repairer i))) (range_with_len 0 (length script.repairers))
    + (taken_at server (h.of actor.Sweeper) + taken_at server (h.of actor.Operator)))

-- the server's count is that sum; a count of 64 bits stays at its last value
abbrev pub ServersCountTakes : Type 0
ServersCountTakes =
    (script : Script) (lines : List Token) (h : Histories) → StandTwice h → GoOn script lines (first_core script) h.at h.of →
    (server : ℕ) → server < chunk_count script.geometry →
    (after_all server_next (h.at (ActPlace.Server server)) new_server).taken ≡ min (taken_by_all script h server) (2 ^ 64 - 1)
