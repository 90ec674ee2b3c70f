-- What a server counts as taken from it is what the actors' calls count that they took there.
use Rattle.std.specs.Prelude.{◌≡◌, ℕ, ◌+◌, ◌-◌, ◌^◌, ◌<◌, min, List, length, sum_by, slice_index}
use Rattle.std.specs.List.{range_with_len, slice_get}
use Rattle.clay_grid.specs.Shape.{chunk_count}
use Rattle.store_map.specs.declared.script.Script.{Script}
use Rattle.store_map.specs.declared.actor.Actor.TheVariants as actor
use Rattle.store_map.specs.declared.actor.Token.{Token}
use Rattle.store_core.specs.ActPlace.{ActPlace}
use Rattle.store_core.specs.Server.{new_server}
use Rattle.store_core.specs.Work.{Ended, Calling, new_calling, client_work, repairer_work}
use Rattle.store_core.specs.Core.{first_core}
use Rattle.thread_laws.specs.AtPlaces.{after_all, server_next}
use Rattle.thread_laws.specs.Histories.{Histories, StandTwice, GoOn}
use Rattle.thread_laws.specs.Merging.{calling_after}

-- what an actor's calls took from a server: those that have ended, and the one in work
abbrev pub taken_by_calls : ℕ → Calling → ℕ
taken_by_calls server calling = sum_by (λ (ended : Ended). slice_index ended.takes server) calling.ended + slice_index calling.takes server

-- a client or a repairer at the end, by its own list
abbrev pub client_after : Script → Histories → ℕ → Calling
client_after script h i = calling_after script (h.of (actor.Client i)) (slice_get (client_work script) i) (new_calling (chunk_count script.geometry))

abbrev pub repairer_after : Script → Histories → ℕ → Calling
repairer_after script h i = calling_after script (h.of (actor.Repairer i)) (slice_get (repairer_work script) i) (new_calling (chunk_count script.geometry))

-- the server's count is the sum over all clients and repairers; a count of 64 bits stays at its last value
abbrev pub CallsCountTakes : Type 0
CallsCountTakes =
    (script : Script) (lines : List Token) (h : Histories) → StandTwice h → GoOn script lines (first_core script) h.at h.of →
    (server : ℕ) → server < chunk_count script.geometry →
    (after_all server_next (h.at (ActPlace.Server server)) new_server).taken
    ≡ min
    (sum_by (λ i. taken_by_calls server (client_after script h i)) (range_with_len 0 (length script.clients))
    + sum_by (λ i. taken_by_calls server (repairer_after script h i)) (range_with_len 0 (length script.repairers)))
    (2 ^ 64 - 1)
