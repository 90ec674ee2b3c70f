-- What a scrub lists, as it stands in the directory and at the servers.
use Rattle.std.specs.Prelude.{◌≡◌, ℕ, Bool, not, List, length, get_or, map, filter, flat_map}
use Rattle.std.specs.List.{range_with_len, enumerate_from}
use Rattle.clay_grid.specs.Shape.{Shape}
use Rattle.store_core.specs.Lists.{is_among}
use Rattle.store_core.specs.Server.{new_server}
use Rattle.store_core.specs.Step.{Places}
use Rattle.session_rules.specs.State.{State}
use Rattle.session_rules.specs.declared.session_answer.LostChunk.{LostChunk}
use Rattle.session_rules.specs.Heals.{lost_chunks}
use Rattle.session_rules.specs.Seen.{versions_under, IsSeenAs}

-- whether a server holds a version's chunk
abbrev pub holds_version : Places → ℕ → ℕ → Bool
holds_version p version server = is_among version (get_or p.servers server new_server).held

-- the servers that don't, rising
abbrev pub servers_without : Places → ℕ → List ℕ
servers_without p version = filter (λ server. not (holds_version p version server)) (range_with_len 0 (length p.servers))

-- the chunks of one object's versions that their servers don't hold, by stripe and by server
abbrev pub lost_of : Places → List ℕ × List ℕ → List LostChunk
lost_of p object =
    flat_map (λ numbered. map (λ server. record { name = object.0; stripe = numbered.0; server = server }) (servers_without p numbered.1)) (enumerate_from 0 object.1)

-- those of all objects, in order of creation
abbrev pub lost_at : Places → List LostChunk
lost_at p = flat_map (λ object. lost_of p (versions_under object)) p.directory.objects

-- a session lists them
abbrev pub ScrubsAreSeen : Type 0
ScrubsAreSeen = (g : Shape) (max : ℕ) (stands : List ℕ) (p : Places) (s : State) → IsSeenAs g max stands p s → lost_chunks g s ≡ lost_at p
