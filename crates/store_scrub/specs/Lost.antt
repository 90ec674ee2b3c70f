-- The chunks that a scrub lists as lost.
use Rattle.std.specs.Prelude.{◌≡◌, ℕ, false, List, map, All}
use Rattle.store_core.specs.Directory.{Directory}
use Rattle.store_core.specs.Step.{Places}
use Rattle.session_rules.specs.declared.session_answer.LostChunk.{LostChunk as Lost}
use Rattle.session_rules.specs.Scrubs.{servers_without}
use Rattle.chunk_server.specs.State.{ServerState}
use Rattle.chunk_server.specs.Core.{core_of}
use Rattle.store_scrub.specs.declared.report.LostChunk.{LostChunk}

-- a lost chunk in the words of the definitions
abbrev pub lost_in : LostChunk → Lost
lost_in chunk = record { name = chunk.name; stripe = chunk.stripe; server = chunk.server }

-- no server is away
abbrev pub ArePresent : List ServerState → Type 0
ArePresent servers = All (λ server. server.away ≡ false) servers

-- a directory and its servers as the definitions see them
abbrev pub places_with : Directory → List ServerState → Places
places_with d servers = record { directory = d; servers = map core_of servers }

-- of a stripe's place in the object with this name, and its version: the chunks that their servers don't hold
abbrev pub lost_from : Places → List ℕ → ℕ × ℕ → List Lost
lost_from p name numbered = map (λ server. record { name = name; stripe = numbered.0; server = server }) (servers_without p numbered.1)
