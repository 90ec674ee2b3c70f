-- What a server is after each call, and what it answers.
use Rattle.std.specs.Prelude.{ℕ, Bool, true, false, ◌&&◌, not, List, [], length, Option, None, Some, if◌then◌else◌}
use Rattle.store_map.specs.declared.placement.Placement.{Placement}
use Rattle.store_map.specs.declared.placement.Placement.TheVariants as placement
use Rattle.store_core.specs.Server.{raised_by}
use Rattle.version_seal.specs.Sealed.{ChunkOf, part_of}
use Rattle.chunk_server.specs.State.{Held, ServerState, is_held, chunk_of, found_at, hold, settled_at, let_go}
use Rattle.chunk_server.specs.declared.server.Mark.{Mark}
use Rattle.chunk_server.specs.declared.server.Mark.TheVariants.{Prepared, Settled}
use Rattle.chunk_server.specs.declared.server_answers.Presence.{Presence}
use Rattle.chunk_server.specs.declared.server_answers.Presence.TheVariants as presence
use Rattle.chunk_server.specs.declared.server_answers.Fetched.{Fetched}
use Rattle.chunk_server.specs.declared.server_answers.Fetched.TheVariants as fetched
use Rattle.chunk_server.specs.declared.server_answers.Installed.{Installed}
use Rattle.chunk_server.specs.declared.server_answers.Installed.TheVariants as installed

-- a version's chunk is added with a mark, unless the version is held
abbrev pub after_adding : Mark → ChunkOf → ServerState → ServerState
after_adding mark chunk s =
    record s { held = hold (record { version = chunk.stamp.version; mark = mark; chunk = chunk }) s.held }

-- it is added as prepared, unless the server is away, and how it was placed is told
abbrev pub prepare_of : ChunkOf → ServerState → ServerState × Placement
prepare_of chunk s =
    if s.away then (s, placement.Skipped s.downs) else (after_adding Prepared chunk s, placement.At s.epoch)

-- the version's chunk is settled
abbrev pub after_settle : ℕ → ServerState → ServerState
after_settle version s = record s { held = settled_at version s.held }

-- whether the server gives the version's chunk, and where it doesn't, why
abbrev pub presence_of : ℕ → ServerState → Presence
presence_of version s = if not s.away && is_held version s.held then presence.Here else presence.Missing (found_at s)

-- the version's chunk, where the server is present and has it
abbrev pub chunk_given : Bool → ℕ → List Held → Option Held
chunk_given true version chunks = None
chunk_given false version chunks = chunk_of version chunks

-- of a chunk, where there is one, the subchunks at these layers, which count as taken
abbrev pub taken_from : List ℕ → ServerState → Option Held → ServerState × Fetched
taken_from layers s None = (s, fetched.Missing (found_at s))
taken_from layers s (Some chunk) = (
  record s { taken = raised_by (length layers) s.taken },
  fetched.Part (part_of chunk.chunk layers),
)

-- so of the version's chunk
abbrev pub fetch_of : ℕ → List ℕ → ServerState → ServerState × Fetched
fetch_of version layers s = taken_from layers s (chunk_given s.away version s.held)

-- a version's chunk is added as settled, unless the server is away or the version is held
abbrev pub install_by : Bool → Bool → ChunkOf → ServerState → ServerState × Installed
install_by true held chunk s = (s, installed.Away s.downs)
install_by false true chunk s = (s, installed.AlreadyThere)
install_by false false chunk s = (after_adding Settled chunk s, installed.Placed s.epoch)

-- the same for this server
abbrev pub install_of : ChunkOf → ServerState → ServerState × Installed
install_of chunk s = install_by s.away (is_held chunk.stamp.version s.held) chunk s

-- the version's chunk is gone
abbrev pub after_discard : ℕ → ServerState → ServerState
after_discard version s = record s { held = let_go version s.held }

-- all chunks are gone, and the server was emptied once more
abbrev pub after_wipe : ServerState → ServerState
after_wipe s = record s { held = []; epoch = raised_by 1 s.epoch }

-- the server is away, and was made so once more
abbrev pub after_down : ServerState → ServerState
after_down s = record s { downs = raised_by 1 s.downs; away = true }

-- the server is present
abbrev pub after_up : ServerState → ServerState
after_up s = record s { away = false }
