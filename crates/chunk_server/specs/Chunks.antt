-- A server's fields as the record that callers see.
use Rattle.std.specs.Prelude.{List, map}
use Rattle.store_map.specs.declared.actor.Version.{Version}
use Rattle.chunk_server.specs.State.{Held, ServerState}
use Rattle.chunk_server.specs.declared.server.HeldChunk.{HeldChunk}
use Rattle.chunk_server.specs.declared.server.Server.TheInside.{Inside}

-- the chunk of an entry of the map
abbrev pub chunk_in : Version × HeldChunk → Held
chunk_in entry = record { version = entry.0.0; mark = entry.1.mark; chunk = entry.1.chunk }

-- the chunks of all entries, in their order
abbrev pub chunks_in : List (Version × HeldChunk) → List Held
chunks_in entries = map chunk_in entries

-- the record of the fields
abbrev pub state_in : Inside → ServerState
state_in a =
    record {
      number = a.number;
      book = a.opening;
      epoch = a.epoch;
      taken = a.taken;
      downs = a.downs;
      away = a.away;
      held = chunks_in a.held.entries;
    }
