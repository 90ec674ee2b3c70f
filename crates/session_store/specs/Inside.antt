-- A store of a session by its fields.
use Rattle.std.specs.Option.{option_map}
use Rattle.session_store.specs.declared.session_parts.Parts.{Parts}
use Rattle.session_store.specs.declared.serving_store.SessionStore.TheInside.{Inside}
use Rattle.session_store.specs.Stored.{StoreOf}
use Rattle.session_store.specs.Kept.{IsStore}

-- what callers see of its parts
abbrev pub store_of : Parts → StoreOf
store_of parts =
    record {
      geometry = parts.places.book.geometry;
      max = parts.places.directory.core.max;
      served = parts.served;
      kept =
          record {
            book = parts.places.book;
            directory = parts.places.directory;
            servers = parts.places.servers.items;
            client = parts.client;
            repairer = parts.repairer;
            healer = parts.healer;
            next = parts.next;
            snapshot = parts.snapshot;
            tickets = option_map (λ tickets. tickets.items) parts.tickets;
          };
    }

abbrev pub store_in : Inside → StoreOf
store_in a = store_of a.parts

-- what every store keeps
abbrev pub IsKept : Inside → Type 0
IsKept a = IsStore (store_in a)
