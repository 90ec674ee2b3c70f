-- The fields of a world as callers see them.
use Rattle.store_world.specs.declared.world.World.TheInside.{Inside}
use Rattle.store_world.specs.Stored.{StoredWorld}
use Rattle.store_world.specs.Kept.{IsWorld}

abbrev pub stored_in : Inside → StoredWorld
stored_in a =
    record {
      script = a.script.now;
      book = a.book.now;
      directory = a.directory;
      servers = a.servers.items;
      clients = a.clients.items;
      repairers = a.repairers.items;
      sweeper = a.sweeper;
    }

-- what every world keeps
abbrev pub IsKept : Inside → Type 0
IsKept a = IsWorld (stored_in a)
