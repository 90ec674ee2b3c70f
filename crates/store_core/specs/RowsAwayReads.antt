-- Rows: servers are away when an object is read or its chunk is made anew.
use Rattle.std.specs.Prelude.{None, [], ◌∷◌, ◌++◌, replicate, codes}
use Rattle.store_map.specs.declared.actor.Token.TheVariants as token
use Rattle.store_map.specs.declared.call.Call.TheVariants as call
use Rattle.store_map.specs.declared.content.Content.TheVariants as content
use Rattle.store_map.specs.declared.placement.Placement.TheVariants as placement
use Rattle.store_map.specs.declared.reply.Reply.TheVariants as reply
use Rattle.store_map.specs.declared.cause.Cause.TheVariants as cause
use Rattle.store_map.specs.declared.cause.RepairResult.TheVariants as result
use Rattle.store_core.specs.Rows.{Row, object_bytes, no_lines}
use Rattle.store_core.specs.RowLines.{client, repair, replied, refused, repaired, listed, server, triple, away}
use Rattle.store_core.specs.RowsAway.{away_script, bytes_with}

-- of two that were away one is present again, another was emptied: whole chunks are fetched
abbrev pub away_and_emptied : Row
away_and_emptied =
    record {
      script = away_script (replicate 11 (token.Client 0) ++ token.Down 0 ∷ token.Down 1 ∷ token.Wipe 2 ∷ token.Up 1 ∷ token.Drain ∷ []);
      transcript = bytes_with (0 ∷ 8 ∷ 0 ∷ 4 ∷ []) (server 0 0 1 0 ∷ server 1 8 1 0 ∷ server 2 0 0 1 ∷ server 3 4 1 0 ∷ []);
    }

-- both stay away, and a third was emptied: the get is refused
abbrev pub away_twice_and_emptied : Row
away_twice_and_emptied =
    record {
      script = away_script (replicate 11 (token.Client 0) ++ token.Down 0 ∷ token.Down 1 ∷ token.Wipe 2 ∷ token.Drain ∷ []);
      transcript =
          record no_lines {
            history = replied 0 (client 0 0) reply.Done ∷ [];
            refused = refused (client 0 1) (cause.Unavailable 0 (away 0 (placement.At 0) 1 ∷ away 1 (placement.At 0) 1 ∷ triple 2 0 1 ∷ [])) ∷ [];
            objects = listed (codes "a") 8 ∷ [];
            servers = server 0 0 1 0 ∷ server 1 0 1 0 ∷ server 2 0 0 1 ∷ server 3 0 1 0 ∷ [];
          };
    }

-- the target of a rebuild is away
abbrev pub rebuild_of_an_away_server : Row
rebuild_of_an_away_server =
    record {
      script =
          record (away_script (replicate 11 (token.Client 0) ++ token.Down 0 ∷ token.Drain ∷ [])) {
            clients = record { calls = call.Put (codes "a") (content.Hex object_bytes) ∷ []; leave = None } ∷ [];
            repairers = record { calls = record { name = codes "a"; stripe = 0; server = 0 } ∷ []; leave = None } ∷ [];
          };
      transcript =
          record no_lines {
            history = replied 0 (client 0 0) reply.Done ∷ [];
            repairs = repaired (repair 0 0) (result.Away 1) ∷ [];
            objects = listed (codes "a") 8 ∷ [];
            servers = server 0 0 1 0 ∷ server 1 0 1 0 ∷ server 2 0 1 0 ∷ server 3 0 1 0 ∷ [];
          };
    }
