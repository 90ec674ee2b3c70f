-- Rows: servers are away when an object is written.
use Rattle.std.specs.Prelude.{None, [], ◌∷◌, ◌++◌, replicate, codes}
use Rattle.store_map.specs.declared.actor.Token.TheVariants as token
use Rattle.store_map.specs.declared.call.Call.TheVariants as call
use Rattle.store_map.specs.declared.content.Content.TheVariants as content
use Rattle.store_map.specs.declared.placement.Placement.TheVariants as placement
use Rattle.store_map.specs.declared.reply.Reply.TheVariants as reply
use Rattle.store_map.specs.declared.call_name.CallName.TheVariants as name
use Rattle.store_map.specs.declared.cause.Cause.TheVariants as cause
use Rattle.store_core.specs.Rows.{Row, small_script, object_bytes, no_lines}
use Rattle.store_core.specs.RowLines.{client, replied, refused, listed, took, server, away}
use Rattle.store_core.specs.RowsAway.{away_script}

-- a write reads the old bytes that it keeps and draws its version; then as many servers are away, and it is refused
abbrev pub refused_write : Row
refused_write =
    record {
      script =
          record (away_script (replicate 15 (token.Client 0) ++ token.Down 0 ∷ token.Down 1 ∷ token.Down 2 ∷ token.Drain ∷ [])) {
            clients = record { calls = call.Put (codes "a") (content.Hex object_bytes) ∷ call.Write (codes "a") 0 (content.Hex (10 ∷ 11 ∷ 12 ∷ 13 ∷ [])) ∷ []; leave = None } ∷ [];
          };
      transcript =
          record no_lines {
            history = replied 0 (client 0 0) reply.Done ∷ [];
            refused = refused (client 0 1) (cause.Unavailable 0 (away 0 (placement.Skipped 1) 1 ∷ away 1 (placement.Skipped 1) 1 ∷ away 2 (placement.Skipped 1) 1 ∷ [])) ∷ [];
            objects = listed (codes "a") 8 ∷ [];
            takes = took (name.Client (client 0 1)) (4 ∷ 4 ∷ 0 ∷ 0 ∷ []) ∷ [];
            servers = server 0 4 1 0 ∷ server 1 4 1 0 ∷ server 2 0 1 0 ∷ server 3 0 1 0 ∷ [];
          };
    }

-- the second stripe's version is prepared while three servers are away: the write names that stripe, and the object keeps its bytes
abbrev pub refused_at_the_second_stripe : Row
refused_at_the_second_stripe =
    record {
      script =
          record small_script {
            form = 2;
            clients = record { calls = call.Put (codes "a") (content.Fill 7 16) ∷ call.Write (codes "a") 4 (content.Fill 5 12) ∷ call.Get (codes "a") ∷ []; leave = None } ∷ [];
            schedule = replicate 27 (token.Client 0) ++ token.Down 0 ∷ token.Down 1 ∷ token.Down 2 ∷ replicate 4 (token.Client 0) ++ token.Up 0 ∷ token.Up 1 ∷ token.Up 2 ∷ token.Drain ∷ [];
          };
      transcript =
          record no_lines {
            history = replied 0 (client 0 0) reply.Done ∷ replied 1 (client 0 2) (reply.Bytes (replicate 16 7)) ∷ [];
            refused = refused (client 0 1) (cause.Unavailable 1 (away 0 (placement.Skipped 1) 1 ∷ away 1 (placement.Skipped 1) 1 ∷ away 2 (placement.Skipped 1) 1 ∷ [])) ∷ [];
            objects = listed (codes "a") 16 ∷ [];
            takes = took (name.Client (client 0 1)) (4 ∷ 4 ∷ 0 ∷ 0 ∷ []) ∷ took (name.Client (client 0 2)) (8 ∷ 8 ∷ 0 ∷ 0 ∷ []) ∷ [];
            servers = server 0 12 2 0 ∷ server 1 12 2 0 ∷ server 2 0 2 0 ∷ server 3 0 2 0 ∷ [];
          };
    }
