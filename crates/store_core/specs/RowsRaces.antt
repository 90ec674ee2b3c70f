-- Rows: calls that run at the same time.
use Rattle.std.specs.Prelude.{None, Some, [], ◌∷◌, ◌++◌, replicate, codes}
use Rattle.store_map.specs.declared.call.Call.TheVariants as call
use Rattle.store_map.specs.declared.content.Content.TheVariants as content
use Rattle.store_map.specs.declared.reply.Reply.TheVariants as reply
use Rattle.store_map.specs.declared.actor.Token.TheVariants as token
use Rattle.store_map.specs.declared.call_name.CallName.TheVariants as name
use Rattle.store_map.specs.declared.cause.Cause.TheVariants as cause
use Rattle.store_core.specs.Rows.{Row, small_script, no_lines}
use Rattle.store_core.specs.RowLines.{client, replied, refused, listed, took, server}

-- a get reads the version that its look pinned, though a put has replaced it; the sweeper takes it only after that
abbrev pub read_of_a_replaced_version : Row
read_of_a_replaced_version =
    record {
      script =
          record small_script {
            clients = record { calls = call.Put (codes "a") (content.Hex (1 ∷ 0 ∷ 0 ∷ 0 ∷ 0 ∷ 0 ∷ 0 ∷ 0 ∷ [])) ∷ call.Put (codes "a") (content.Hex (2 ∷ 0 ∷ 0 ∷ 0 ∷ 0 ∷ 0 ∷ 0 ∷ 0 ∷ [])) ∷ []; leave = None } ∷ record { calls = call.Get (codes "a") ∷ []; leave = None } ∷ [];
            schedule = replicate 11 (token.Client 0) ++ (token.Client 1 ∷ []) ++ replicate 11 (token.Client 0) ++ replicate 2 token.Sweep ++ token.Drain ∷ [];
          };
      transcript =
          record no_lines {
            history = replied 0 (client 0 0) reply.Done ∷ replied 1 (client 1 0) (reply.Bytes (1 ∷ 0 ∷ 0 ∷ 0 ∷ 0 ∷ 0 ∷ 0 ∷ 0 ∷ [])) ∷ replied 2 (client 0 1) reply.Done ∷ [];
            objects = listed (codes "a") 8 ∷ [];
            takes = took (name.Client (client 1 0)) (4 ∷ 4 ∷ 0 ∷ 0 ∷ []) ∷ [];
            servers = server 0 4 1 0 ∷ server 1 4 1 0 ∷ server 2 0 1 0 ∷ server 3 0 1 0 ∷ [];
          };
    }

-- a write whose object was changed between its look and its commit, and that has no other try
abbrev pub lost_race : Row
lost_race =
    record {
      script =
          record small_script {
            tries = Some 1;
            clients = record { calls = call.Put (codes "a") (content.Fill 0 8) ∷ call.Write (codes "a") 0 (content.Hex (1 ∷ [])) ∷ []; leave = None } ∷ record { calls = call.Write (codes "a") 1 (content.Hex (2 ∷ [])) ∷ call.Get (codes "a") ∷ []; leave = None } ∷ [];
            schedule = replicate 12 (token.Client 0) ++ token.Client 1 ∷ token.Drain ∷ [];
          };
      transcript =
          record no_lines {
            history = replied 0 (client 0 0) reply.Done ∷ replied 1 (client 0 1) reply.Done ∷ replied 2 (client 1 1) (reply.Bytes (1 ∷ 0 ∷ 0 ∷ 0 ∷ 0 ∷ 0 ∷ 0 ∷ 0 ∷ [])) ∷ [];
            refused = refused (client 1 0) (cause.Contended ((0, 1) ∷ [])) ∷ [];
            objects = listed (codes "a") 8 ∷ [];
            takes = took (name.Client (client 0 1)) (4 ∷ 4 ∷ 0 ∷ 0 ∷ []) ∷ took (name.Client (client 1 0)) (4 ∷ 4 ∷ 0 ∷ 0 ∷ []) ∷ took (name.Client (client 1 1)) (4 ∷ 4 ∷ 0 ∷ 0 ∷ []) ∷ [];
            servers = server 0 12 1 0 ∷ server 1 12 1 0 ∷ server 2 0 1 0 ∷ server 3 0 1 0 ∷ [];
          };
    }

-- the same with a second try
abbrev pub race_tried_again : Row
race_tried_again =
    record {
      script =
          record small_script {
            tries = Some 2;
            clients = record { calls = call.Put (codes "a") (content.Fill 0 8) ∷ call.Write (codes "a") 0 (content.Hex (1 ∷ [])) ∷ []; leave = None } ∷ record { calls = call.Write (codes "a") 1 (content.Hex (2 ∷ [])) ∷ call.Get (codes "a") ∷ []; leave = None } ∷ [];
            schedule = replicate 12 (token.Client 0) ++ token.Client 1 ∷ token.Drain ∷ [];
          };
      transcript =
          record no_lines {
            history = replied 0 (client 0 0) reply.Done ∷ replied 1 (client 0 1) reply.Done ∷ replied 2 (client 1 0) reply.Done ∷ replied 3 (client 1 1) (reply.Bytes (1 ∷ 2 ∷ 0 ∷ 0 ∷ 0 ∷ 0 ∷ 0 ∷ 0 ∷ [])) ∷ [];
            objects = listed (codes "a") 8 ∷ [];
            takes = took (name.Client (client 0 1)) (4 ∷ 4 ∷ 0 ∷ 0 ∷ []) ∷ took (name.Client (client 1 0)) (8 ∷ 8 ∷ 0 ∷ 0 ∷ []) ∷ took (name.Client (client 1 1)) (4 ∷ 4 ∷ 0 ∷ 0 ∷ []) ∷ [];
            servers = server 0 16 1 0 ∷ server 1 16 1 0 ∷ server 2 0 1 0 ∷ server 3 0 1 0 ∷ [];
          };
    }
