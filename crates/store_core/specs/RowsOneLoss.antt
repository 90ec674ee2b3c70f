-- Rows: one server is emptied.
use Rattle.std.specs.Prelude.{None, [], ◌∷◌, ◌++◌, replicate, codes}
use Rattle.store_map.specs.declared.call.Call.TheVariants as call
use Rattle.store_map.specs.declared.content.Content.TheVariants as content
use Rattle.store_map.specs.declared.reply.Reply.TheVariants as reply
use Rattle.store_map.specs.declared.actor.Token.TheVariants as token
use Rattle.store_map.specs.declared.call_name.CallName.TheVariants as name
use Rattle.store_core.specs.Rows.{Row, small_script, object_bytes, put_and_get, no_lines}
use Rattle.store_core.specs.RowLines.{client, replied, listed, took, server}

-- one server was emptied after the put: the missing chunk is made from the repair layers of the others
abbrev pub read_after_one_loss : Row
read_after_one_loss =
    record {
      script = put_and_get (replicate 11 (token.Client 0) ++ token.Wipe 0 ∷ token.Drain ∷ []);
      transcript =
          record no_lines {
            history = replied 0 (client 0 0) reply.Done ∷ replied 1 (client 0 1) (reply.Bytes object_bytes) ∷ [];
            objects = listed (codes "a") 8 ∷ [];
            takes = took (name.Client (client 0 1)) (0 ∷ 6 ∷ 2 ∷ 2 ∷ []) ∷ [];
            servers = server 0 0 0 1 ∷ server 1 6 1 0 ∷ server 2 2 1 0 ∷ server 3 2 1 0 ∷ [];
          };
    }

-- server 0 is emptied before its chunk was prepared: nothing is lost
abbrev pub loss_before_prepare : Row
loss_before_prepare =
    record {
      script = put_and_get (replicate 2 (token.Client 0) ++ token.Wipe 0 ∷ token.Drain ∷ []);
      transcript =
          record no_lines {
            history = replied 0 (client 0 0) reply.Done ∷ replied 1 (client 0 1) (reply.Bytes object_bytes) ∷ [];
            objects = listed (codes "a") 8 ∷ [];
            takes = took (name.Client (client 0 1)) (4 ∷ 4 ∷ 0 ∷ 0 ∷ []) ∷ [];
            servers = server 0 4 1 1 ∷ server 1 4 1 0 ∷ server 2 0 1 0 ∷ server 3 0 1 0 ∷ [];
          };
    }

-- server 0 is emptied right after its chunk was prepared: the put still commits
abbrev pub loss_after_prepare : Row
loss_after_prepare =
    record {
      script = put_and_get (replicate 3 (token.Client 0) ++ token.Wipe 0 ∷ token.Drain ∷ []);
      transcript =
          record no_lines {
            history = replied 0 (client 0 0) reply.Done ∷ replied 1 (client 0 1) (reply.Bytes object_bytes) ∷ [];
            objects = listed (codes "a") 8 ∷ [];
            takes = took (name.Client (client 0 1)) (0 ∷ 6 ∷ 2 ∷ 2 ∷ []) ∷ [];
            servers = server 0 0 0 1 ∷ server 1 6 1 0 ∷ server 2 2 1 0 ∷ server 3 2 1 0 ∷ [];
          };
    }

-- server 0 is emptied after the look of a write: its old bytes are made from the others
abbrev pub loss_before_old_bytes : Row
loss_before_old_bytes =
    record {
      script =
          record small_script {
            clients = record { calls = call.Put (codes "a") (content.Hex (1 ∷ 0 ∷ 0 ∷ 0 ∷ 0 ∷ 0 ∷ 0 ∷ 0 ∷ [])) ∷ call.Write (codes "a") 1 (content.Hex (5 ∷ [])) ∷ call.Get (codes "a") ∷ []; leave = None } ∷ [];
            schedule = replicate 12 (token.Client 0) ++ token.Wipe 0 ∷ token.Drain ∷ [];
          };
      transcript =
          record no_lines {
            history = replied 0 (client 0 0) reply.Done ∷ replied 1 (client 0 1) reply.Done ∷ replied 2 (client 0 2) (reply.Bytes (1 ∷ 5 ∷ 0 ∷ 0 ∷ 0 ∷ 0 ∷ 0 ∷ 0 ∷ [])) ∷ [];
            objects = listed (codes "a") 8 ∷ [];
            takes = took (name.Client (client 0 1)) (0 ∷ 6 ∷ 2 ∷ 2 ∷ []) ∷ took (name.Client (client 0 2)) (4 ∷ 4 ∷ 0 ∷ 0 ∷ []) ∷ [];
            servers = server 0 4 1 1 ∷ server 1 10 1 0 ∷ server 2 2 1 0 ∷ server 3 2 1 0 ∷ [];
          };
    }
