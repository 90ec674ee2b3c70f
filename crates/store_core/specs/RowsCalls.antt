-- Rows: calls without losses.
use Rattle.std.specs.Prelude.{None, Some, [], ◌∷◌, codes}
use Rattle.store_map.specs.declared.call.Call.TheVariants as call
use Rattle.store_map.specs.declared.content.Content.TheVariants as content
use Rattle.store_map.specs.declared.reply.Reply.TheVariants as reply
use Rattle.store_map.specs.declared.actor.Token.TheVariants as token
use Rattle.store_map.specs.declared.call_name.CallName.TheVariants as name
use Rattle.store_map.specs.declared.cause.RepairResult.TheVariants as result
use Rattle.store_core.specs.Rows.{Row, small_script, no_lines}
use Rattle.store_core.specs.RowLines.{client, repair, replied, repaired, listed, took, server}

-- an object of one stripe is put and read: the data chunks alone are fetched
abbrev pub put_then_get : Row
put_then_get =
    record {
      script =
          record small_script {
            clients = record { calls = call.Put (codes "a") (content.Hex (1 ∷ 0 ∷ 0 ∷ 0 ∷ 0 ∷ 0 ∷ 0 ∷ 0 ∷ [])) ∷ call.Get (codes "a") ∷ []; leave = None } ∷ [];
            schedule = token.Drain ∷ [];
          };
      transcript =
          record no_lines {
            history = replied 0 (client 0 0) reply.Done ∷ replied 1 (client 0 1) (reply.Bytes (1 ∷ 0 ∷ 0 ∷ 0 ∷ 0 ∷ 0 ∷ 0 ∷ 0 ∷ [])) ∷ [];
            objects = listed (codes "a") 8 ∷ [];
            takes = took (name.Client (client 0 1)) (4 ∷ 4 ∷ 0 ∷ 0 ∷ []) ∷ [];
            servers = server 0 4 1 0 ∷ server 1 4 1 0 ∷ server 2 0 1 0 ∷ server 3 0 1 0 ∷ [];
          };
    }

-- an object without bytes has no stripe
abbrev pub empty_object : Row
empty_object =
    record {
      script =
          record small_script {
            clients = record { calls = call.Put (codes "e") (content.Fill 0 0) ∷ call.Get (codes "e") ∷ call.ReadAt (codes "e") 0 0 ∷ call.ReadAt (codes "e") 1 0 ∷ []; leave = None } ∷ [];
            schedule = token.Drain ∷ [];
          };
      transcript =
          record no_lines {
            history = replied 0 (client 0 0) reply.Done ∷ replied 1 (client 0 1) (reply.Bytes []) ∷ replied 2 (client 0 2) (reply.Bytes []) ∷ replied 3 (client 0 3) reply.OutRange ∷ [];
            objects = listed (codes "e") 0 ∷ [];
            servers = server 0 0 0 0 ∷ server 1 0 0 0 ∷ server 2 0 0 0 ∷ server 3 0 0 0 ∷ [];
          };
    }

-- the reasons to refuse, in their order, and a rebuild of an object that is gone
abbrev pub each_refusal : Row
each_refusal =
    record {
      script =
          record small_script {
            size = Some 10;
            clients = record { calls = call.Write (codes "a") 0 (content.Hex (0 ∷ [])) ∷ call.Put (codes "a") (content.Fill 0 11) ∷ call.Put (codes "a") (content.Fill 0 8) ∷ call.Write (codes "a") 9 (content.Fill 0 9) ∷ call.Write (codes "a") 8 (content.Hex (1 ∷ 2 ∷ [])) ∷ call.Write (codes "a") 9 (content.Hex (1 ∷ 2 ∷ [])) ∷ call.Stat (codes "a") ∷ call.ReadAt (codes "a") 7 100 ∷ call.Delete (codes "a") ∷ call.Delete (codes "a") ∷ []; leave = None } ∷ [];
            repairers = record { calls = record { name = codes "a"; stripe = 0; server = 0 } ∷ []; leave = None } ∷ [];
            schedule = token.Drain ∷ [];
          };
      transcript =
          record no_lines {
            history = replied 0 (client 0 0) reply.NoSuch ∷ replied 1 (client 0 1) reply.TooLarge ∷ replied 2 (client 0 2) reply.Done ∷ replied 3 (client 0 3) reply.OutRange ∷ replied 4 (client 0 4) reply.Done ∷ replied 5 (client 0 5) reply.TooLarge ∷ replied 6 (client 0 6) (reply.Length 10) ∷ replied 7 (client 0 7) (reply.Bytes (0 ∷ 1 ∷ 2 ∷ [])) ∷ replied 8 (client 0 8) reply.Done ∷ replied 9 (client 0 9) reply.NoSuch ∷ [];
            repairs = repaired (repair 0 0) result.NoSuch ∷ [];
            takes = took (name.Client (client 0 7)) (2 ∷ 1 ∷ 0 ∷ 0 ∷ []) ∷ [];
            servers = server 0 2 0 0 ∷ server 1 1 0 0 ∷ server 2 0 0 0 ∷ server 3 0 0 0 ∷ [];
          };
    }
