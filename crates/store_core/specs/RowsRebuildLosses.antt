-- Rows: a second loss while a chunk is rebuilt.
use Rattle.std.specs.Prelude.{None, [], ◌∷◌, ◌++◌, replicate, codes}
use Rattle.store_map.specs.declared.call.Call.TheVariants as call
use Rattle.store_map.specs.declared.content.Content.TheVariants as content
use Rattle.store_map.specs.declared.reply.Reply.TheVariants as reply
use Rattle.store_map.specs.declared.actor.Token.TheVariants as token
use Rattle.store_map.specs.declared.call_name.CallName.TheVariants as name
use Rattle.store_map.specs.declared.cause.RepairResult.TheVariants as result
use Rattle.store_core.specs.Rows.{Row, small_script, no_lines}
use Rattle.store_core.specs.RowLines.{client, repair, replied, repaired, listed, took, server}

-- a second server is emptied while the rebuild asks who has the chunk: it was asked already and is missed when it is fetched from
abbrev pub loss_while_looking : Row
loss_while_looking =
    record {
      script =
          record small_script {
            clients = record { calls = call.Put (codes "a") (content.Hex (1 ∷ 0 ∷ 0 ∷ 0 ∷ 0 ∷ 0 ∷ 0 ∷ 0 ∷ [])) ∷ []; leave = None } ∷ [];
            repairers = record { calls = record { name = codes "a"; stripe = 0; server = 0 } ∷ []; leave = None } ∷ [];
            schedule = replicate 11 (token.Client 0) ++ (token.Wipe 0 ∷ []) ++ replicate 5 (token.Repairer 0) ++ token.Wipe 1 ∷ token.Drain ∷ [];
          };
      transcript =
          record no_lines {
            history = replied 0 (client 0 0) reply.Done ∷ [];
            repairs = repaired (repair 0 0) result.Rebuilt ∷ [];
            objects = listed (codes "a") 8 ∷ [];
            takes = took (name.Repairer (repair 0 0)) (0 ∷ 0 ∷ 4 ∷ 4 ∷ []) ∷ [];
            servers = server 0 0 1 1 ∷ server 1 0 0 1 ∷ server 2 4 1 0 ∷ server 3 4 1 0 ∷ [];
          };
    }

-- a second server is emptied after its part was fetched
abbrev pub loss_while_fetching : Row
loss_while_fetching =
    record {
      script =
          record small_script {
            clients = record { calls = call.Put (codes "a") (content.Hex (1 ∷ 0 ∷ 0 ∷ 0 ∷ 0 ∷ 0 ∷ 0 ∷ 0 ∷ [])) ∷ []; leave = None } ∷ [];
            repairers = record { calls = record { name = codes "a"; stripe = 0; server = 0 } ∷ []; leave = None } ∷ [];
            schedule = replicate 11 (token.Client 0) ++ (token.Wipe 0 ∷ []) ++ replicate 6 (token.Repairer 0) ++ token.Wipe 1 ∷ token.Drain ∷ [];
          };
      transcript =
          record no_lines {
            history = replied 0 (client 0 0) reply.Done ∷ [];
            repairs = repaired (repair 0 0) result.Rebuilt ∷ [];
            objects = listed (codes "a") 8 ∷ [];
            takes = took (name.Repairer (repair 0 0)) (0 ∷ 2 ∷ 2 ∷ 2 ∷ []) ∷ [];
            servers = server 0 0 1 1 ∷ server 1 2 0 1 ∷ server 2 2 1 0 ∷ server 3 2 1 0 ∷ [];
          };
    }
