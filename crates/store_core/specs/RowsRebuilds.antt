-- Rows: rebuilds.
use Rattle.std.specs.Prelude.{None, [], ◌∷◌, ◌++◌, replicate, codes}
use Rattle.store_map.specs.declared.call.Call.TheVariants as call
use Rattle.store_map.specs.declared.content.Content.TheVariants as content
use Rattle.store_map.specs.declared.reply.Reply.TheVariants as reply
use Rattle.store_map.specs.declared.actor.Token.TheVariants as token
use Rattle.store_map.specs.declared.call_name.CallName.TheVariants as name
use Rattle.store_map.specs.declared.cause.RepairResult.TheVariants as result
use Rattle.store_core.specs.Rows.{Row, small_script, no_lines}
use Rattle.store_core.specs.RowLines.{client, repair, replied, repaired, listed, took, server}

-- a put replaces the version before the rebuild has confirmed it: nothing is installed
abbrev pub superseded_rebuild : Row
superseded_rebuild =
    record {
      script =
          record small_script {
            clients = record { calls = call.Put (codes "a") (content.Hex (1 ∷ 0 ∷ 0 ∷ 0 ∷ 0 ∷ 0 ∷ 0 ∷ 0 ∷ [])) ∷ call.Put (codes "a") (content.Hex (2 ∷ 0 ∷ 0 ∷ 0 ∷ 0 ∷ 0 ∷ 0 ∷ 0 ∷ [])) ∷ []; leave = None } ∷ [];
            repairers = record { calls = record { name = codes "a"; stripe = 0; server = 0 } ∷ []; leave = None } ∷ [];
            schedule = replicate 11 (token.Client 0) ++ (token.Wipe 0 ∷ []) ++ replicate 8 (token.Repairer 0) ++ replicate 11 (token.Client 0) ++ token.Drain ∷ [];
          };
      transcript =
          record no_lines {
            history = replied 0 (client 0 0) reply.Done ∷ replied 1 (client 0 1) reply.Done ∷ [];
            repairs = repaired (repair 0 0) (result.Superseded 1) ∷ [];
            objects = listed (codes "a") 8 ∷ [];
            takes = took (name.Repairer (repair 0 0)) (0 ∷ 2 ∷ 2 ∷ 2 ∷ []) ∷ [];
            servers = server 0 0 1 1 ∷ server 1 2 1 0 ∷ server 2 2 1 0 ∷ server 3 2 1 0 ∷ [];
          };
    }

-- a rebuild reads the repair layers of the others; a second one finds its chunk there
abbrev pub rebuilt_then_here : Row
rebuilt_then_here =
    record {
      script =
          record small_script {
            geometry = record { data_count = 3; parity_count = 2; width = 1 };
            clients = record { calls = call.Put (codes "a") (content.Ramp 0 24) ∷ call.Get (codes "a") ∷ []; leave = None } ∷ [];
            repairers = record { calls = record { name = codes "a"; stripe = 0; server = 1 } ∷ record { name = codes "a"; stripe = 0; server = 1 } ∷ []; leave = None } ∷ [];
            schedule = replicate 13 (token.Client 0) ++ (token.Wipe 1 ∷ []) ++ replicate 13 (token.Repairer 0) ++ token.Wipe 0 ∷ token.Drain ∷ [];
          };
      transcript =
          record no_lines {
            history = replied 0 (client 0 0) reply.Done ∷ replied 1 (client 0 1) (reply.Bytes (0 ∷ 1 ∷ 2 ∷ 3 ∷ 4 ∷ 5 ∷ 6 ∷ 7 ∷ 8 ∷ 9 ∷ 10 ∷ 11 ∷ 12 ∷ 13 ∷ 14 ∷ 15 ∷ 16 ∷ 17 ∷ 18 ∷ 19 ∷ 20 ∷ 21 ∷ 22 ∷ 23 ∷ [])) ∷ [];
            repairs = repaired (repair 0 0) result.Rebuilt ∷ repaired (repair 0 1) result.Here ∷ [];
            objects = listed (codes "a") 24 ∷ [];
            takes = took (name.Client (client 0 1)) (0 ∷ 12 ∷ 12 ∷ 4 ∷ 4 ∷ []) ∷ took (name.Repairer (repair 0 0)) (4 ∷ 0 ∷ 4 ∷ 4 ∷ 4 ∷ []) ∷ [];
            servers = server 0 4 0 1 ∷ server 1 12 1 1 ∷ server 2 16 1 0 ∷ server 3 8 1 0 ∷ server 4 8 1 0 ∷ [];
          };
    }
