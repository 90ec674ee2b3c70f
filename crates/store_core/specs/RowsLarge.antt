-- Rows: a script of three clients and two repairers over twelve servers, and one without calls over twenty.
use Rattle.std.specs.Prelude.{[], ◌∷◌, ◌++◌, Some, None, List, map, replicate, codes}
use Rattle.std.specs.List.{range_with_len}
use Rattle.store_map.specs.Content.{ramp_of}
use Rattle.store_map.specs.declared.call.Call.TheVariants as call
use Rattle.store_map.specs.declared.content.Content.TheVariants as content
use Rattle.store_map.specs.declared.reply.Reply.TheVariants as reply
use Rattle.store_map.specs.declared.actor.Token.TheVariants as token
use Rattle.store_map.specs.declared.script.ClientPart.{ClientPart}
use Rattle.store_map.specs.declared.script.RepairPart.{RepairPart}
use Rattle.store_map.specs.declared.call_name.CallName.TheVariants as name
use Rattle.store_map.specs.declared.cause.RepairResult.TheVariants as result
use Rattle.store_core.specs.Rows.{Row, small_script, no_lines}
use Rattle.store_core.specs.RowLines.{client, repair, replied, repaired, listed, took, server}

-- two objects of four stripes; a write that grows the first, and calls that read both
abbrev pub three_clients : List ClientPart
three_clients =
    record {
      calls =
          call.Put (codes "log") (content.Ramp 0 100000) ∷ call.Write (codes "log") 100000 (content.Fill 170 3000)
          ∷ call.Stat (codes "log") ∷ [];
      leave = None;
    }
    ∷ record { calls = call.Put (codes "img") (content.Fill 7 100000) ∷ call.ReadAt (codes "img") 98304 1696 ∷ []; leave = None }
    ∷ record { calls = call.ReadAt (codes "log") 8192 4096 ∷ call.ReadAt (codes "log") 99998 4 ∷ []; leave = None }
    ∷ []

-- the chunks of both emptied servers are made anew for some stripes
abbrev pub two_repairers : List RepairPart
two_repairers =
    record {
      calls = record { name = codes "log"; stripe = 0; server = 2 } ∷ record { name = codes "log"; stripe = 0; server = 9 } ∷ [];
      leave = None;
    }
    ∷ record { calls = record { name = codes "img"; stripe = 3; server = 2 } ∷ []; leave = None }
    ∷ []

-- both puts are made, two servers are emptied, and the rest takes turns
abbrev pub many_actors : Row
many_actors =
    record {
      script =
          record small_script {
            geometry = record { data_count = 8; parity_count = 4; width = 64 };
            size = Some 200000;
            clients = three_clients;
            repairers = two_repairers;
            schedule = replicate 99 (token.Client 0) ++ replicate 99 (token.Client 1) ++ token.Wipe 2 ∷ token.Wipe 9 ∷ token.Drain ∷ [];
          };
      transcript =
          record no_lines {
            history =
                replied 0 (client 0 0) reply.Done ∷ replied 1 (client 1 0) reply.Done
                ∷ replied 2 (client 1 1) (reply.Bytes (replicate 1696 7)) ∷ replied 3 (client 2 0) (reply.Bytes (ramp_of 0 4096))
                ∷ replied 4 (client 0 1) reply.Done ∷ replied 5 (client 2 1) (reply.Bytes (158 ∷ 159 ∷ 170 ∷ 170 ∷ []))
                ∷ replied 6 (client 0 2) (reply.Length 103000) ∷ [];
            repairs =
                repaired (repair 0 0) result.Rebuilt ∷ repaired (repair 0 1) result.Rebuilt ∷ repaired (repair 1 0) result.Rebuilt
                ∷ [];
            objects = listed (codes "log") 103000 ∷ listed (codes "img") 100000 ∷ [];
            takes =
                took (name.Client (client 0 1)) (27 ∷ replicate 11 0) ∷ took (name.Client (client 1 1)) (27 ∷ replicate 11 0)
                ∷ took (name.Client (client 2 0)) (64 ∷ 64 ∷ 0 ∷ replicate 6 64 ++ replicate 3 0) ∷ took (name.Client (client 2 1)) (1 ∷ replicate 11 0)
                ∷ took (name.Repairer (repair 0 0)) (64 ∷ 64 ∷ 0 ∷ replicate 6 64 ++ replicate 3 0)
                ∷ took (name.Repairer (repair 0 1)) (replicate 9 16 ++ 0 ∷ 16 ∷ 16 ∷ [])
                ∷ took (name.Repairer (repair 1 0)) (64 ∷ 64 ∷ 0 ∷ replicate 6 64 ++ replicate 3 0) ∷ [];
            servers =
                server 0 263 8 0 ∷ server 1 208 8 0 ∷ server 2 16 3 1 ∷ map (λ j. server j 208 8 0) (range_with_len 3 6)
                ++ server 9 0 2 1 ∷ server 10 16 8 0 ∷ server 11 16 8 0 ∷ [];
          };
    }

-- no client, and an empty schedule
abbrev pub no_calls : Row
no_calls =
    record {
      script = record small_script { geometry = record { data_count = 16; parity_count = 4; width = 1 } };
      transcript = record no_lines { servers = map (λ j. server j 0 0 0) (range_with_len 0 20) };
    }
