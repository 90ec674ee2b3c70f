-- Rows: calls that are left or given up.
use Rattle.std.specs.Prelude.{None, Some, [], ◌∷◌, ◌++◌, replicate, codes}
use Rattle.store_map.specs.declared.call.Call.TheVariants as call
use Rattle.store_map.specs.declared.content.Content.TheVariants as content
use Rattle.store_map.specs.declared.reply.Reply.TheVariants as reply
use Rattle.store_map.specs.declared.actor.Token.TheVariants as token
use Rattle.store_map.specs.declared.call_name.CallName.TheVariants as name
use Rattle.store_map.specs.declared.cause.Cause.TheVariants as cause
use Rattle.store_core.specs.Rows.{Row, small_script, no_lines}
use Rattle.store_core.specs.RowLines.{client, replied, unfinished, refused, unanswered, listed, took, server}

-- a put is left before its commit: nothing is stored, and its reap makes its chunks garbage
abbrev pub left_before_commit : Row
left_before_commit =
    record {
      script =
          record small_script {
            clients = record { calls = call.Put (codes "a") (content.Hex (1 ∷ 0 ∷ 0 ∷ 0 ∷ 0 ∷ 0 ∷ 0 ∷ 0 ∷ [])) ∷ []; leave = Some 6 } ∷ record { calls = call.Get (codes "a") ∷ []; leave = None } ∷ [];
            schedule = replicate 6 (token.Client 0) ++ token.Client 1 ∷ token.ReapClient 0 ∷ token.Drain ∷ [];
          };
      transcript =
          record no_lines {
            history = replied 0 (client 1 0) reply.NoSuch ∷ [];
            unanswered = unanswered (name.Client (client 0 0)) ∷ [];
            servers = server 0 0 0 0 ∷ server 1 0 0 0 ∷ server 2 0 0 0 ∷ server 3 0 0 0 ∷ [];
          };
    }

-- a put is left after its commit: it has taken effect, and its caller has no reply
abbrev pub left_after_commit : Row
left_after_commit =
    record {
      script =
          record small_script {
            clients = record { calls = call.Put (codes "a") (content.Hex (1 ∷ 0 ∷ 0 ∷ 0 ∷ 0 ∷ 0 ∷ 0 ∷ 0 ∷ [])) ∷ []; leave = Some 7 } ∷ record { calls = call.Get (codes "a") ∷ []; leave = None } ∷ [];
            schedule = replicate 7 (token.Client 0) ++ token.Drain ∷ [];
          };
      transcript =
          record no_lines {
            history = unfinished 0 (client 0 0) ∷ replied 1 (client 1 0) (reply.Bytes (1 ∷ 0 ∷ 0 ∷ 0 ∷ 0 ∷ 0 ∷ 0 ∷ 0 ∷ [])) ∷ [];
            unanswered = unanswered (name.Client (client 0 0)) ∷ [];
            objects = listed (codes "a") 8 ∷ [];
            takes = took (name.Client (client 1 0)) (4 ∷ 4 ∷ 0 ∷ 0 ∷ []) ∷ [];
            servers = server 0 4 1 0 ∷ server 1 4 1 0 ∷ server 2 0 1 0 ∷ server 3 0 1 0 ∷ [];
          };
    }

-- a put is given up before its commit, and is told so there
abbrev pub reaped_before_commit : Row
reaped_before_commit =
    record {
      script =
          record small_script {
            clients = record { calls = call.Put (codes "a") (content.Hex (1 ∷ 0 ∷ 0 ∷ 0 ∷ 0 ∷ 0 ∷ 0 ∷ 0 ∷ [])) ∷ call.Get (codes "a") ∷ []; leave = None } ∷ [];
            schedule = replicate 6 (token.Client 0) ++ token.ReapClient 0 ∷ token.Client 0 ∷ token.Drain ∷ [];
          };
      transcript =
          record no_lines {
            history = replied 1 (client 0 1) reply.NoSuch ∷ [];
            refused = refused (client 0 0) (cause.Reaped 0) ∷ [];
            servers = server 0 0 0 0 ∷ server 1 0 0 0 ∷ server 2 0 0 0 ∷ server 3 0 0 0 ∷ [];
          };
    }

-- a put goes on to prepare chunks that the sweeper has discarded already
abbrev pub strays_of_a_reaped_put : Row
strays_of_a_reaped_put =
    record {
      script =
          record small_script {
            clients = record { calls = call.Put (codes "a") (content.Hex (1 ∷ 0 ∷ 0 ∷ 0 ∷ 0 ∷ 0 ∷ 0 ∷ 0 ∷ [])) ∷ []; leave = None } ∷ [];
            schedule = replicate 3 (token.Client 0) ++ (token.ReapClient 0 ∷ []) ++ replicate 6 token.Sweep ++ token.Drain ∷ [];
          };
      transcript =
          record no_lines {
            refused = refused (client 0 0) (cause.Reaped 0) ∷ [];
            servers = server 0 0 0 0 ∷ server 1 0 1 0 ∷ server 2 0 1 0 ∷ server 3 0 1 0 ∷ [];
          };
    }
