-- Rows: two or three servers are emptied.
use Rattle.std.specs.Prelude.{[], ◌∷◌, ◌++◌, replicate, codes}
use Rattle.store_map.specs.declared.reply.Reply.TheVariants as reply
use Rattle.store_map.specs.declared.actor.Token.TheVariants as token
use Rattle.store_map.specs.declared.call_name.CallName.TheVariants as name
use Rattle.store_map.specs.declared.cause.Cause.TheVariants as cause
use Rattle.store_core.specs.Rows.{Row, object_bytes, put_and_get, no_lines}
use Rattle.store_core.specs.RowLines.{client, replied, refused, listed, took, server, triple}

-- two were emptied: whole chunks are fetched
abbrev pub read_after_two_losses : Row
read_after_two_losses =
    record {
      script = put_and_get (replicate 11 (token.Client 0) ++ token.Wipe 0 ∷ token.Wipe 1 ∷ token.Drain ∷ []);
      transcript =
          record no_lines {
            history = replied 0 (client 0 0) reply.Done ∷ replied 1 (client 0 1) (reply.Bytes object_bytes) ∷ [];
            objects = listed (codes "a") 8 ∷ [];
            takes = took (name.Client (client 0 1)) (0 ∷ 0 ∷ 4 ∷ 4 ∷ []) ∷ [];
            servers = server 0 0 0 1 ∷ server 1 0 0 1 ∷ server 2 4 1 0 ∷ server 3 4 1 0 ∷ [];
          };
    }

-- three were emptied, one more than there are parity chunks
abbrev pub read_after_three_losses : Row
read_after_three_losses =
    record {
      script = put_and_get (replicate 11 (token.Client 0) ++ token.Wipe 0 ∷ token.Wipe 1 ∷ token.Wipe 2 ∷ token.Drain ∷ []);
      transcript =
          record no_lines {
            history = replied 0 (client 0 0) reply.Done ∷ [];
            refused = refused (client 0 1) (cause.Unavailable 0 (triple 0 0 1 ∷ triple 1 0 1 ∷ triple 2 0 1 ∷ [])) ∷ [];
            objects = listed (codes "a") 8 ∷ [];
            servers = server 0 0 0 1 ∷ server 1 0 0 1 ∷ server 2 0 0 1 ∷ server 3 0 1 0 ∷ [];
          };
    }

-- three servers are emptied when one has its chunk
abbrev pub one_of_three_lost : Row
one_of_three_lost =
    record {
      script = put_and_get (replicate 3 (token.Client 0) ++ token.Wipe 0 ∷ token.Wipe 1 ∷ token.Wipe 2 ∷ token.Drain ∷ []);
      transcript =
          record no_lines {
            history = replied 0 (client 0 0) reply.Done ∷ replied 1 (client 0 1) (reply.Bytes object_bytes) ∷ [];
            objects = listed (codes "a") 8 ∷ [];
            takes = took (name.Client (client 0 1)) (0 ∷ 6 ∷ 2 ∷ 2 ∷ []) ∷ [];
            servers = server 0 0 0 1 ∷ server 1 6 1 1 ∷ server 2 2 1 1 ∷ server 3 2 1 0 ∷ [];
          };
    }

-- three servers are emptied when all of them have theirs
abbrev pub three_of_three_lost : Row
three_of_three_lost =
    record {
      script = put_and_get (replicate 5 (token.Client 0) ++ token.Wipe 0 ∷ token.Wipe 1 ∷ token.Wipe 2 ∷ token.Drain ∷ []);
      transcript =
          record no_lines {
            history = replied 0 (client 0 0) reply.Done ∷ [];
            refused = refused (client 0 1) (cause.Unavailable 0 (triple 0 0 1 ∷ triple 1 0 1 ∷ triple 2 0 1 ∷ [])) ∷ [];
            objects = listed (codes "a") 8 ∷ [];
            servers = server 0 0 0 1 ∷ server 1 0 0 1 ∷ server 2 0 0 1 ∷ server 3 0 1 0 ∷ [];
          };
    }
