-- Rows: servers are away when an object is put.
use Rattle.std.specs.Prelude.{ℕ, List, [], ◌∷◌, ◌++◌, replicate, codes}
use Rattle.store_map.specs.declared.actor.Token.{Token}
use Rattle.store_map.specs.declared.actor.Token.TheVariants as token
use Rattle.store_map.specs.declared.placement.Placement.TheVariants as placement
use Rattle.store_map.specs.declared.reply.Reply.TheVariants as reply
use Rattle.store_map.specs.declared.script.Script.{Script}
use Rattle.store_map.specs.declared.call_name.CallName.TheVariants as name
use Rattle.store_map.specs.declared.cause.Cause.TheVariants as cause
use Rattle.store_map.specs.declared.line.TLine.{TLine}
use Rattle.store_map.specs.declared.transcript.Transcript.{Transcript}
use Rattle.store_core.specs.Rows.{Row, object_bytes, put_and_get, no_lines}
use Rattle.store_core.specs.RowLines.{client, replied, refused, listed, took, server, away}

-- a put and a get of an object of one stripe, by this schedule
abbrev pub away_script : List Token → Script
away_script schedule = record (put_and_get schedule) { form = 2 }

-- the get has the object's bytes
abbrev pub bytes_with : List ℕ → List TLine → Transcript
bytes_with takes servers =
    record no_lines {
      history = replied 0 (client 0 0) reply.Done ∷ replied 1 (client 0 1) (reply.Bytes object_bytes) ∷ [];
      objects = listed (codes "a") 8 ∷ [];
      takes = took (name.Client (client 0 1)) takes ∷ [];
      servers = servers;
    }

-- a server was away when the object was put: its chunk is made anew for the get
abbrev pub skipped_by_a_put : Row
skipped_by_a_put =
    record {
      script = away_script (token.Down 0 ∷ replicate 11 (token.Client 0) ++ token.Up 0 ∷ token.Drain ∷ []);
      transcript = bytes_with (0 ∷ 6 ∷ 2 ∷ 2 ∷ []) (server 0 0 0 0 ∷ server 1 6 1 0 ∷ server 2 2 1 0 ∷ server 3 2 1 0 ∷ []);
    }

-- one more than there are parity chunks are away: the put is refused
abbrev pub refused_put : Row
refused_put =
    record {
      script = away_script (token.Down 0 ∷ token.Down 1 ∷ token.Down 2 ∷ token.Drain ∷ []);
      transcript =
          record no_lines {
            history = replied 0 (client 0 1) reply.NoSuch ∷ [];
            refused = refused (client 0 0) (cause.Unavailable 0 (away 0 (placement.Skipped 1) 1 ∷ away 1 (placement.Skipped 1) 1 ∷ away 2 (placement.Skipped 1) 1 ∷ [])) ∷ [];
            servers = server 0 0 0 0 ∷ server 1 0 0 0 ∷ server 2 0 0 0 ∷ server 3 0 0 0 ∷ [];
          };
    }
