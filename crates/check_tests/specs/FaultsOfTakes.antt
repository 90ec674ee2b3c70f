-- Takes that no line tells of, and servers whose lines don't add up.
use Rattle.std.specs.Prelude.{[], ◌∷◌, codes}
use Rattle.store_map.specs.declared.reply.Reply.TheVariants as reply
use Rattle.store_map.specs.declared.call_name.CallName.TheVariants as name
use Rattle.store_core.specs.RowLines.{client, repair, replied, server}
use Rattle.store_core.specs.RowsCalls.{put_then_get}
use Rattle.store_core.specs.RowsRebuilds.{superseded_rebuild}
use Rattle.hist_rules.specs.declared.verdict.Verdict.TheVariants.{Unlisted, BadSums}
use Rattle.check_tests.specs.Judged.{Faulty}

-- a read whose reply is left out, though it took subchunks
abbrev pub read_left_out : Faulty
read_left_out =
    record {
      script = put_then_get.script;
      transcript = record put_then_get.transcript { history = replied 0 (client 0 0) reply.Done ∷ [] };
      verdict = Unlisted (name.Client (client 0 1));
      line = codes "tail open expected O c0.1 got -\n";
    }

-- a rebuild whose result is left out
abbrev pub rebuild_left_out : Faulty
rebuild_left_out =
    record {
      script = superseded_rebuild.script;
      transcript = record superseded_rebuild.transcript { repairs = [] };
      verdict = Unlisted (name.Repairer (repair 0 0));
      line = codes "tail open expected O r0.0 got -\n";
    }

-- a server that gave a subchunk that no call took
abbrev pub given_to_nobody : Faulty
given_to_nobody =
    record {
      script = put_then_get.script;
      transcript = record put_then_get.transcript { servers = server 0 5 1 0 ∷ server 1 4 1 0 ∷ server 2 0 1 0 ∷ server 3 0 1 0 ∷ [] };
      verdict = BadSums 4 0 (server 0 5 1 0);
      line = codes "tail taken expected T 0 4 1 0 got T 0 5 1 0\n";
    }

-- a server that was never emptied and says so
abbrev pub epoch_too_high : Faulty
epoch_too_high =
    record {
      script = put_then_get.script;
      transcript = record put_then_get.transcript { servers = server 0 4 1 0 ∷ server 1 4 1 1 ∷ server 2 0 1 0 ∷ server 3 0 1 0 ∷ [] };
      verdict = BadSums 4 0 (server 1 4 1 1);
      line = codes "tail taken expected T 1 4 1 0 got T 1 4 1 1\n";
    }

-- the takes of a call are left out
abbrev pub takes_left_out : Faulty
takes_left_out =
    record {
      script = put_then_get.script;
      transcript = record put_then_get.transcript { takes = [] };
      verdict = BadSums 0 0 (server 0 4 1 0);
      line = codes "tail taken expected T 0 0 1 0 got T 0 4 1 0\n";
    }
