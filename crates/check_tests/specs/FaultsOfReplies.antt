-- Replies and objects that aren't the plain map's.
use Rattle.std.specs.Prelude.{[], ◌∷◌, ◌++◌, None, Some, codes}
use Rattle.store_map.specs.declared.reply.Reply.TheVariants as reply
use Rattle.store_map.specs.declared.call_name.CallName.TheVariants as name
use Rattle.store_map.specs.declared.shown.Shown.TheVariants as shown
use Rattle.store_core.specs.RowLines.{client, replied, unfinished, listed}
use Rattle.store_core.specs.RowsCalls.{put_then_get}
use Rattle.hist_rules.specs.declared.verdict.Verdict.TheVariants.{Differs, BadObject}
use Rattle.check_tests.specs.Judged.{Faulty}

-- a read that shows another byte than was put
abbrev pub other_bytes : Faulty
other_bytes =
    record {
      script = put_then_get.script;
      transcript = record put_then_get.transcript { history = replied 0 (client 0 0) reply.Done ∷ replied 1 (client 0 1) (reply.Bytes (2 ∷ 0 ∷ 0 ∷ 0 ∷ 0 ∷ 0 ∷ 0 ∷ 0 ∷ [])) ∷ [] };
      verdict = Differs (name.Client (client 0 1)) (reply.Bytes (1 ∷ 0 ∷ 0 ∷ 0 ∷ 0 ∷ 0 ∷ 0 ∷ 0 ∷ [])) (shown.Reply (reply.Bytes (2 ∷ 0 ∷ 0 ∷ 0 ∷ 0 ∷ 0 ∷ 0 ∷ 0 ∷ [])));
      line = codes "differs c0.1 expected bytes hex:0100000000000000 got bytes hex:0200000000000000\n";
    }

-- a read can't take effect without a reply
abbrev pub open_read : Faulty
open_read =
    record {
      script = put_then_get.script;
      transcript = record put_then_get.transcript { history = replied 0 (client 0 0) reply.Done ∷ unfinished 1 (client 0 1) ∷ [] };
      verdict = Differs (name.Client (client 0 1)) (reply.Bytes (1 ∷ 0 ∷ 0 ∷ 0 ∷ 0 ∷ 0 ∷ 0 ∷ 0 ∷ [])) shown.Unfinished;
      line = codes "differs c0.1 expected bytes hex:0100000000000000 got open\n";
    }

-- the object is gone at the end
abbrev pub object_left_out : Faulty
object_left_out =
    record {
      script = put_then_get.script;
      transcript = record put_then_get.transcript { objects = [] };
      verdict = BadObject (Some (listed (codes "a") 8)) None;
      line = codes "tail list expected L a 8 got -\n";
    }

-- it is longer than it was put
abbrev pub object_longer : Faulty
object_longer =
    record {
      script = put_then_get.script;
      transcript = record put_then_get.transcript { objects = listed (codes "a") 9 ∷ [] };
      verdict = BadObject (Some (listed (codes "a") 8)) (Some (listed (codes "a") 9));
      line = codes "tail list expected L a 8 got L a 9\n";
    }

-- an object that nobody put
abbrev pub object_too_many : Faulty
object_too_many =
    record {
      script = put_then_get.script;
      transcript = record put_then_get.transcript { objects = put_then_get.transcript.objects ++ listed (codes "b") 0 ∷ [] };
      verdict = BadObject None (Some (listed (codes "b") 0));
      line = codes "tail list expected - got L b 0\n";
    }
