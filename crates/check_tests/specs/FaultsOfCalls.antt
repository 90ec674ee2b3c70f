-- Lines of calls that the script hasn't, or that stand out of order.
use Rattle.std.specs.Prelude.{[], ◌∷◌, ◌++◌, codes}
use Rattle.store_map.specs.declared.reply.Reply.TheVariants as reply
use Rattle.store_map.specs.declared.call_name.CallName.TheVariants as name
use Rattle.store_core.specs.RowLines.{client, repair, replied, took}
use Rattle.store_core.specs.RowsCalls.{put_then_get}
use Rattle.hist_rules.specs.declared.verdict.Verdict.TheVariants.{Misplaced}
use Rattle.check_tests.specs.Judged.{Faulty}

-- a third call of a client that has two
abbrev pub call_too_many : Faulty
call_too_many =
    record {
      script = put_then_get.script;
      transcript = record put_then_get.transcript { history = put_then_get.transcript.history ++ replied 2 (client 0 2) reply.NoSuch ∷ [] };
      verdict = Misplaced (name.Client (client 0 2)) 2 2;
      line = codes "misplaced c0.2 2 2\n";
    }

-- takes of a repairer that the script hasn't
abbrev pub actor_too_many : Faulty
actor_too_many =
    record {
      script = put_then_get.script;
      transcript = record put_then_get.transcript { takes = put_then_get.transcript.takes ++ took (name.Repairer (repair 0 0)) (4 ∷ 4 ∷ 0 ∷ 0 ∷ []) ∷ [] };
      verdict = Misplaced (name.Repairer (repair 0 0)) 0 0;
      line = codes "misplaced r0.0 0 0\n";
    }

-- two calls at one point
abbrev pub point_twice : Faulty
point_twice =
    record {
      script = put_then_get.script;
      transcript = record put_then_get.transcript { history = replied 3 (client 0 0) reply.Done ∷ replied 3 (client 0 1) reply.NoSuch ∷ [] };
      verdict = Misplaced (name.Client (client 0 1)) 3 3;
      line = codes "misplaced c0.1 3 3\n";
    }

-- a client's second call stands before its first
abbrev pub calls_swapped : Faulty
calls_swapped =
    record {
      script = put_then_get.script;
      transcript = record put_then_get.transcript { history = replied 0 (client 0 1) reply.NoSuch ∷ replied 1 (client 0 0) reply.Done ∷ [] };
      verdict = Misplaced (name.Client (client 0 0)) 1 0;
      line = codes "misplaced c0.0 1 0\n";
    }
