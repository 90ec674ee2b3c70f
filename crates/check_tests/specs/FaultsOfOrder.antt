-- Answers that are left out, or come twice.
use Rattle.std.specs.Prelude.{[], ◌∷◌, codes}
use Rattle.store_map.specs.declared.reply.Reply.TheVariants as reply
use Rattle.store_map.specs.declared.call_name.CallName.TheVariants as name
use Rattle.store_map.specs.declared.cause.Cause.TheVariants as cause
use Rattle.store_core.specs.RowLines.{client, replied, refused, unanswered}
use Rattle.store_core.specs.RowsCalls.{put_then_get}
use Rattle.store_core.specs.RowsGivenUp.{left_after_commit}
use Rattle.hist_rules.specs.declared.verdict.Verdict.TheVariants.{Misplaced}
use Rattle.check_tests.specs.Judged.{Faulty}

-- the second call is answered, the first one's line is left out
abbrev pub answer_left_out : Faulty
answer_left_out =
    record {
      script = put_then_get.script;
      transcript = record put_then_get.transcript { history = replied 1 (client 0 1) reply.NoSuch ∷ []; objects = []; takes = [] };
      verdict = Misplaced (name.Client (client 0 1)) 0 1;
      line = codes "misplaced c0.1 0 1\n";
    }

-- a call that is answered, and refused as well
abbrev pub answered_twice : Faulty
answered_twice =
    record {
      script = put_then_get.script;
      transcript = record put_then_get.transcript { refused = refused (client 0 0) cause.NoMemory ∷ [] };
      verdict = Misplaced (name.Client (client 0 0)) 1 0;
      line = codes "misplaced c0.0 1 0\n";
    }

-- a put that took effect without a reply, and whose line that says so is left out
abbrev pub open_call_left_out : Faulty
open_call_left_out =
    record {
      script = left_after_commit.script;
      transcript = record left_after_commit.transcript { unanswered = [] };
      verdict = Misplaced (name.Client (client 0 0)) 0 1;
      line = codes "misplaced c0.0 0 1\n";
    }

-- a call that is answered, and said to have no reply
abbrev pub answered_and_open : Faulty
answered_and_open =
    record {
      script = put_then_get.script;
      transcript = record put_then_get.transcript { unanswered = unanswered (name.Client (client 0 1)) ∷ [] };
      verdict = Misplaced (name.Client (client 0 1)) 2 1;
      line = codes "misplaced c0.1 2 1\n";
    }
