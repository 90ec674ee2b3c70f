-- Calls that nobody gave up, results of rebuilds that name something else, and servers that were never away.
use Rattle.std.specs.Prelude.{[], ◌∷◌, codes}
use Rattle.store_map.specs.declared.actor.Token.TheVariants as token
use Rattle.store_map.specs.declared.call_name.CallName.TheVariants as name
use Rattle.store_map.specs.declared.cause.Cause.TheVariants as cause
use Rattle.store_map.specs.declared.cause.RepairResult.TheVariants as result
use Rattle.store_core.specs.RowLines.{client, repair, refused, repaired, triple, away}
use Rattle.store_core.specs.RowsCalls.{put_then_get}
use Rattle.store_core.specs.RowsGivenUp.{reaped_before_commit}
use Rattle.store_core.specs.RowsRebuilds.{superseded_rebuild}
use Rattle.store_core.specs.RowsAwayReads.{away_twice_and_emptied, rebuild_of_an_away_server}
use Rattle.store_map.specs.declared.placement.Placement.TheVariants as placement
use Rattle.hist_rules.specs.declared.verdict.Verdict.TheVariants.{BadCause}
use Rattle.check_tests.specs.Judged.{Faulty}

-- a call that is given up, though the schedule gives none up
abbrev pub given_up_by_nobody : Faulty
given_up_by_nobody =
    record {
      script = put_then_get.script;
      transcript = reaped_before_commit.transcript;
      verdict = BadCause (name.Client (client 0 0)) 0 1;
      line = codes "cause c0.0 0 1\n";
    }

-- two calls that are given up by one line of the schedule
abbrev pub given_up_twice : Faulty
given_up_twice =
    record {
      script = reaped_before_commit.script;
      transcript = record reaped_before_commit.transcript { history = []; refused = refused (client 0 0) (cause.Reaped 0) ∷ refused (client 0 1) (cause.Reaped 1) ∷ [] };
      verdict = BadCause (name.Client (client 0 1)) 1 2;
      line = codes "cause c0.1 1 2\n";
    }

-- a rebuild that is too late for a change that isn't there
abbrev pub superseded_by_nothing : Faulty
superseded_by_nothing =
    record {
      script = superseded_rebuild.script;
      transcript = record superseded_rebuild.transcript { repairs = repaired (repair 0 0) (result.Superseded 2) ∷ [] };
      verdict = BadCause (name.Repairer (repair 0 0)) 1 0;
      line = codes "cause r0.0 1 0\n";
    }

-- a rebuild of stripe 0 that lacks chunks of stripe 1
abbrev pub other_stripe : Faulty
other_stripe =
    record {
      script = record superseded_rebuild.script { schedule = token.Wipe 0 ∷ token.Wipe 1 ∷ token.Wipe 2 ∷ token.Drain ∷ [] };
      transcript = record superseded_rebuild.transcript { repairs = repaired (repair 0 0) (result.Unavailable 1 (triple 0 0 1 ∷ triple 1 0 1 ∷ triple 2 0 1 ∷ [])) ∷ [] };
      verdict = BadCause (name.Repairer (repair 0 0)) 0 1;
      line = codes "cause r0.0 0 1\n";
    }

-- a target that was away twice, where the schedule makes it away once
abbrev pub target_never_away : Faulty
target_never_away =
    record {
      script = rebuild_of_an_away_server.script;
      transcript = record rebuild_of_an_away_server.transcript { repairs = repaired (repair 0 0) (result.Away 2) ∷ [] };
      verdict = BadCause (name.Repairer (repair 0 0)) 1 2;
      line = codes "cause r0.0 1 2\n";
    }

-- a server that was away twice, where the schedule makes it away once
abbrev pub never_away : Faulty
never_away =
    record {
      script = away_twice_and_emptied.script;
      transcript =
          record away_twice_and_emptied.transcript { refused = refused (client 0 1) (cause.Unavailable 0 (away 0 (placement.At 0) 1 ∷ away 1 (placement.At 0) 2 ∷ triple 2 0 1 ∷ [])) ∷ [] };
      verdict = BadCause (name.Client (client 0 1)) 1 2;
      line = codes "cause c0.1 1 2\n";
    }
