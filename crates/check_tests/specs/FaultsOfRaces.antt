-- Races that weren't lost.
use Rattle.std.specs.Prelude.{[], ◌∷◌, codes}
use Rattle.store_map.specs.declared.call_name.CallName.TheVariants as name
use Rattle.store_map.specs.declared.cause.Cause.TheVariants as cause
use Rattle.store_core.specs.RowLines.{client, refused}
use Rattle.store_core.specs.RowsRaces.{lost_race, race_tried_again}
use Rattle.hist_rules.specs.declared.verdict.Verdict.TheVariants.{BadCause}
use Rattle.check_tests.specs.Judged.{Faulty}

-- one race, where the write has two tries
abbrev pub too_few_races : Faulty
too_few_races =
    record {
      script = race_tried_again.script;
      transcript = lost_race.transcript;
      verdict = BadCause (name.Client (client 1 0)) 2 1;
      line = codes "cause c1.0 2 1\n";
    }

-- the race was lost to a read
abbrev pub lost_to_a_read : Faulty
lost_to_a_read =
    record {
      script = lost_race.script;
      transcript = record lost_race.transcript { refused = refused (client 1 0) (cause.Contended ((1, 2) ∷ [])) ∷ [] };
      verdict = BadCause (name.Client (client 1 0)) 1 0;
      line = codes "cause c1.0 1 0\n";
    }

-- the change that won is the one that the write saw
abbrev pub lost_to_its_base : Faulty
lost_to_its_base =
    record {
      script = lost_race.script;
      transcript = record lost_race.transcript { refused = refused (client 1 0) (cause.Contended ((1, 1) ∷ [])) ∷ [] };
      verdict = BadCause (name.Client (client 1 0)) 1 1;
      line = codes "cause c1.0 1 1\n";
    }

-- a second race that began before the first was lost
abbrev pub races_overlap : Faulty
races_overlap =
    record {
      script = race_tried_again.script;
      transcript = record lost_race.transcript { refused = refused (client 1 0) (cause.Contended ((0, 1) ∷ (0, 1) ∷ [])) ∷ [] };
      verdict = BadCause (name.Client (client 1 0)) 1 0;
      line = codes "cause c1.0 1 0\n";
    }
