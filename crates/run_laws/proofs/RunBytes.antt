-- In every run of a valid script the objects stand for the bytes of the plain map.
use Rattle.std.proofs.Common.{◌≡◌, subst}
use Rattle.store_map.specs.Limits.{size_of}
use Rattle.store_map.specs.declared.script.Script.{Script}
use Rattle.store_core.specs.Directory.{Directory}
use Rattle.store_core.specs.History.{call_of}
use Rattle.store_core.specs.Schedule.{run_core}
use Rattle.store_core.specs.Content.{contents_by}
use Rattle.run_laws.proofs.Scripts.{can_run}
use Rattle.run_laws.specs.MapAfter.{map_by}
use Rattle.run_laws.specs.Contents.{stripes_in, stored_in, HasBytes}
use Rattle.run_laws.specs.ContentLaws.{StepsKeepBytes}
use Rattle.run_laws.specs.RunContents.{StandsForTheMap, AllRunsStandForTheMap}
use Rattle.run_laws.specs.StripeLaws.{AreStripes, StepsKeepStripes}
use Rattle.run_laws.proofs.ContentSteps.{steps_keep_bytes}
use Rattle.run_laws.specs.MoreCalls.{AreDrawnBy, StepsKeepDrawn}
use Rattle.run_laws.proofs.StripesKept.{steps_keep_stripes}
use Rattle.run_laws.specs.PinLaws.{AreServed, StepsKeepServed}
use Rattle.run_laws.proofs.MoreCalls.{steps_keep_drawn}
use Rattle.run_laws.proofs.Served.{steps_keep_served}
use Rattle.run_laws.proofs.DirectoryInvariants.{StepsKeep, Held, runs_hold}

-- what a directory of a run has
abbrev Has : Script → Directory → Type 0
Has script d = HasBytes (call_of script) d × AreStripes (call_of script) d × AreDrawnBy (call_of script) d × AreServed (call_of script) d

-- steps keep it
bytes_keep : (script : Script) → StepsKeep script (Has script)
bytes_keep script =
    let law : StepsKeepBytes (call_of script) = steps_keep_bytes (call_of script) in
    let whole : StepsKeepStripes (call_of script) = steps_keep_stripes (call_of script) in
    let drawn : StepsKeepDrawn (call_of script) = steps_keep_drawn (call_of script) in
    let served : StepsKeepServed (call_of script) = steps_keep_served (call_of script) in
    record {
      first = (law.first script.geometry (size_of script), whole.first script.geometry (size_of script), drawn.first script.geometry (size_of script), served.first script.geometry (size_of script));
      step = λ short who number step d some sound has may called. (
        law.step short who number step d some sound has.0 may called,
        whole.step short who number step d some sound has.0 has.1 may,
        drawn.step short who number step d has.0 has.2 may,
        served.step short who number step d some sound has.0 has.3 may called,
      );
    }

-- the law
pub all_runs_stand_for_the_map : AllRunsStandForTheMap
all_runs_stand_for_the_map script shortages tokens geometry valid =
    record {
      objects = objects (run_core script shortages tokens).directory held.keeps.keeps.shape held.keeps.keeps.max held.holds.0;
      bytes = held.holds.0;
      stripes = held.holds.1;
      drawn = held.holds.2;
      served = held.holds.3;
    }
  where
    held : Held script (Has script) (bytes_keep script) (can_run script geometry valid) (run_core script shortages tokens)
    held = runs_hold script (Has script) (bytes_keep script) (can_run script geometry valid) shortages tokens

    objects : (d : Directory) → d.shape ≡ script.geometry → d.max ≡ size_of script → HasBytes (call_of script) d → StandsForTheMap script d
    objects d shape max has =
        subst (λ n. stored_in (contents_by script.geometry (call_of script) d.versions) d.objects ≡ stripes_in script.geometry (map_by (call_of script) n d.points)) max
        (subst (λ g. stored_in (contents_by g (call_of script) d.versions) d.objects ≡ stripes_in g (map_by (call_of script) d.max d.points)) shape has.contents)
