-- A run of a schedule, token by token, with its steps, and what it shows.
use Rattle.std.proofs.Common.{◌≡◌, List, [], ◌++◌, refl, sym, ap, subst, ◌∙◌}
use Rattle.clay_grid.specs.Limits.{IsGeometry}
use Rattle.store_map.specs.Naming.{IsValid}
use Rattle.store_map.specs.declared.actor.Token.{Token}
use Rattle.store_map.specs.declared.script.Script.{Script}
use Rattle.store_map.specs.declared.transcript.Transcript.{Transcript}
use Rattle.store_core.specs.Shown.{shown, shown_of}
use Rattle.store_core.specs.Step.{Shortage}
use Rattle.history_laws.specs.Trace.{Made}
use Rattle.history_laws.specs.Steps.{run_trace}
use Rattle.history_laws.proofs.Ample.{ample_runs_are_one}
use Rattle.history_laws.proofs.Plays.{runs_are_faithful, runs_are_played}
use Rattle.history_laws.proofs.Shows.{runs_show_histories}
use Rattle.call_steps.specs.declared.step_made.Step.{Step}
use Rattle.world_laws.specs.StepsTold.{AreSteps}
use Rattle.world_laws.specs.World.{WorldOf}
use Rattle.world_laws.specs.Known.{core_of}
use Rattle.world_laws.specs.Goes.{IsReachedBy}
use Rattle.world_laws.proofs.Shows.{worlds_show}
use Rattle.world_laws.specs.Traced.{IsTracedAfter, GoesTelling}
use Rattle.world_laws.proofs.Traces.{traces_go_on}
use Rattle.store_world.specs.Traced.{IsTracedRun}
use Rattle.store_world.specs.Watched.{ComesBy}

module _ (script : Script) where
  -- no token has made no step
  pub first_comes : (w : WorldOf) → IsReachedBy script [] w → ComesBy script [] w []
  first_comes w first = record { shortages = first.shortages; by = record { reaches = first.reaches; traced = λ more. refl } }

  -- some tokens more
  pub more_come : (past next : List Token) (w after : WorldOf) (made more : List Made) → ComesBy script past w made → GoesTelling script next w after more → ComesBy script (past ++ next) after (made ++ more)
  more_come past next w after made more sofar tells =
      let on : IsTracedAfter script (past ++ next) sofar.shortages after (made ++ more) = tells past sofar.shortages made sofar.by in
      record { shortages = sofar.shortages ++ on.more; by = on.by }

  -- the trace of a run with these wants of memory, and what it shows
  played_so : (steps : List Step) (ms : List Shortage) → IsGeometry script.geometry → IsValid script → AreSteps steps (run_trace script ms script.schedule)
      → IsTracedRun script steps (shown_of script ms)
  played_so steps ms geometry valid are =
      record {
        played = record {
          shortages = ms;
          shows = refl;
          ample = λ all. ap (shown script) (ample_runs_are_one script ms all script.schedule);
          faithful = runs_are_faithful script ms geometry valid script.schedule (runs_show_histories script ms geometry valid);
          finished = (runs_are_played script ms geometry valid).finished;
        };
        are = are;
      }

  -- what the world shows after the whole schedule, and the steps that led there
  pub run_is_traced : (w : WorldOf) (steps : List Step) (made : List Made) (t : Transcript) → IsGeometry script.geometry → IsValid script → ComesBy script script.schedule w made → AreSteps steps made
      → t ≡ shown script (core_of script w) → IsTracedRun script steps t
  run_is_traced w steps made t geometry valid comes are shows =
      let ms : List Shortage = comes.shortages in
      let e : t ≡ shown_of script ms = shows ∙ (worlds_show script w).run script.schedule ms comes.by.reaches in
      let trace : run_trace script ms script.schedule ≡ made = ((traces_go_on script).ends script.schedule ms w made comes.by).trace in
      subst (IsTracedRun script steps) (sym e) (played_so steps ms geometry valid (subst (λ (l : List Made). AreSteps steps l) (sym trace) are))
