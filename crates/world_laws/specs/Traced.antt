-- A world that tokens reach, with the trace of their run.
use Rattle.std.specs.Prelude.{◌≡◌, List, [], ◌++◌}
use Rattle.store_map.specs.declared.actor.Token.{Token}
use Rattle.store_map.specs.declared.script.Script.{Script}
use Rattle.store_core.specs.Schedule.{run_core}
use Rattle.store_core.specs.Step.{Shortage}
use Rattle.history_laws.specs.Trace.{Made}
use Rattle.history_laws.specs.Steps.{run_trace}
use Rattle.world_laws.specs.World.{WorldOf}
use Rattle.world_laws.specs.StandsFor.{StandsFor}
use Rattle.world_laws.specs.FirstWorld.{IsFirstWorld}
use Rattle.world_laws.specs.RunLaws.{Reaches}
use Rattle.world_laws.specs.Goes.{IsReached}
use Rattle.world_laws.specs.Telling.{LeadsTelling}

-- the run of these tokens comes to the world, uses up these shortages and no others, and has this trace
pub record IsTracedBy (script : Script) (tokens : List Token) (shortages : List Shortage) (w : WorldOf) (made : List Made) : Type 0 where
  pub reaches : Reaches script tokens shortages w
  pub traced : (more : List Shortage) → run_trace script (shortages ++ more) tokens ≡ made

-- some tokens do
pub record IsTraced (script : Script) (w : WorldOf) : Type 0 where
  pub tokens : List Token
  pub shortages : List Shortage
  pub made : List Made
  pub by : IsTracedBy script tokens shortages w made

-- these tokens do, with these shortages and then some more
pub record IsTracedAfter (script : Script) (tokens : List Token) (shortages : List Shortage) (w : WorldOf) (made : List Made) : Type 0 where
  pub more : List Shortage
  pub by : IsTracedBy script tokens (shortages ++ more) w made

-- whatever tokens reach the first world, with whatever shortages and trace, these after them reach the second one with the same shortages before, and these steps at the trace's end
abbrev pub GoesTelling : Script → List Token → WorldOf → WorldOf → List Made → Type 0
GoesTelling script next w after made =
    (tokens : List Token) (shortages : List Shortage) (before : List Made) → IsTracedBy script tokens shortages w before →
    IsTracedAfter script (tokens ++ next) shortages after (before ++ made)

-- at a run's end: the world stands for the core of these tokens and shortages, and the trace is that of the same
pub record EndsTraced (script : Script) (tokens : List Token) (shortages : List Shortage) (w : WorldOf) (made : List Made) : Type 0 where
  pub core : StandsFor script w (run_core script shortages tokens)
  pub trace : run_trace script shortages tokens ≡ made

-- the first world is reached by no token and no step; what tokens make from a world they make at a run's end; no tokens make no steps, and tokens go on after others
pub record TracesGoOn (script : Script) : Type 0 where
  pub first : (w : WorldOf) → IsFirstWorld script w → IsTracedBy script [] [] w []
  pub step : (tokens : List Token) (w after : WorldOf) (made : List Made) → LeadsTelling script tokens w after made → GoesTelling script tokens w after made
  pub none : (w : WorldOf) → GoesTelling script [] w w []
  pub then :
      (tokens more : List Token) (w middle after : WorldOf) (made later : List Made) → GoesTelling script tokens w middle made →
      GoesTelling script more middle after later → GoesTelling script (tokens ++ more) w after (made ++ later)
  pub traced : (tokens : List Token) (w after : WorldOf) (made : List Made) → GoesTelling script tokens w after made → IsTraced script w → IsTraced script after
  pub reached : (w : WorldOf) → IsTraced script w → IsReached script w
  pub ends : (tokens : List Token) (shortages : List Shortage) (w : WorldOf) (made : List Made) → IsTracedBy script tokens shortages w made → EndsTraced script tokens shortages w made
