-- The steps that tokens make from a world on, as a trace has them.
use Rattle.std.specs.Prelude.{◌≡◌, List, [], ◌++◌}
use Rattle.store_map.specs.declared.actor.Token.{Token}
use Rattle.store_map.specs.declared.script.Script.{Script}
use Rattle.store_core.specs.Core.{Core}
use Rattle.store_core.specs.Run.{Run}
use Rattle.store_core.specs.Schedule.{run_tokens}
use Rattle.store_core.specs.Step.{Shortage}
use Rattle.history_laws.specs.Trace.{Made, trace_of}
use Rattle.history_laws.specs.Steps.{steps_of}
use Rattle.world_laws.specs.World.{WorldOf}
use Rattle.world_laws.specs.StandsFor.{StandsFor}
use Rattle.world_laws.specs.Leads.{LeadsWorld}

-- the steps of tokens from a run on, those of a drain too
abbrev pub tokens_made : Script → List Token → Run → List Made
tokens_made script tokens run = trace_of script (steps_of script tokens run) run

-- a part of a run makes these steps from each core that the world stands for, where memory is wanting so
abbrev pub Tells : Script → (Run → List Made) → WorldOf → List Shortage → List Made → Type 0
Tells script told w shortages made =
    (core : Core) (more : List Shortage) → StandsFor script w core → told (record { core = core; shortages = shortages ++ more }) ≡ made

-- so do tokens
abbrev pub TellsOf : Script → List Token → WorldOf → List Shortage → List Made → Type 0
TellsOf script tokens w shortages made = Tells script (tokens_made script tokens) w shortages made

-- a part of a run leads from one world to another, with some shortages, and makes these steps
pub record PartTells (script : Script) (part : Run → Run) (told : Run → List Made) (w after : WorldOf) (made : List Made) : Type 0 where
  pub shortages : List Shortage
  pub leads : LeadsWorld script part w shortages after
  pub tells : Tells script told w shortages made

-- so do tokens
abbrev pub LeadsTelling : Script → List Token → WorldOf → WorldOf → List Made → Type 0
LeadsTelling script tokens w after made = PartTells script (run_tokens script tokens) (tokens_made script tokens) w after made

-- no tokens lead nowhere else and make no steps, and tokens lead on after others
pub record TokensTellOn (script : Script) : Type 0 where
  pub none : (w : WorldOf) → LeadsTelling script [] w w []
  pub then :
      (tokens more : List Token) (w middle after : WorldOf) (made later : List Made) → LeadsTelling script tokens w middle made →
      LeadsTelling script more middle after later → LeadsTelling script (tokens ++ more) w after (made ++ later)
