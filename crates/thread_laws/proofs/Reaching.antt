-- The run that the first of some steps make, and that the rest go on from it.
use Rattle.std.proofs.Common.{◌≡◌, List, [], ◌∷◌, ◌++◌, map, filter, append-nil, refl, sym, ap, ◌∙◌}
use Rattle.store_map.specs.declared.actor.Token.{Token}
use Rattle.store_map.specs.declared.script.Script.{Script}
use Rattle.store_core.specs.ActPlace.{ActPlace}
use Rattle.store_core.specs.Core.{Core, first_core}
use Rattle.store_core.specs.Run.{Run}
use Rattle.store_core.specs.Schedule.{run_tokens, run_core}
use Rattle.store_core.specs.Step.{Shortage}
use Rattle.thread_laws.specs.AtPlaces.{after_all, directory_next}
use Rattle.thread_laws.specs.Histories.{GoOn}
use Rattle.thread_laws.specs.Lines.{token_of}
use Rattle.thread_laws.specs.MadeSteps.{MadeStep, is_by, is_at}
use Rattle.thread_laws.proofs.Merged.{lines_after, goes, directory_ends}
use Rattle.thread_laws.proofs.Steps.{core_after, step_is}

abbrev pub shortages_of : List MadeStep → List Shortage
shortages_of steps = map (λ (m : MadeStep). m.shortage) steps

-- the steps may come from a core on
abbrev pub GoesOn : Script → List Token → Core → List MadeStep → Type 0
GoesOn script lines core steps = GoOn script lines core (λ place. filter (is_at place) steps) (λ who. filter (is_by who) steps)

-- the core after steps
abbrev pub along : Script → List MadeStep → Core → Core
along script [] core = core
along script (m ∷ steps) core = along script steps (core_after script m core)

pub record Reaches (script : Script) (steps rest : List MadeStep) (core : Core) : Type 0 where
  pub lines : List Token
  pub goes_on : GoesOn script lines (along script steps core) rest
  pub run : (left : List Shortage) → run_tokens script (map token_of steps) (record { core = core; shortages = shortages_of steps ++ left }) ≡ record { core = along script steps core; shortages = left }

pub reaches : (script : Script) (steps rest : List MadeStep) (lines : List Token) (core : Core) → GoesOn script lines core (steps ++ rest) → Reaches script steps rest core
reaches script [] rest lines core go = record { lines = lines; goes_on = go; run = λ left. refl }
reaches script (m ∷ steps) rest lines core go =
    let next : Reaches script steps rest (core_after script m core) =
    reaches script steps rest (lines_after script m.number m.shortage m.answer m.moment (steps ++ rest) m.act m.actor lines) (core_after script m core)
    (goes script m.number m.shortage m.answer m.moment (steps ++ rest) m.act m.actor lines core go) in
    record {
      lines = next.lines;
      goes_on = next.goes_on;
      run = λ left. ap (run_tokens script (map token_of steps)) (step_is script lines core (shortages_of steps ++ left) (steps ++ rest) m go) ∙ next.run left;
    }

-- so that core is the one of a run
pub run_reaches : (script : Script) (steps rest : List MadeStep) → Reaches script steps rest (first_core script) → run_core script (shortages_of steps) (map token_of steps) ≡ along script steps (first_core script)
run_reaches script steps rest r =
    ap (λ (l : List Shortage). (run_tokens script (map token_of steps) (record { core = first_core script; shortages = l })).core) (sym (append-nil (shortages_of steps)))
    ∙ ap (λ (run : Run). run.core) (r.run [])

-- and its directory the one of the steps there
pub along_directory : (script : Script) (steps : List MadeStep) (core : Core) → (along script steps core).directory ≡ after_all directory_next (filter (is_at ActPlace.Directory) steps) core.directory
along_directory script [] core = refl
along_directory script (m ∷ steps) core =
    along_directory script steps (core_after script m core) ∙ directory_ends script m.number m.shortage m.answer m.moment steps m.actor m.act core.directory
