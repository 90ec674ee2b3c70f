-- A run that learns its shortages step by step: shortages that come later leave earlier steps alone.
use Rattle.std.specs.Prelude.{◌≡◌, ℕ, Bool, true, false, List, [], ◌∷◌, ◌++◌, Option, Some}
use Rattle.std.specs.List.{slice_get}
use Rattle.store_map.specs.declared.actor.Token.{Token}
use Rattle.store_map.specs.declared.script.Script.{Script}
use Rattle.store_core.specs.Act.{Act}
use Rattle.store_core.specs.Core.{Core}
use Rattle.store_core.specs.Run.{Run, operator_step, sweeper_step, client_step, repairer_step}
use Rattle.store_core.specs.Schedule.{step_core, run_tokens}
use Rattle.store_core.specs.Step.{Shortage}
use Rattle.store_core.specs.Work.{Work, Calling, client_work, repairer_work, has_step}

-- with these shortages a part of a run leads from one core to another, and leaves all later shortages as they are
abbrev pub Leads : (Run → Run) → Core → List Shortage → Core → Type 0
Leads part before shortages after = (more : List Shortage) → part (record { core = before; shortages = shortages ++ more }) ≡ record { core = after; shortages = more }

-- a run of one step
abbrev pub with_shortage : Core → Shortage → Run
with_shortage core shortage = record { core = core; shortages = shortage ∷ [] }

-- whether an actor has a step
abbrev pub may_turn : Option Work → Option Calling → Bool
may_turn (Some work) (Some calling) = has_step work calling
may_turn work calling = false

-- an actor's part: a step and its shortage, or nothing
pub record LeadsOneStep (part : Run → Run) (turn : Bool) (core : Core) (shortage : Shortage) : Type 0 where
  pub step : turn ≡ true → Leads part core (shortage ∷ []) (part (with_shortage core shortage)).core
  pub none : turn ≡ false → Leads part core [] core

-- parts one after the other
abbrev pub PartsLeadOn : Type 0
PartsLeadOn =
    (first second : Run → Run) (before middle after : Core) (shortages more : List Shortage) →
    Leads first before shortages middle → Leads second middle more after → Leads (λ run. second (first run)) before (shortages ++ more) after

-- each step uses up its shortage
pub record StepsLead (script : Script) (core : Core) (shortage : Shortage) : Type 0 where
  pub client :
      (i : ℕ) → LeadsOneStep (client_step script i) (may_turn (slice_get (client_work script) i) (slice_get core.clients i)) core shortage
  pub repairer :
      (i : ℕ) → LeadsOneStep (repairer_step script i) (may_turn (slice_get (repairer_work script) i) (slice_get core.repairers i)) core shortage
  pub sweeper : Leads (sweeper_step script) core (shortage ∷ []) (sweeper_step script (with_shortage core shortage)).core
  pub operator : (act : Act) → Leads (operator_step act) core (shortage ∷ []) (operator_step act (with_shortage core shortage)).core

-- so tokens lead on token by token, and where they lead is what is shown
pub record TokensLead (script : Script) (tokens : List Token) (before : Core) : Type 0 where
  pub none : Leads (run_tokens script []) before [] before
  pub token :
      (token : Token) (middle after : Core) (shortages more : List Shortage) →
      Leads (run_tokens script tokens) before shortages middle → Leads (step_core script token) middle more after →
      Leads (run_tokens script (tokens ++ token ∷ [])) before (shortages ++ more) after
  pub core : (after : Core) (shortages : List Shortage) → Leads (run_tokens script tokens) before shortages after →
      (run_tokens script tokens (record { core = before; shortages = shortages })).core ≡ after
