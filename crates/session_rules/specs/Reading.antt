-- A read of a snapshot, step by step: it gathers at servers alone.
use Rattle.std.specs.Prelude.{Bool, List, [], ◌∷◌}
use Rattle.clay_grid.specs.Shape.{Shape}
use Rattle.store_map.specs.declared.actor.Actor.TheVariants as actor
use Rattle.store_map.specs.declared.call.Call.TheVariants as call
use Rattle.store_core.specs.Told.{Told}
use Rattle.store_core.specs.Act.{Act}
use Rattle.store_core.specs.NextAct.{Job, job_of}
use Rattle.store_core.specs.Gathering.{Part}
use Rattle.store_core.specs.Step.{Shortage, Places, at_places}
use Rattle.run_laws.specs.State.{Sequel, CallState}
use Rattle.run_laws.specs.States.{open_parts}
use Rattle.run_laws.specs.StateActs.{act_of_state}
use Rattle.run_laws.specs.CallLaws.{next_call}
use Rattle.session_rules.specs.Alone.{AtWork}
use Rattle.session_rules.specs.Wants.{after_coding}

-- it is as a get whose look was made before
abbrev pub reading : Job
reading = job_of (call.Get [])

module _ (g : Shape) where
  -- before its first question
  abbrev pub begun : List Part → Places → AtWork
  begun parts p = record { call = record { pairs = []; at = open_parts g parts (Sequel.Serve 0) }; places = p }

  -- a step at a server, with memory or without; who makes it shows nowhere there. Where a get would end its pass the read is over
  abbrev pub reading_by : Bool → Act → AtWork → AtWork
  reading_by short (Act.AtServer server step) w =
      let after : Places × Told = at_places short actor.Operator 0 (Act.AtServer server step) w.places in
      record { call = next_call g reading w.call after.1; places = after.0 }
  reading_by short act w = w

  -- its next step
  abbrev pub reading_step : Shortage → AtWork → AtWork
  reading_step shortage w =
      let call : CallState = after_coding g 0 actor.Operator 0 reading shortage.coding w.call in
      reading_by shortage.step (act_of_state g 0 reading call) (record { call = call; places = w.places })

  -- a step for each of some shortages
  abbrev pub reading_steps : List Shortage → AtWork → AtWork
  reading_steps [] w = w
  reading_steps (shortage ∷ shortages) w = reading_steps shortages (reading_step shortage w)
