-- What requests and the sweeper leave of the session's map and its bytes.
use Rattle.std.specs.Prelude.{◌≡◌, ◌<◌, ℕ, false, List, Some, if◌then◌else◌, take}
use Rattle.clay_grid.specs.Shape.{Shape, chunk_count, stripe_length}
use Rattle.store_map.specs.PlainMap.{Objects, apply}
use Rattle.store_map.specs.declared.actor.Actor.{Actor}
use Rattle.store_map.specs.declared.actor.Actor.TheVariants as actor
use Rattle.store_map.specs.declared.call.Call.{Call}
use Rattle.store_map.specs.declared.call.Rebuild.{Rebuild as RebuildCall}
use Rattle.store_core.specs.Note.{note_of, note_of_rebuild}
use Rattle.store_core.specs.Act.{Act, ServerStep, Outcome}
use Rattle.store_core.specs.NextAct.{job_of, rebuild_job}
use Rattle.store_core.specs.Calls.{Calls}
use Rattle.store_core.specs.Conditions.{MayBegin, IsOfClient, IsOfRepairer}
use Rattle.store_core.specs.History.{is_answered}
use Rattle.store_core.specs.Step.{Shortage, Places, at_places}
use Rattle.run_laws.specs.State.{first_state}
use Rattle.run_laws.specs.StateActs.{act_of_state}
use Rattle.session_rules.specs.State.{State, numbers_of}
use Rattle.session_rules.specs.Calls.{serve_call}
use Rattle.session_rules.specs.Rebuilds.{rebuild, lose}
use Rattle.session_rules.specs.Heals.{to_heal}
use Rattle.session_rules.specs.AloneHeals.{AreRebuilt, healed_by}
use Rattle.session_rules.specs.Alone.{EndsAs, Sweeping, sweeps}
use Rattle.session_rules.specs.Outcomes.{outcome_at}
use Rattle.session_rules.specs.Seen.{IsSeenAs}
use Rattle.session_rules.specs.Wants.{wanting_steps}
use Rattle.session_rules.specs.Maps.{IsMapOf}

-- the map after a client's call with this outcome: an answer stands at its point, and any other outcome leaves the map
abbrev pub objects_after : ℕ → Call → Outcome → Objects → Objects
objects_after max call outcome objects = if is_answered outcome then (apply max call objects).0 else objects

-- where the state's map is that of the places, it is so after a client's call that runs alone to any outcome, wherever memory is wanting; with ample memory it is the map of the state that the session's answer leaves
pub record CallsLeaveMaps : Type 0 where
  pub ended :
      (calls : Calls) (g : Shape) (max tries : ℕ) (stands : List ℕ) (p : Places) (s : State) (who : Actor) (number : ℕ) (call : Call) (shortages : List Shortage) (outcome : Outcome) →
      0 < stripe_length g → IsSeenAs g max stands p s → IsMapOf calls p s → MayBegin p.directory who number → IsOfClient who (note_of call) → calls who number ≡ Some call →
      act_of_state g tries (job_of call) (wanting_steps g tries who number (job_of call) shortages (record { call = first_state; places = p })).call ≡ Act.Finish outcome →
      IsMapOf calls (wanting_steps g tries who number (job_of call) shortages (record { call = first_state; places = p })).places (record s { objects = objects_after max call outcome s.objects })
  pub served :
      (calls : Calls) (g : Shape) (max tries : ℕ) (stands : List ℕ) (p after : Places) (s : State) (who : Actor) (number point : ℕ) (call : Call) →
      0 < stripe_length g → IsSeenAs g max stands p s → IsMapOf calls p s → MayBegin p.directory who number → IsOfClient who (note_of call) → calls who number ≡ Some call →
      EndsAs g tries who number (job_of call) p (outcome_at point (serve_call g max call s).1) after → IsMapOf calls after (serve_call g max call s).0

-- so it is after any steps of a rebuild that runs alone at a server that there is
pub record RebuildsLeaveMaps : Type 0 where
  pub any :
      (calls : Calls) (g : Shape) (max tries : ℕ) (stands : List ℕ) (p : Places) (s : State) (who : Actor) (number : ℕ) (call : RebuildCall) (shortages : List Shortage) →
      0 < stripe_length g → IsSeenAs g max stands p s → IsMapOf calls p s → MayBegin p.directory who number → IsOfRepairer who (note_of_rebuild call) → call.server < chunk_count g →
      IsMapOf calls (wanting_steps g tries who number (rebuild_job call) shortages (record { call = first_state; places = p })).places s
  pub served :
      (calls : Calls) (g : Shape) (max tries : ℕ) (stands : List ℕ) (p after : Places) (s : State) (who : Actor) (number : ℕ) (call : RebuildCall) (outcome : Outcome) →
      0 < stripe_length g → IsSeenAs g max stands p s → IsMapOf calls p s → MayBegin p.directory who number → IsOfRepairer who (note_of_rebuild call) → call.server < chunk_count g →
      EndsAs g tries who number (rebuild_job call) p outcome after → IsMapOf calls after (rebuild g call.stripe call.server s (numbers_of call.name s.numbers)).0

-- and after any steps of the sweeper, and after a loss
pub record SweepsLeaveMaps : Type 0 where
  pub swept :
      (calls : Calls) (g : Shape) (max : ℕ) (stands : List ℕ) (s : State) (made : ℕ) (w : Sweeping) →
      0 < stripe_length g → IsSeenAs g max stands w.places s → IsMapOf calls w.places s → IsMapOf calls (sweeps g made w).places s
  pub lost :
      (calls : Calls) (p : Places) (s : State) (who : Actor) (number server : ℕ) →
      IsMapOf calls p s → IsMapOf calls (at_places false who number (Act.AtServer server ServerStep.Wipe) p).0 (lose server s)

-- and after the first so many rebuilds of a heal, one after another
abbrev pub HealsLeaveMaps : Type 0
HealsLeaveMaps =
    (calls : Calls) (g : Shape) (max tries seat count : ℕ) (stands : List ℕ) (p after : Places) (s : State) →
    0 < stripe_length g → 0 < g.parity_count → IsSeenAs g max stands p s → IsMapOf calls p s → MayBegin p.directory (actor.Repairer seat) s.next →
    AreRebuilt g tries (actor.Repairer seat) s.next (take count (to_heal g s)) p after → IsMapOf calls after (healed_by g count s)
