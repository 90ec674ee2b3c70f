-- What calls and the sweeper leave of the other actors' seats.
use Rattle.std.proofs.Common.{◌≡◌, ℕ, ◌+◌, ◌<◌, ◌≤◌, Bool, false, List, [], ◌∷◌, length, replicate, None, IsTrue, sym, ap, subst, ◌∙◌, arith}
use Rattle.std.proofs.lemmas.List.Elements.{All-weaker}
use Rattle.clay_grid.specs.Shape.{Shape}
use Rattle.store_map.specs.declared.actor.Actor.{Actor}
use Rattle.store_map.specs.declared.actor.Actor.TheVariants as actor
use Rattle.store_map.specs.declared.call.Call.{Call}
use Rattle.store_map.specs.declared.call.Rebuild.{Rebuild as RebuildCall}
use Rattle.store_core.specs.Act.{Act, Outcome}
use Rattle.store_core.specs.NextAct.{Job, job_of, rebuild_job}
use Rattle.store_core.specs.Agreement.{ActorToken}
use Rattle.store_core.specs.Lookups.{same_actor}
use Rattle.store_core.specs.Conditions.{MayBegin}
use Rattle.store_core.specs.Directory.{Event, Point, Directory}
use Rattle.store_core.specs.Step.{Shortage, Places, at_places}
use Rattle.run_laws.proofs.BesideSteps.{others_agree}
use Rattle.run_laws.specs.State.{first_state}
use Rattle.run_laws.specs.StateActs.{act_of_state}
use Rattle.session_rules.specs.declared.session_answer.LostChunk.{LostChunk}
use Rattle.session_rules.specs.Alone.{AtWork, EndsAs, Sweeping, steps, sweeps}
use Rattle.session_rules.specs.AloneHeals.{rebuild_of, AreRebuilt}
use Rattle.session_rules.specs.Wants.{wanting_steps}
use Rattle.session_rules.proofs.CallLeft.{none_short, ample}
use Rattle.session_rules.specs.Seats.{MayBeginFrom, SeatsAreKept}
use Rattle.session_rules.proofs.CallSeats.{call_seated, rebuild_seated}
use Rattle.session_rules.proofs.Leaving.{IsKeptBy}
use Rattle.session_rules.proofs.Leaving.{act_leaves as act_keeps, steps_leave as steps_keep, call_leaves as call_keeps, rebuilds_leave as rebuilds_keep, sweeps_leave as sweeps_keep}

-- ---- the other actors' seats
module _ (other : Actor) (unused : ℕ) where
  abbrev Sits : Directory → Type 0
  Sits d = MayBeginFrom d other unused

  -- each step of another actor leaves the seat
  pub sits_on : (who : Actor) → same_actor who other ≡ false → IsKeptBy Sits who
  sits_on who apart short number step d seat = others_agree short who number step d (ActorToken.Seated (record { actor = other; unused = unused; told = None })) apart seat

  pub act_leaves : (short : Bool) (who : Actor) (number : ℕ) (act : Act) (p : Places) → same_actor who other ≡ false → Sits p.directory → Sits (at_places short who number act p).0.directory
  act_leaves short who number act p apart seat = act_keeps Sits who (sits_on who apart) short number act p seat

  -- its call
  module _ (g : Shape) (tries : ℕ) (who : Actor) (number : ℕ) (job : Job) (apart : same_actor who other ≡ false) where
    pub steps_leave : (shortages : List Shortage) (w : AtWork) → Sits w.places.directory → Sits (wanting_steps g tries who number job shortages w).places.directory
    steps_leave shortages w seat = steps_keep Sits who (sits_on who apart) g tries number job shortages w seat

    pub call_leaves : (before after : Places) (outcome : Outcome) → EndsAs g tries who number job before outcome after → Sits before.directory → Sits after.directory
    call_leaves before after outcome ends seat = call_keeps Sits who (sits_on who apart) g tries number job before after outcome ends seat

  -- a repairer's calls one after another
  pub rebuilds_leave : (g : Shape) (tries : ℕ) (who : Actor) → same_actor who other ≡ false → (chunks : List LostChunk) (number : ℕ) (before after : Places) →
      AreRebuilt g tries who number chunks before after → Sits before.directory → Sits after.directory
  rebuilds_leave g tries who apart chunks number before after made seat = rebuilds_keep Sits who (sits_on who apart) g tries chunks number before after made seat

  -- the sweeper
  pub sweeps_leave : same_actor actor.Sweeper other ≡ false → (g : Shape) (made : ℕ) (w : Sweeping) → Sits w.places.directory → Sits (sweeps g made w).places.directory
  sweeps_leave apart g made w seat = sweeps_keep Sits (sits_on actor.Sweeper apart) g made w seat

-- a call that has ended leaves its own actor's seat, with the next number
module _ (g : Shape) (tries : ℕ) (who : Actor) (number : ℕ) where
  ended_at : (job : Job) (before after : Places) (outcome : Outcome) → EndsAs g tries who number job before outcome after →
      ((shortages : List Shortage) → act_of_state g tries job (wanting_steps g tries who number job shortages (record { call = first_state; places = before })).call ≡ Act.Finish outcome →
      MayBeginFrom (wanting_steps g tries who number job shortages (record { call = first_state; places = before })).places.directory who (number + 1)) → MayBeginFrom after.directory who (number + 1)
  ended_at job before after outcome ends seated =
      let same : steps g tries who number job ends.made (record { call = first_state; places = before }) ≡ wanting_steps g tries who number job (replicate ends.made none_short) (record { call = first_state; places = before }) =
      ample g tries who number job ends.made (record { call = first_state; places = before }) in
      subst (λ (p : Places). MayBeginFrom p.directory who (number + 1)) (ap (λ (w : AtWork). w.places) (sym same) ∙ ends.leaves)
      (seated (replicate ends.made none_short) (ap (λ (w : AtWork). act_of_state g tries job w.call) (sym same) ∙ ends.over))

  pub call_ended : (c : Call) (before after : Places) (outcome : Outcome) → EndsAs g tries who number (job_of c) before outcome after → MayBeginFrom before.directory who number → MayBeginFrom after.directory who (number + 1)
  call_ended c before after outcome ends seat = ended_at (job_of c) before after outcome ends (λ shortages over. call_seated g tries who number c before shortages outcome seat over)

  pub rebuild_ended : (c : RebuildCall) (before after : Places) (outcome : Outcome) → EndsAs g tries who number (rebuild_job c) before outcome after → MayBeginFrom before.directory who number →
      MayBeginFrom after.directory who (number + 1)
  rebuild_ended c before after outcome ends seat = ended_at (rebuild_job c) before after outcome ends (λ shortages over. rebuild_seated g tries who number c before shortages outcome seat over)

pub begins : (d : Directory) (who : Actor) (number : ℕ) → MayBeginFrom d who number → MayBegin d who number
begins d who number seat = record {
  no_pass = seat.no_pass;
  numbers =
      All-weaker (λ (point : Point). IsTrue (same_actor point.actor who) → point.number < number)
      (λ (point : Point). IsTrue (same_actor point.actor who) → (point.number ≤ number) × (point.number ≡ number → point.event ≡ Event.Reaped)) later d.points seat.numbers;
}
  where
    later : (point : Point) → (IsTrue (same_actor point.actor who) → point.number < number) → IsTrue (same_actor point.actor who) → (point.number ≤ number) × (point.number ≡ number → point.event ≡ Event.Reaped)
    later point low its = let less : point.number < number = low its in (omega (arith, less), λ same. let e : point.number ≡ number = same in absurd (omega (arith, less, e)))

-- the healing seat after some rebuilds
pub rebuilds_seat : (g : Shape) (tries : ℕ) (who : Actor) (chunks : List LostChunk) (number : ℕ) (before after : Places) → AreRebuilt g tries who number chunks before after →
    MayBeginFrom before.directory who number → MayBeginFrom after.directory who (number + length chunks)
rebuilds_seat g tries who [] number before after same seat =
    let none : number + 0 ≡ number = omega arith in subst (MayBeginFrom after.directory who) (sym none) (subst (λ (p : Places). MayBeginFrom p.directory who number) same seat)
rebuilds_seat g tries who (chunk ∷ chunks) number before after (between, ends, rest) seat =
    let more : number + 1 + length chunks ≡ number + length (chunk ∷ chunks) = omega arith in
    subst (MayBeginFrom after.directory who) more
    (rebuilds_seat g tries who chunks (number + 1) between after rest (rebuild_ended g tries who number (rebuild_of chunk) before between Outcome.Rebuilt ends seat))

pub seats_are_kept : SeatsAreKept
seats_are_kept = record {
  begins = begins;
  calls = λ g tries who number c. record {
    own = λ p shortages outcome seat over. call_seated g tries who number c p shortages outcome seat over;
    others = λ p shortages other unused apart seat. steps_leave other unused g tries who number (job_of c) apart shortages (record { call = first_state; places = p }) seat;
  };
  rebuilds = λ g tries who number c. record {
    own = λ p shortages outcome seat over. rebuild_seated g tries who number c p shortages outcome seat over;
    others = λ p shortages other unused apart seat. steps_leave other unused g tries who number (rebuild_job c) apart shortages (record { call = first_state; places = p }) seat;
  };
}
