-- A rebuild is served.
use Rattle.std.proofs.Common.{◌≡◌, ◌⊎◌, ℕ, ◌+◌, ◌<◌, ◌≤◌, ◌^◌, [], Some, refl, sym, ap, subst, ◌∙◌, inl, inr, arith}
use Rattle.std.proofs.lemmas.Option.{same_Some}
use Rattle.clay_grid.specs.Shape.{Shape, chunk_count}
use Rattle.store_map.specs.declared.actor.Actor.TheVariants as actor
use Rattle.store_map.specs.declared.call.Call.TheVariants as call
use Rattle.store_core.specs.Act.{Act}
use Rattle.store_core.specs.Agreement.{Seat, ActorToken, AgreesWithSeat}
use Rattle.store_core.specs.NextAct.{rebuild_job}
use Rattle.store_map.specs.declared.call.Rebuild.{Rebuild as RebuildCall}
use Rattle.store_core.specs.Step.{Places as CorePlaces}
use Rattle.store_core.specs.Tokens.{actor_of}
use Rattle.run_laws.specs.State.{first_state}
use Rattle.run_laws.specs.StateActs.{act_of_state}
use Rattle.version_seal.specs.Entry.{BookOf}
use Rattle.session_rules.specs.State.{State, numbers_of}
use Rattle.session_rules.specs.declared.session_answer.Answer.{Answer}
use Rattle.session_rules.specs.declared.request.Request.{Request}
use Rattle.session_rules.specs.Alone.{AtWork}
use Rattle.session_rules.specs.AloneRebuilds.{rebuilt_as}
use Rattle.session_rules.specs.Wants.{wanting_steps}
use Rattle.session_rules.specs.Between.{seats_after}
use Rattle.session_rules.specs.Serving.{AreSweptTo}
use Rattle.session_rules.specs.Answering.{RunsTo, IsAnswered}
use Rattle.session_rules.proofs.RebuildsAnswered.{rebuilds_are_answered}
use Rattle.session_rules.proofs.Answers.{rebuild_next, rebuild_snapshot}
use Rattle.session_rules.proofs.Repairs.{has_parity}
use Rattle.call_steps.specs.CallOf.{act_of}
use Rattle.call_machine.specs.Calls.{MachineOf, first_call, tries_in}
use Rattle.call_machine.specs.Ends.{IsEndOf}
use Rattle.call_machine.specs.Kinds.{Asked, Machine, machine_of}
use Rattle.session_store.specs.AtWork.{HasRun}
use Rattle.session_store.proofs.AloneRunning.{calls_run_alone}
use Rattle.call_steps.specs.CallOutcomes.{call_outcome_of}
use Rattle.call_steps.specs.Outcomes.{repair_outcome_of}
use Rattle.call_steps.specs.declared.outcome.CallOutcome.{CallOutcome}
use Rattle.call_steps.specs.declared.outcome.CallOutcome.TheVariants as ended
use Rattle.call_steps.specs.declared.outcomes.RepairOutcome.{RepairOutcome}
use Rattle.session_rules.specs.Rebuilds.{rebuild}
use Rattle.session_store.specs.Answers.{AnswersRebuild}
use Rattle.session_store.specs.Ends.{EndsRebuild}
use Rattle.session_store.specs.Kept.{ServesRequest}
use Rattle.session_store.proofs.Numbers.{fresh_later, passed_over}
use Rattle.session_store.proofs.RebuildOutcomes.{rebuild_served, ends_rebuild}
use Rattle.session_store.proofs.Leaving.{LeavesPlaces, LeavesState, run_leaves, seat_back, seat_still, request_is_served}
use Rattle.session_store.proofs.Standing.{rebuild_epochs}
use Rattle.session_store.specs.declared.session_parts.Parts.{Parts}
use Rattle.session_store.specs.declared.places.SessionPlaces.{SessionPlaces}
use Rattle.session_store.specs.Inside.{store_of}
use Rattle.session_store.specs.Kept.{IsStore}
use Rattle.session_store.specs.Places.{seen_in}
use Rattle.session_store.specs.CallBytes.{IsKnownBy, KnowsBytes}
use Rattle.session_store.specs.Running.{MayRun, HasRunTo, left_of}
use Rattle.session_store.specs.Standing.{StandsAt, seats_at}
use Rattle.session_store.specs.Sweeping.{HasSwept}
use Rattle.session_store.proofs.Bounds.{rebuild_steps_few}

module _ (parts : Parts) (is : IsStore (store_of parts)) (it : RebuildCall) (below : it.server < chunk_count parts.places.book.geometry) (seat : Seat) (seat_is : parts.repairer ≡ Some seat) (first : MachineOf) (opening : BookOf)
    (opening_is : opening ≡ parts.places.book) (first_is : first ≡ first_call opening 1 seat parts.served (Asked.OfRepairer it)) where
  its_seat : is.repairer.seat ≡ seat
  its_seat = same_Some is.repairer.seat seat (sym is.repairer.there ∙ seat_is)

  first_here : first ≡ first_call parts.places.book 1 seat parts.served (Asked.OfRepairer it)
  first_here = first_is ∙ ap (λ (b : BookOf). first_call b 1 seat parts.served (Asked.OfRepairer it)) opening_is

  number_is : first.call.number ≡ parts.served
  number_is = ap (λ (x : MachineOf). x.call.number) first_here

  asked_is : first.asked ≡ Asked.OfRepairer it
  asked_is = ap (λ (x : MachineOf). x.asked) first_here

  who_is : actor_of first.call.token ≡ actor.Repairer 0
  who_is = ap (λ (x : MachineOf). actor_of x.call.token) first_here ∙ ap (λ (x : Seat). x.actor) (sym its_seat) ∙ is.repairer.actor

  known_bytes : (s : State) (at : StandsAt (store_of parts) s) → KnowsBytes at.calls first parts.places
  known_bytes s at = record {
    bytes = at.between.its_map.bytes;
    drawn = at.between.its_map.drawn;
    contents = at.contents;
    known = subst (IsKnownBy at.calls first) (sym asked_is) tt;
  }

  pub may_rebuild : MayRun first parts.places
  may_rebuild = record {
    places = record { free = is.free.1; book = is.book; servers = is.servers };
    seat = seat;
    tries = 1;
    first = first_here ∙ (λ i. first_call parts.places.book 1 seat (sym number_is i) (sym asked_is i));
    unused = subst (λ n. seat.unused ≤ n) (sym number_is) (subst (λ (x : Seat). x.unused ≤ parts.served) its_seat is.repairer.unused);
    agrees = subst (λ x. AgreesWithSeat parts.places.directory.core x) its_seat is.repairer.agrees;
    calls = is.stands.calls;
    bytes = known_bytes is.state is.stands;
    target = λ e. subst (λ (x : MachineOf). x.call.job.target < chunk_count parts.places.book.geometry) (sym first_here) below;
    few =
        subst (λ (x : MachineOf). left_of parts.places.directory.core.max x [] < 2 ^ 64) (sym first_here)
        (rebuild_steps_few parts.places.book.geometry parts.places.directory.core.max (tries_in Machine.Rebuilds 1 parts.places.book) (rebuild_job it) is.code refl);
  }

  pub ends_so : (c : MachineOf) (left : SessionPlaces) → HasRunTo first parts.places c left → (outcome : CallOutcome) → IsEndOf (machine_of c.asked) outcome → IsEndOf Machine.Rebuilds outcome
  ends_so c left ran outcome its = subst (λ a. IsEndOf (machine_of a) outcome) (ran.asked ∙ asked_is) its

  -- ---- the rebuild, and the sweeper after it
  module _ (c : MachineOf) (left now : SessionPlaces) (ran : HasRunTo first parts.places c left) (ended_as : CallOutcome) (over_so : act_of c.call ≡ Act.Finish (call_outcome_of ended_as)) (outcome : RepairOutcome) (told_is : ended_as ≡ ended.Rebuild outcome) (swept : HasSwept left now) where
    over : act_of c.call ≡ Act.Finish (repair_outcome_of outcome)
    over = over_so ∙ ap (λ o. Act.Finish (call_outcome_of o)) told_is

    abbrev g : Shape
    g = parts.places.book.geometry

    abbrev tries : ℕ
    tries = first.call.tries

    job_is : first.call.job ≡ rebuild_job it
    job_is = ap (λ (x : MachineOf). x.call.job) first_here

    run_first : HasRun g tries (actor.Repairer 0) parts.served (rebuild_job it) ran.shortages (seen_in parts.places) c.call (seen_in left)
    run_first = subst (λ j. HasRun g tries (actor.Repairer 0) parts.served j ran.shortages (seen_in parts.places) c.call (seen_in left)) job_is (subst (λ n. HasRun g tries (actor.Repairer 0) n first.call.job ran.shortages (seen_in parts.places) c.call (seen_in left)) number_is (subst (λ a. HasRun g tries a first.call.number first.call.job ran.shortages (seen_in parts.places) c.call (seen_in left)) who_is ran.run))

    abbrev end : AtWork
    end = wanting_steps g tries (actor.Repairer 0) parts.served (rebuild_job it) ran.shortages (record { call = first_state; places = seen_in parts.places })

    has_ended : (act_of_state g tries (rebuild_job it) end.call ≡ Act.Finish (repair_outcome_of outcome)) × (end.places ≡ seen_in left)
    has_ended = (calls_run_alone.ends g tries (actor.Repairer 0) parts.served (rebuild_job it)).run ran.shortages (seen_in parts.places) (seen_in left) c.call (repair_outcome_of outcome) over ran.uncoded run_first

    runs_to : RunsTo g tries (actor.Repairer 0) parts.served (rebuild_job it) (seen_in parts.places) (repair_outcome_of outcome) (seen_in now)
    runs_to = record {
      shortages = ran.shortages;
      over = has_ended.0;
      swept = subst (λ (p : CorePlaces). AreSweptTo g p (seen_in now)) (sym has_ended.1) (subst (λ (b : BookOf). AreSweptTo b.geometry (seen_in left) (seen_in now)) ran.same.book swept.swept);
    }

    abbrev request : Request
    request = Request.Rebuild it.name it.stripe it.server

    module _ (s : State) (at : StandsAt (store_of parts) s) where
      pub is_answered : (answered : IsAnswered at.calls g (store_of parts).max (seats_at parts.served) s request (seen_in now)) × (repair_outcome_of outcome ≡ rebuilt_as answered.served.1)
      is_answered = rebuilds_are_answered at.calls g (store_of parts).max tries (seats_at parts.served) at.stands (seen_in parts.places) (seen_in now) s it.name it.stripe it.server (repair_outcome_of outcome) is.wide (has_parity g is.code) below at.between runs_to

    pub ends_well : EndsRebuild (repair_outcome_of outcome)
    ends_well = let its = is_answered is.state is.stands in ends_rebuild g (store_of parts).max is.state it.name it.stripe it.server its.0.served its.0.allowed outcome its.1

    -- ---- what it leaves
    module _ (seat_now : Seat) (seat_after : ActorToken.Seated seat_now ≡ c.call.token) (answer : Answer) (answers : AnswersRebuild outcome answer) where
      places_left : LeavesPlaces parts (actor.Repairer 0) now
      places_left = run_leaves parts (actor.Repairer 0) first c left now ran swept who_is (is_answered is.state is.stands).0.between.seen.most

      module _ (s : State) (at : StandsAt (store_of parts) s) where
        abbrev its : IsAnswered at.calls g (store_of parts).max (seats_at parts.served) s request (seen_in now)
        its = (is_answered s at).0

        abbrev made : State × Answer
        made = rebuild g it.stripe it.server s (numbers_of it.name s.numbers)

        kept_by : {X : Type 0} (f : State → X) → f made.0 ≡ f s → f its.served.0 ≡ f s
        kept_by f stays = by its.allowed
          where
            by : (its.served ≡ made) ⊎ ((its.served.1 ≡ Answer.NoMemory) × (its.served.0 ≡ s)) → f its.served.0 ≡ f s
            by (inl e) = ap (λ (r : State × Answer). f r.0) e ∙ stays
            by (inr (none, same)) = ap f same

        state_left : LeavesState parts is (actor.Repairer 0) now places_left request answer parts.client (Some seat_now) parts.healer parts.next s
        state_left = record {
          after = its.served.0;
          served = rebuild_served g (store_of parts).max s it.name it.stripe it.server its.served its.allowed outcome (is_answered s at).1 answer answers;
          calls = at.calls;
          stands = its.stands;
          between = passed_over at.calls g (store_of parts).max (seats_after request (seats_at parts.served)) (parts.served + 1) (parts.served + 1) (parts.served + 1) its.stands (seen_in now) its.served.0 (omega arith) (omega arith) (omega arith) its.between;
          contents = swept.keeps.contents at.calls (ran.bytes at.calls (known_bytes s at)).contents;
          fresh = fresh_later at.calls parts.served at.fresh;
          next_is = kept_by (λ x. x.next) (rebuild_next g it.stripe it.server s (numbers_of it.name s.numbers)) ∙ at.next;
          epochs = kept_by (λ x. x.epochs) (rebuild_epochs g it.stripe it.server s (numbers_of it.name s.numbers));
          snapshot = kept_by (λ x. x.snapshot) (rebuild_snapshot g it.stripe it.server s (numbers_of it.name s.numbers));
        }

      pub rebuild_is_served : ServesRequest request (store_of parts) answer (store_of (record parts { places = now; served = parts.served + 1; repairer = Some seat_now }))
      rebuild_is_served =
          request_is_served parts is (actor.Repairer 0) now places_left request answer parts.client (Some seat_now) parts.healer parts.next state_left (λ n some. refl)
          (seat_still parts is (actor.Repairer 0) now places_left (actor.Client 0) parts.served (parts.served + 1) parts.client (omega arith) refl refl is.client)
          (seat_back parts (actor.Repairer 0) first c left now ran swept who_is parts.served number_is refl seat_now seat_after)
          (seat_still parts is (actor.Repairer 0) now places_left (actor.Repairer 1) parts.next parts.next parts.healer (omega arith) refl refl is.healer)
