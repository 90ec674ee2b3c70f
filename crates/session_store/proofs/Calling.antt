-- A call of the map is served.
use Rattle.std.proofs.Common.{◌≡◌, ◌⊎◌, ℕ, zero, suc, ◌+◌, ◌<◌, ◌≤◌, ◌^◌, false, nat_eq, if◌then◌else◌, List, [], ◌∷◌, length, Option, None, Some, Vec, Contains, refl, sym, ap, subst, ◌∙◌, inl, inr, arith}
use Rattle.std.specs.Global.{Global}
use Rattle.std.proofs.lemmas.Bool.{ne_eqb}
use Rattle.std.proofs.lemmas.Option.{same_Some}
use Rattle.clay_grid.specs.Shape.{Shape, stripe_length}
use Rattle.store_map.specs.PlainMap.{apply}
use Rattle.store_map.specs.declared.actor.Actor.TheVariants as actor
use Rattle.store_map.specs.declared.call.Call.{Call}
use Rattle.store_map.specs.declared.call.Call.TheVariants as call
use Rattle.store_map.specs.declared.reply.Reply.{Reply}
use Rattle.store_map.specs.declared.reply.Reply.TheVariants as reply
use Rattle.store_core.specs.Act.{Act, DirectoryStep}
use Rattle.store_core.specs.Agreement.{Seat, ActorToken, AgreesWithSeat}
use Rattle.store_core.specs.AtDirectory.{at_directory}
use Rattle.store_core.specs.Calls.{Calls}
use Rattle.store_core.specs.NextAct.{Job, job_of}
use Rattle.store_core.specs.Note.{Kind, note_of}
use Rattle.store_core.specs.Read.{parts_of}
use Rattle.store_core.specs.Step.{Shortage, Places as CorePlaces}
use Rattle.store_core.specs.Told.{Seen, Told}
use Rattle.store_core.specs.Tokens.{actor_of}
use Rattle.run_laws.specs.State.{first_state}
use Rattle.run_laws.specs.StateActs.{act_of_state}
use Rattle.version_seal.specs.Entry.{BookOf}
use Rattle.session_rules.specs.State.{State}
use Rattle.session_rules.specs.Serve.{serve}
use Rattle.session_rules.specs.declared.session_answer.Answer.{Answer}
use Rattle.session_rules.specs.declared.request.Request.{Request}
use Rattle.session_rules.specs.Alone.{AtWork}
use Rattle.session_rules.specs.Outcomes.{outcome_at}
use Rattle.session_rules.specs.Wants.{wanting_steps}
use Rattle.session_rules.specs.Between.{seats_after}
use Rattle.session_rules.specs.Serving.{AreSweptTo}
use Rattle.session_rules.specs.Answering.{RunsTo, IsAnswered}
use Rattle.session_rules.proofs.CallsAnswered.{calls_are_answered}
use Rattle.session_rules.proofs.Answers.{call_next, call_snapshot}
use Rattle.call_steps.specs.CallOf.{tries_by, act_of}
use Rattle.call_machine.specs.Calls.{MachineOf, first_call, tries_in}
use Rattle.call_machine.specs.Kinds.{Asked, Machine, machine_of, client_machine, IfReads}
use Rattle.session_store.specs.AtWork.{HasRun}
use Rattle.session_store.proofs.AloneRunning.{calls_run_alone}
use Rattle.call_steps.specs.CallOutcomes.{call_outcome_of}
use Rattle.call_steps.specs.declared.outcome.CallOutcome.{CallOutcome}
use Rattle.store_map.specs.declared.actor.Point.{Point}
use Rattle.store_core.specs.Content.{contents_by}
use Rattle.run_laws.specs.ReadLaws.{bytes_read}
use Rattle.client_read.specs.Owed.{contents_of}
use Rattle.call_machine.specs.Owes.{OwesBy}
use Rattle.call_machine.specs.OwesLaws.{AreAmong}
use Rattle.call_machine.proofs.Owing.{at_end_owes}
use Rattle.call_machine.proofs.Stamped.{contents_read}
use Rattle.call_machine.specs.Ends.{IfBytesServed, IsEndOf}
use Rattle.session_rules.proofs.Maps.{bytes_are_owed}
use Rattle.session_rules.proofs.Clients.{of_client}
use Rattle.session_rules.proofs.RunKept.{begins}
use Rattle.call_steps.specs.declared.outcome.CallOutcome.TheVariants as ended
use Rattle.call_steps.specs.Outcomes.{outcome_of}
use Rattle.call_steps.specs.declared.outcomes.Outcome.{Outcome}
use Rattle.call_steps.specs.declared.outcomes.Outcome.TheVariants as client
use Rattle.session_store.specs.Answers.{AnswersCall}
use Rattle.session_store.specs.Kept.{ServesRequest}
use Rattle.session_store.proofs.Numbers.{known_fresh, passed_over}
use Rattle.session_store.proofs.Outcomes.{ends_as_client, call_served, ends_call}
use Rattle.session_store.proofs.Leaving.{LeavesPlaces, LeavesState, run_leaves, seat_back, seat_still, request_is_served}
use Rattle.session_store.proofs.Standing.{call_epochs}
use Rattle.session_store.specs.declared.session_parts.Parts.{Parts}
use Rattle.session_store.specs.declared.places.SessionPlaces.{SessionPlaces}
use Rattle.session_store.specs.Inside.{store_of}
use Rattle.session_store.specs.Kept.{IsStore}
use Rattle.session_store.specs.Places.{seen_in}
use Rattle.session_store.specs.CallBytes.{IsKnownBy, KnowsBytes}
use Rattle.session_store.specs.Running.{MayRun, HasRunTo, LookOwes, left_of}
use Rattle.session_store.specs.Standing.{StandsAt, seats_at}
use Rattle.session_store.specs.Sweeping.{HasSwept}
use Rattle.session_store.proofs.Bounds.{steps_few}
use Rattle.session_store.proofs.Knowing.{more, between_more, contents_more}
use Rattle.session_store.proofs.Numbers.{known_now}
use Rattle.session_store.specs.Ends.{EndsCall, IsOfClient}
use Rattle.session_store.proofs.Tries.{NoWrite, same_act, same_steps}

-- a list of one
contains_one : {X : Type 0} (x : X) → Contains (x ∷ []) x
contains_one x = (0, omega arith, refl)

one_contained : {X : Type 0} (x y : X) → Contains (y ∷ []) x → x ≡ y
one_contained x y (zero, less, is) = sym is
one_contained x y (suc k, less, is) = absurd (omega (arith, less))

none_contained : {X : Type 0} (x : X) → Contains [] x → ⊥
none_contained x (k, less, is) = absurd (omega (arith, less))

-- the bytes of a reply
abbrev bytes_of_reply : Reply → List ℕ
bytes_of_reply (reply.Bytes bytes) = bytes
bytes_of_reply other = []

bytes_in : {given bytes : List ℕ} → reply.Bytes given ≡ reply.Bytes bytes → given ≡ bytes
bytes_in e = ap bytes_of_reply e

-- the client's call alone
abbrev pub asked_of : Call → ℕ → Option Call
asked_of written i = if nat_eq i 0 then Some written else None

-- ---- before it
tries_few : (written : Call) (book : BookOf) → book.script ≡ None → tries_in (client_machine written) 1 book ≤ 1
tries_few written book free = by (client_machine written)
  where
    none : tries_by book.script ≡ 0
    none = ap tries_by free

    by : (m : Machine) → tries_in m 1 book ≤ 1
    by Machine.Patches = omega arith
    by Machine.Reads = let x : ℕ = tries_by book.script in omega (arith, none)
    by Machine.Puts = let x : ℕ = tries_by book.script in omega (arith, none)
    by Machine.Rebuilds = let x : ℕ = tries_by book.script in omega (arith, none)

no_target : (written : Call) → (note_of written).kind ≡ Kind.Rebuild → ⊥
no_target (call.Put name content) e = cc (e)
no_target (call.Write name offset content) e = cc (e)
no_target (call.Get name) e = cc (e)
no_target (call.ReadAt name offset count) e = cc (e)
no_target (call.Stat name) e = cc (e)
no_target (call.Delete name) e = cc (e)

module _ (parts : Parts) (is : IsStore (store_of parts)) (written : Call) (seat : Seat) (seat_is : parts.client ≡ Some seat) (first : MachineOf) (opening : BookOf) (opening_is : opening ≡ parts.places.book)
    (first_is : first ≡ first_call opening 1 seat parts.served (Asked.OfClient written)) (short : (note_of written).offset + (note_of written).length < 2 ^ 33) where
  its_seat : is.client.seat ≡ seat
  its_seat = same_Some is.client.seat seat (sym is.client.there ∙ seat_is)

  first_here : first ≡ first_call parts.places.book 1 seat parts.served (Asked.OfClient written)
  first_here = first_is ∙ ap (λ (b : BookOf). first_call b 1 seat parts.served (Asked.OfClient written)) opening_is

  number_is : first.call.number ≡ parts.served
  number_is = ap (λ (x : MachineOf). x.call.number) first_here

  asked_is : first.asked ≡ Asked.OfClient written
  asked_is = ap (λ (x : MachineOf). x.asked) first_here

  who_is : actor_of first.call.token ≡ actor.Client 0
  who_is = ap (λ (x : MachineOf). actor_of x.call.token) first_here ∙ ap (λ (x : Seat). x.actor) (sym its_seat) ∙ is.client.actor

  pub known_bytes : (s : State) (at : StandsAt (store_of parts) s) → KnowsBytes (more (store_of parts) (asked_of written) s at) first parts.places
  known_bytes s at = record {
    bytes = (between_more (store_of parts) (asked_of written) s at).its_map.bytes;
    drawn = (between_more (store_of parts) (asked_of written) s at).its_map.drawn;
    contents = contents_more (store_of parts) (asked_of written) s at;
    known = subst (λ a. IsKnownBy (more (store_of parts) (asked_of written) s at) first a) (sym asked_is) ((λ i. more (store_of parts) (asked_of written) s at (who_is i) (number_is i)) ∙ known_now at.calls parts.served (asked_of written) 0);
  }

  pub may_run : MayRun first parts.places
  may_run = record {
    places = record { free = is.free.1; book = is.book; servers = is.servers };
    seat = seat;
    tries = 1;
    first = first_here ∙ (λ i. first_call parts.places.book 1 seat (sym number_is i) (sym asked_is i));
    unused = subst (λ n. seat.unused ≤ n) (sym number_is) (subst (λ (x : Seat). x.unused ≤ parts.served) its_seat is.client.unused);
    agrees = subst (λ x. AgreesWithSeat parts.places.directory.core x) its_seat is.client.agrees;
    calls = more (store_of parts) (asked_of written) is.state is.stands;
    bytes = known_bytes is.state is.stands;
    target = λ e. absurd (no_target written (sym (ap (λ (x : MachineOf). x.call.job.note.kind) first_here) ∙ e));
    few =
        subst (λ (m : ℕ). left_of m first [] < 2 ^ 64) (sym is.most)
        (subst (λ (x : MachineOf). left_of (store_of parts).max x [] < 2 ^ 64) (sym first_here)
        (steps_few parts.places.book.geometry (store_of parts).max is.code is.wide is.small (note_of written) short (tries_in (client_machine written) 1 parts.places.book) (job_of written) (tries_few written parts.places.book is.free.1) refl));
  }

  pub ends_so : (c : MachineOf) (left : SessionPlaces) → HasRunTo first parts.places c left → (outcome : CallOutcome) → IsEndOf (machine_of c.asked) outcome → IsOfClient outcome
  ends_so c left ran outcome its = ends_as_client written outcome (subst (λ a. IsEndOf (machine_of a) outcome) (ran.asked ∙ asked_is) its)

  -- ---- the call, and the sweeper after it
  module _ (c : MachineOf) (left now : SessionPlaces) (ran : HasRunTo first parts.places c left) (ended_as : CallOutcome) (over_so : act_of c.call ≡ Act.Finish (call_outcome_of ended_as)) (outcome : Outcome) (told_is : ended_as ≡ ended.Client outcome) (swept : HasSwept left now) where
    over : act_of c.call ≡ Act.Finish (outcome_of outcome)
    over = over_so ∙ ap (λ o. Act.Finish (call_outcome_of o)) told_is

    abbrev g : Shape
    g = parts.places.book.geometry

    abbrev shortages : List Shortage
    shortages = ran.shortages

    job_is : first.call.job ≡ job_of written
    job_is = ap (λ (x : MachineOf). x.call.job) first_here

    -- as the session's own call, by its tries
    run_first : HasRun g first.call.tries (actor.Client 0) parts.served (job_of written) shortages (seen_in parts.places) c.call (seen_in left)
    run_first = subst (λ j. HasRun g first.call.tries (actor.Client 0) parts.served j shortages (seen_in parts.places) c.call (seen_in left)) job_is (subst (λ n. HasRun g first.call.tries (actor.Client 0) n first.call.job shortages (seen_in parts.places) c.call (seen_in left)) number_is (subst (λ a. HasRun g first.call.tries a first.call.number first.call.job shortages (seen_in parts.places) c.call (seen_in left)) who_is ran.run))

    abbrev end_by : ℕ → AtWork
    end_by tries = wanting_steps g tries (actor.Client 0) parts.served (job_of written) shortages (record { call = first_state; places = seen_in parts.places })

    abbrev EndedBy : ℕ → Type 0
    EndedBy tries = (act_of_state g tries (job_of written) (end_by tries).call ≡ Act.Finish (outcome_of outcome)) × ((end_by tries).places ≡ seen_in left)

    ended_first : EndedBy first.call.tries
    ended_first = (calls_run_alone.ends g first.call.tries (actor.Client 0) parts.served (job_of written)).run shortages (seen_in parts.places) (seen_in left) c.call (outcome_of outcome) over ran.uncoded run_first

    ended_once : EndedBy 1
    ended_once = by (once written)
      where
        once : (w : Call) → (tries_in (client_machine w) 1 parts.places.book ≡ 1) ⊎ NoWrite (note_of w).kind
        once (call.Put name content) = inr tt
        once (call.Write name offset content) = inl refl
        once (call.Get name) = inr tt
        once (call.ReadAt name offset count) = inr tt
        once (call.Stat name) = inr tt
        once (call.Delete name) = inl refl

        by : (tries_in (client_machine written) 1 parts.places.book ≡ 1) ⊎ NoWrite (note_of written).kind → EndedBy 1
        by (inl e) = subst EndedBy (ap (λ (x : MachineOf). x.call.tries) first_here ∙ e) ended_first
        by (inr other) =
            let same : end_by first.call.tries ≡ end_by 1 = same_steps g first.call.tries 1 (actor.Client 0) parts.served (job_of written) other shortages (record { call = first_state; places = seen_in parts.places }) in (
              sym (same_act g first.call.tries 1 (actor.Client 0) parts.served (job_of written) other (end_by 1).call) ∙ ap (λ (w : AtWork). act_of_state g first.call.tries (job_of written) w.call) (sym same) ∙ ended_first.0,
              ap (λ (w : AtWork). w.places) (sym same) ∙ ended_first.1,
            )

    runs_to : RunsTo g 1 (actor.Client 0) parts.served (job_of written) (seen_in parts.places) (outcome_of outcome) (seen_in now)
    runs_to = record {
      shortages = shortages;
      over = ended_once.0;
      swept = subst (λ (p : CorePlaces). AreSweptTo g p (seen_in now)) (sym ended_once.1) (subst (λ (b : BookOf). AreSweptTo b.geometry (seen_in left) (seen_in now)) ran.same.book swept.swept);
    }

    module _ (s : State) (at : StandsAt (store_of parts) s) where
      pub is_answered : (answered : IsAnswered (more (store_of parts) (asked_of written) s at) g (store_of parts).max (seats_at parts.served) s (Request.OfMap written) (seen_in now)) × (outcome_of outcome ≡ outcome_at (length parts.places.directory.core.points) answered.served.1)
      is_answered =
          calls_are_answered (more (store_of parts) (asked_of written) s at) g (store_of parts).max 1 (seats_at parts.served) at.stands (seen_in parts.places) (seen_in now) s written (outcome_of outcome) is.wide (omega arith)
          (between_more (store_of parts) (asked_of written) s at) (known_now at.calls parts.served (asked_of written) 0) runs_to

    pub ends_well : EndsCall (outcome_of outcome)
    ends_well = let its = is_answered is.state is.stands in ends_call g (store_of parts).max is.state written its.0.served its.0.allowed outcome (length parts.places.directory.core.points) its.1

    -- ---- what the call is served
    -- what its look owes
    abbrev owed_by : Told → List (ℕ × List ℕ)
    owed_by (Told.Pinned point length_now seen) = (point, contents_of parts.places.directory.stamps (parts_of g (note_of written) length_now seen)) ∷ []
    owed_by told = []

    pins_or : (told : Told) → ((point : ℕ) × (length_now : ℕ) × (seen : List Seen) × (told ≡ Told.Pinned point length_now seen)) ⊎ (owed_by told ≡ [])
    pins_or (Told.Pinned point length_now seen) = inl (point, length_now, seen, refl)
    pins_or told = inr refl

    abbrev looked : Told
    looked = (at_directory false (actor.Client 0) parts.served (DirectoryStep.Look (note_of written)) parts.places.directory.core).1

    look_owes : LookOwes (owed_by looked) first parts.places
    look_owes point length_now seen told =
        let here : looked ≡ Told.Pinned point length_now seen = (λ i. (at_directory false (sym who_is i) (sym number_is i) (DirectoryStep.Look (sym job_is i).note) parts.places.directory.core).1) ∙ told in
        subst (λ (j : Job). AreAmong (owed_by looked) point (contents_of parts.places.directory.stamps (parts_of g j.note length_now seen))) (sym job_is)
        (subst (λ (t : Told). AreAmong (owed_by t) point (contents_of parts.places.directory.stamps (parts_of g (note_of written) length_now seen))) (sym here) (contains_one (point, contents_of parts.places.directory.stamps (parts_of g (note_of written) length_now seen))))

    module _ (s : State) (at : StandsAt (store_of parts) s) where
      abbrev calls : Calls
      calls = more (store_of parts) (asked_of written) s at

      among_by : ((point : ℕ) × (length_now : ℕ) × (seen : List Seen) × (looked ≡ Told.Pinned point length_now seen)) ⊎ (owed_by looked ≡ []) → (place : ℕ) (bytes given : List ℕ) → Contains (owed_by looked) (place, bytes) → (apply (store_of parts).max written s.objects).1 ≡ reply.Bytes given → given ≡ bytes
      among_by (inl (point, length_now, seen, is_told)) place bytes given within is_given =
          let one : (place, bytes) ≡ (point, contents_of parts.places.directory.stamps (parts_of g (note_of written) length_now seen)) = one_contained (place, bytes) (point, contents_of parts.places.directory.stamps (parts_of g (note_of written) length_now seen)) (subst (λ (t : Told). Contains (owed_by t) (place, bytes)) is_told within) in
          let stamped : contents_of parts.places.directory.stamps (parts_of g (note_of written) length_now seen) ≡ bytes_read (contents_by parts.places.directory.core.shape calls parts.places.directory.core.versions) (parts_of g (note_of written) length_now seen) =
          contents_read parts.places.directory.stamps (parts_of g (note_of written) length_now seen) ∙ ap (λ l. bytes_read l (parts_of g (note_of written) length_now seen)) (contents_more (store_of parts) (asked_of written) s at) in
          let between = between_more (store_of parts) (asked_of written) s at in
          let owed : (apply parts.places.directory.core.max written s.objects).1 ≡ reply.Bytes (bytes_read (contents_by parts.places.directory.core.shape calls parts.places.directory.core.versions) (parts_of parts.places.directory.core.shape (note_of written) length_now seen)) =
          bytes_are_owed calls g (store_of parts).max at.stands (seen_in parts.places) s (actor.Client 0) parts.served written point length_now seen (subst (λ (x : Shape). 0 < stripe_length x) (sym between.seen.shape) is.wide) between.seen between.its_map
          (begins parts.places.directory.core (actor.Client 0) parts.served between.client) (of_client 0 written) (known_now at.calls parts.served (asked_of written) 0) is_told in
          bytes_in (sym is_given ∙ owed ∙ ap (λ (x : Shape). reply.Bytes (bytes_read (contents_by parts.places.directory.core.shape calls parts.places.directory.core.versions) (parts_of x (note_of written) length_now seen))) between.seen.shape)
          ∙ sym stamped ∙ sym (ap (λ (x : ℕ × List ℕ). x.1) one)
      among_by (inr none) place bytes given within is_given = absurd (none_contained (place, bytes) (subst (λ (l : List (ℕ × List ℕ)). Contains l (place, bytes)) none within))

      served_bytes : IfReads (machine_of c.asked) (IfBytesServed ended_as (λ bytes. bytes.items ≡ c.owed)) → (p : Point) (bytes : Vec ℕ Global) (given : List ℕ) → outcome ≡ client.Served p bytes →
          (apply (store_of parts).max written s.objects).1 ≡ reply.Bytes given → given ≡ bytes.items
      served_bytes served p bytes given is_served is_given =
          let owes : OwesBy (AreAmong (owed_by looked)) c = ran.owes (owed_by looked) look_owes in
          let at_end = at_end_owes (AreAmong (owed_by looked)) c p.0 owes (over ∙ ap (λ o. Act.Finish (outcome_of o)) is_served) in
          let its : bytes.items ≡ c.owed = subst (λ o. IfBytesServed o (λ bytes. bytes.items ≡ c.owed)) (told_is ∙ ap (λ o. ended.Client o) is_served) (subst (λ m. IfReads m (IfBytesServed ended_as (λ bytes. bytes.items ≡ c.owed))) at_end.0 served) in
          among_by (pins_or looked) p.0 c.owed given at_end.1 is_given ∙ sym its

    -- ---- what it leaves
    module _ (seat_now : Seat) (seat_after : ActorToken.Seated seat_now ≡ c.call.token) (served : IfReads (machine_of c.asked) (IfBytesServed ended_as (λ bytes. bytes.items ≡ c.owed))) (answer : Answer) (answers : AnswersCall outcome answer) where
      places_left : LeavesPlaces parts (actor.Client 0) now
      places_left = run_leaves parts (actor.Client 0) first c left now ran swept who_is (is_answered is.state is.stands).0.between.seen.most

      module _ (s : State) (at : StandsAt (store_of parts) s) where
        abbrev its : IsAnswered (calls s at) g (store_of parts).max (seats_at parts.served) s (Request.OfMap written) (seen_in now)
        its = (is_answered s at).0

        -- what requests of other kinds see stays
        kept_by : {X : Type 0} (f : State → X) → f (serve g (store_of parts).max (Request.OfMap written) s).0 ≡ f s → f its.served.0 ≡ f s
        kept_by f stays = by its.allowed
          where
            by : (its.served ≡ serve g (store_of parts).max (Request.OfMap written) s) ⊎ ((its.served.1 ≡ Answer.NoMemory) × (its.served.0 ≡ s)) → f its.served.0 ≡ f s
            by (inl e) = ap (λ (r : State × Answer). f r.0) e ∙ stays
            by (inr (none, same)) = ap f same

        state_left : LeavesState parts is (actor.Client 0) now places_left (Request.OfMap written) answer (Some seat_now) parts.repairer parts.healer parts.next s
        state_left = record {
          after = its.served.0;
          served = call_served g (store_of parts).max s written its.served its.allowed outcome (length parts.places.directory.core.points) (is_answered s at).1 answer answers (served_bytes s at served);
          calls = calls s at;
          stands = its.stands;
          between =
              passed_over (calls s at) g (store_of parts).max (seats_after (Request.OfMap written) (seats_at parts.served)) (parts.served + 1) (parts.served + 1) (parts.served + 1) its.stands (seen_in now) its.served.0 (omega arith) (omega arith) (omega arith)
              its.between;
          contents = swept.keeps.contents (calls s at) (ran.bytes (calls s at) (known_bytes s at)).contents;
          fresh = known_fresh at.calls parts.served (asked_of written) at.fresh;
          next_is = kept_by (λ x. x.next) (call_next g (store_of parts).max s written) ∙ at.next;
          epochs = kept_by (λ x. x.epochs) (call_epochs g (store_of parts).max s written);
          snapshot = kept_by (λ x. x.snapshot) (call_snapshot g (store_of parts).max s written);
        }

      pub call_is_served : ServesRequest (Request.OfMap written) (store_of parts) answer (store_of (record parts { places = now; served = parts.served + 1; client = Some seat_now }))
      call_is_served =
          request_is_served parts is (actor.Client 0) now places_left (Request.OfMap written) answer (Some seat_now) parts.repairer parts.healer parts.next state_left (λ n some. ne_eqb 0 n (λ e. omega (arith, some, e)))
          (seat_back parts (actor.Client 0) first c left now ran swept who_is parts.served number_is refl seat_now seat_after)
          (seat_still parts is (actor.Client 0) now places_left (actor.Repairer 0) parts.served (parts.served + 1) parts.repairer (omega arith) refl refl is.repairer)
          (seat_still parts is (actor.Client 0) now places_left (actor.Repairer 1) parts.next parts.next parts.healer (omega arith) refl refl is.healer)
