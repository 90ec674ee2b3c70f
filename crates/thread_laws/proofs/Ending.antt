-- The last histories of a run are those of steps made apart.
use Rattle.std.proofs.Common.{◌≡◌, ℕ, zero, suc, ◌+◌, ◌<◌, ◌≤◌, Bool, true, false, nat_lt, List, [], ◌∷◌, length, map, filter, replicate, Option, None, Some, option_map, unwrap_or, IfSome, refl, sym, ap, subst, ◌∙◌, inl, inr, ◌⊎◌, arith}
use Rattle.std.proofs.lemmas.Bool.{ltb-false, ltb-true}
use Rattle.std.proofs.lemmas.List.{length-map}
use Rattle.std.proofs.lemmas.List.Elements.{All-nil, All-map, All-filter, All-weaker, filter_passes}
use Rattle.std.proofs.lemmas.Option.{slice_get_past}
use Rattle.std.specs.Prelude.{All}
use Rattle.std.specs.List.{slice_get, range_with_len}
use Rattle.clay_grid.specs.Shape.{chunk_count}
use Rattle.store_map.specs.Limits.{size_of}
use Rattle.store_map.specs.declared.actor.Actor.{Actor}
use Rattle.store_map.specs.declared.actor.Actor.TheVariants as actor
use Rattle.store_map.specs.declared.script.Script.{Script}
use Rattle.store_core.specs.ActPlace.{ActPlace}
use Rattle.store_core.specs.Core.{first_core}
use Rattle.store_core.specs.Directory.{new_directory}
use Rattle.store_core.specs.Server.{Server, new_server}
use Rattle.store_core.specs.Sweep.{Sweeper}
use Rattle.store_core.specs.Work.{Work, Calling, new_calling, client_work, repairer_work, has_step}
use Rattle.thread_laws.specs.MadeSteps.{MadeStep, is_by, is_at, MomentsRise}
use Rattle.thread_laws.specs.AtPlaces.{after_all, AllCome, directory_next, DirectoryAnswers, server_next, ServerAnswers}
use Rattle.thread_laws.specs.ByActors.{calling_next, IsNext, sweeper_next, IsNextSweep}
use Rattle.thread_laws.specs.Lines.{lines_next, IsNextLine}
use Rattle.thread_laws.specs.Threaded.{lines_of}
use Rattle.thread_laws.specs.Histories.{Histories, StandTwice, ComeIfThere, ComeOfActor, GoOn}
use Rattle.thread_laws.specs.Merging.{calling_after, EndAs}
use Rattle.thread_laws.specs.OwnSteps.{AreOwn}
use Rattle.thread_laws.proofs.Given.{slice_get-replicate}
use Rattle.thread_laws.proofs.Orders.{one_is}
use Rattle.thread_laws.proofs.Own.{at_place}
use Rattle.thread_laws.specs.Ended.{NoneHasAStep, RanApart}
use Rattle.stripe_stamps.specs.Sealed.{Sealed}
use Rattle.turn_lock.specs.History.{entries_of}
use Rattle.thread_laws.specs.AtServer.{StandsAtServer}
use Rattle.thread_laws.specs.Entries.{steps_in}
use Rattle.thread_laws.specs.Noted.{Noted}
use Rattle.thread_laws.specs.Numbers.{Counts, actor_at, IsTurnOf}
use Rattle.thread_laws.proofs.PlaceOwn.{own_steps as entries_are}
use Rattle.world_laws.specs.Known.{calling_of}
use Rattle.world_laws.specs.StandsFor.{ActorStands, AllStand, StandsFor}
use Rattle.world_laws.proofs.Actors.{same_turn}
use Rattle.thread_laws.specs.Logs.{Logs, log_of, steps_at, own_at, HasSeenOwn, counts_of, run_lists}
use Rattle.thread_laws.specs.Listed.{IsListed}
use Rattle.thread_laws.specs.PlaceEnded.{PlacesStand, CallerOf, HasEnded, AllHaveEnded}
use Rattle.thread_laws.specs.EndLaws.{end_of, world_of, ActorsEndRuns}
use Rattle.thread_laws.proofs.Lists.{filter_all, filter_none, rise_filter, own_passes, own_empty, get_first, found_or_past, get_past, replicate_past}
use Rattle.thread_laws.proofs.Turns.{client_there, repairer_there, client_turn, repairer_turn, sweeper_turn, operator_turn}

-- ---- a place
-- what is known of the steps at a place: they are its own, their moments rise, each has a turn, and an actor's are those of its number
record IsKnown (of : Counts) (place : ActPlace) (steps : List MadeStep) (under : ℕ → List MadeStep) : Type 0 where
  here : All (λ m. is_at place m ≡ true) steps
  rise : MomentsRise steps
  turned : All (λ (m : MadeStep). (number : ℕ) × IsTurnOf of number m.actor) steps
  own : (number : ℕ) (who : Actor) → IsTurnOf of number who → filter (is_by who) steps ≡ under number

no_steps : (of : Counts) (place : ActPlace) → IsKnown of place [] (λ _. [])
no_steps of place =
    record {
      here = All-nil (λ m. is_at place m ≡ true);
      rise = tt;
      turned = All-nil (λ (m : MadeStep). (number : ℕ) × IsTurnOf of number m.actor);
      own = λ number who its. refl;
    }

server_known : (of : Counts) (j : ℕ) (s : Server) (log : List (ℕ × MadeStep)) → StandsAtServer of j s log → IsKnown of (ActPlace.Server j) (steps_in log) (λ number. steps_in (entries_of number log))
server_known of j s log stands =
    record {
      here = stands.here;
      rise = stands.rise;
      turned =
          All-map (λ (m : MadeStep). (number : ℕ) × IsTurnOf of number m.actor) (λ (entry : ℕ × MadeStep). entry.1) log
          (All-weaker (λ (entry : ℕ × MadeStep). IsTurnOf of entry.0 entry.1.actor) (λ (entry : ℕ × MadeStep). (number : ℕ) × IsTurnOf of number entry.1.actor) (λ entry its. (entry.0, its)) log stands.turns);
      own = λ number who its. entries_are (λ (m : MadeStep). m) of number who its log stands.turns;
    }

-- ---- actors in a group
module _ (script : Script) (f : ℕ → Calling) where
  all_stand : (works : List Work) (callers : List CallerOf) (start count : ℕ) → length works ≡ count → length callers ≡ count
      → ((i : ℕ) (work : Work) (caller : CallerOf) → slice_get works i ≡ Some work → slice_get callers i ≡ Some caller → ActorStands script work.jobs (f (start + i)) caller.actor)
      → AllStand script works (map f (range_with_len start count)) (map (λ (caller : CallerOf). caller.actor) callers)
  all_stand [] [] start zero e q each = tt
  all_stand [] (caller ∷ callers) start zero e q each = absurd (omega (arith, q))
  all_stand (work ∷ works) callers start zero e q each = absurd (omega (arith, e))
  all_stand [] callers start (suc count) e q each = absurd (omega (arith, e))
  all_stand (work ∷ works) [] start (suc count) e q each = absurd (omega (arith, q))
  all_stand (work ∷ works) (caller ∷ callers) start (suc count) e q each =
      let none : start + 0 ≡ start = omega arith in
      let works_left : length works ≡ count = omega (arith, e) in
      let callers_left : length callers ≡ count = omega (arith, q) in (
        subst (λ n. ActorStands script work.jobs (f n) caller.actor) none (each 0 work caller refl refl),
        all_stand works callers (start + 1) count works_left callers_left
            (λ i its one is_work is_caller. let next : start + suc i ≡ start + 1 + i = omega arith in subst (λ n. ActorStands script its.jobs (f n) one.actor) next (each (suc i) its one is_work is_caller)),
      )

module _ (script : Script) (d : Sealed) (servers : List Server) (logs : Logs) (stand : PlacesStand script d servers logs) where
  abbrev n : ℕ
  n = chunk_count script.geometry

  abbrev of_script : Counts
  of_script = counts_of script

  abbrev h : Histories
  h = run_lists n logs

  abbrev at_of : Actor → ActPlace → List MadeStep
  at_of who place = filter (is_by who) (steps_at logs place)

  no_log : (j : ℕ) → n ≤ j → log_of logs j ≡ []
  no_log j le =
      let logged : length logs.servers ≡ n = stand.logged in
      ap (λ (o : Option (List (ℕ × MadeStep))). unwrap_or o []) (slice_get_past logs.servers j (omega (arith, le, logged)))

  known : (place : ActPlace) → IsKnown of_script place (steps_at logs place) (λ number. own_at number logs place)
  known ActPlace.Directory =
      let stands = stand.directory in
      record {
        here = stands.here;
        rise = stands.rise;
        turned =
            All-map (λ (m : MadeStep). (number : ℕ) × IsTurnOf of_script number m.actor) (λ (entry : ℕ × Noted). entry.1.made) logs.directory
            (All-weaker (λ (entry : ℕ × Noted). IsTurnOf of_script entry.0 entry.1.made.actor) (λ (entry : ℕ × Noted). (number : ℕ) × IsTurnOf of_script number entry.1.made.actor) (λ entry its. (entry.0, its))
            logs.directory stands.turns);
        own = λ number who its. entries_are (λ (note : Noted). note.made) of_script number who its logs.directory stands.turns;
      }
  known (ActPlace.Server j) = by (found_or_past servers j)
    where
      by : ((s : Server) × (j < length servers) × (slice_get servers j ≡ Some s)) ⊎ ((length servers ≤ j) × (slice_get servers j ≡ None)) → IsKnown of_script (ActPlace.Server j) (steps_at logs (ActPlace.Server j)) (λ number. own_at number logs (ActPlace.Server j))
      by (inl found) = server_known of_script j found.0 (log_of logs j) (stand.at_server j found.0 found.2)
      by (inr none) =
          let width : length servers ≡ n = stand.width in
          let past : length servers ≤ j = none.0 in
          subst (λ (l : List (ℕ × MadeStep)). IsKnown of_script (ActPlace.Server j) (steps_in l) (λ number. steps_in (entries_of number l))) (sym (no_log j (omega (arith, width, past)))) (no_steps of_script (ActPlace.Server j))

  -- ---- an actor
  own_of : (who : Actor) → AreOwn n (at_of who)
  own_of who =
      record {
        here = λ place. filter_all (is_at place) (at_of who place) (All-filter (is_by who) (λ m. is_at place m ≡ true) (steps_at logs place) (known place).here);
        order = λ place. rise_filter (is_by who) (steps_at logs place) (known place).rise;
        past = λ j le. ap (λ (l : List (ℕ × MadeStep)). filter (is_by who) (steps_in l)) (no_log j le);
      }

  seen_is : (number : ℕ) (who : Actor) (seen : Logs) → IsTurnOf of_script number who → HasSeenOwn number seen logs → at_of who ≡ own_at number seen
  seen_is number who seen its saw = λ k place. ((known place).own number who its ∙ saw place) k

  -- one that isn't there
  absent : (who : Actor) → ((number : ℕ) → who ≡ actor_at of_script number → ⊥) → h.of who ≡ []
  absent who none =
      own_empty n (at_of who)
      (λ place. filter_none (is_by who) (steps_at logs place)
      (All-weaker (λ (m : MadeStep). (number : ℕ) × IsTurnOf of_script number m.actor) (λ m. is_by who m ≡ false) (λ m its. by m its (is_by who m) refl) (steps_at logs place) (known place).turned))
    where
      by : (m : MadeStep) → ((number : ℕ) × IsTurnOf of_script number m.actor) → (b : Bool) → is_by who m ≡ b → is_by who m ≡ false
      by m its true e = absurd (none its.0 (one_is who m.actor e ∙ its.1.whose))
      by m its false e = e

  listed_of : {S : Type 0} (next : MadeStep → S → S) (May : MadeStep → S → Type 0) (first now : S) (number : ℕ) (who : Actor) (seen : Logs) → IsTurnOf of_script number who → HasSeenOwn number seen logs
      → IsListed next May first n (own_at number seen) now → IsListed next May first n (at_of who) now
  listed_of next May first now number who seen its saw listed = subst (λ (at : ActPlace → List MadeStep). IsListed next May first n at now) (sym (seen_is number who seen its saw)) listed

  -- ---- a group of clients or repairers
  module _ (who_of : ℕ → Actor) (number_of : ℕ → ℕ) (works : List Work) (callers : List CallerOf) (count : ℕ) (work_count : length works ≡ count) (caller_count : length callers ≡ count)
      (turn : (i : ℕ) → i < count → IsTurnOf of_script (number_of i) (who_of i)) (there : (number i : ℕ) → who_of i ≡ actor_at of_script number → i < count)
      (ended : (i : ℕ) (work : Work) (caller : CallerOf) → slice_get works i ≡ Some work → slice_get callers i ≡ Some caller → HasEnded script logs (number_of i) (who_of i) work caller) where
    abbrev after : ℕ → Calling
    after i = calling_after script (h.of (who_of i)) (slice_get works i) (new_calling n)

    -- actor i with its work
    record Has (i : ℕ) : Type 0 where
      work : Work
      is_work : slice_get works i ≡ Some work
      caller : CallerOf
      calling : Calling
      listed : IsListed (calling_next script work) (IsNext script work) (new_calling n) n (at_of (who_of i)) calling
      stands : ActorStands script work.jobs calling caller.actor
      over : has_step work (calling_of script caller.actor) ≡ false

    has_of : (i : ℕ) (work : Work) (caller : CallerOf) → i < count → slice_get works i ≡ Some work → slice_get callers i ≡ Some caller → Has i
    has_of i work caller lt is_work is_caller =
        let end = ended i work caller is_work is_caller in
        record {
          work = work;
          is_work = is_work;
          caller = caller;
          calling = end.acting.calling;
          listed = listed_of (calling_next script work) (IsNext script work) (new_calling n) end.acting.calling (number_of i) (who_of i) caller.seen (turn i lt) end.saw end.acting.listed;
          stands = end.acting.stands;
          over = end.over;
        }

    has : (i : ℕ) → i < count → Has i
    has i lt = by (found_or_past works i) (found_or_past callers i)
      where
        by : ((w : Work) × (i < length works) × (slice_get works i ≡ Some w)) ⊎ ((length works ≤ i) × (slice_get works i ≡ None))
            → ((s : CallerOf) × (i < length callers) × (slice_get callers i ≡ Some s)) ⊎ ((length callers ≤ i) × (slice_get callers i ≡ None)) → Has i
        by (inl w) (inl s) = has_of i w.0 s.0 lt w.2 s.2
        by (inl w) (inr none) = let past : length callers ≤ i = none.0 in absurd (omega (arith, past, caller_count, lt))
        by (inr none) s = let past : length works ≤ i = none.0 in absurd (omega (arith, past, work_count, lt))

    -- there is such an actor, or there is none and it has made no step
    cases : (i : ℕ) → (i < count) ⊎ ((count ≤ i) × (h.of (who_of i) ≡ []))
    cases i = by (nat_lt i count) refl
      where
        by : (b : Bool) → nat_lt i count ≡ b → (i < count) ⊎ ((count ≤ i) × (h.of (who_of i) ≡ []))
        by true e = inl (ltb-true i count e)
        by false e =
            let past : count ≤ i = ltb-false i count e in
            inr (past, absent (who_of i) (λ number same. let lt : i < count = there number i same in absurd (omega (arith, past, lt))))

    group_rise : (i : ℕ) → MomentsRise (h.of (who_of i))
    group_rise i = by (cases i)
      where
        by : (i < count) ⊎ ((count ≤ i) × (h.of (who_of i) ≡ [])) → MomentsRise (h.of (who_of i))
        by (inl lt) = (has i lt).listed.rise
        by (inr none) = subst MomentsRise (sym none.1) tt

    group_come : (i : ℕ) → ComeOfActor script (h.of (who_of i)) (slice_get works i) (slice_get (replicate count (new_calling n)) i)
    group_come i = by (cases i)
      where
        by : (i < count) ⊎ ((count ≤ i) × (h.of (who_of i) ≡ [])) → ComeOfActor script (h.of (who_of i)) (slice_get works i) (slice_get (replicate count (new_calling n)) i)
        by (inl lt) =
            let it = has i lt in
            subst (λ w. ComeOfActor script (h.of (who_of i)) w (slice_get (replicate count (new_calling n)) i)) (sym it.is_work)
            (subst (λ c. ComeOfActor script (h.of (who_of i)) (Some it.work) c) (sym (slice_get-replicate count i (new_calling n) lt)) it.listed.come)
        by (inr none) =
            let past : count ≤ i = none.0 in
            subst (λ w. ComeOfActor script (h.of (who_of i)) w (slice_get (replicate count (new_calling n)) i)) (sym (slice_get_past works i (omega (arith, past, work_count)))) none.1

    group_ends : (i : ℕ) → slice_get (map after (range_with_len 0 count)) i ≡ option_map (calling_after script (h.of (who_of i)) (slice_get works i)) (slice_get (replicate count (new_calling n)) i)
    group_ends i = by (cases i)
      where
        by : (i < count) ⊎ ((count ≤ i) × (h.of (who_of i) ≡ [])) → slice_get (map after (range_with_len 0 count)) i ≡ option_map (calling_after script (h.of (who_of i)) (slice_get works i)) (slice_get (replicate count (new_calling n)) i)
        by (inl lt) =
            get_first after count i lt ∙ ap (option_map (calling_after script (h.of (who_of i)) (slice_get works i))) (sym (slice_get-replicate count i (new_calling n) lt))
        by (inr none) =
            get_past after 0 count i none.0 ∙ ap (option_map (calling_after script (h.of (who_of i)) (slice_get works i))) (sym (replicate_past count i (new_calling n) none.0))

    -- the calling that its list leads to
    after_is : (i : ℕ) (it : Has i) → after i ≡ it.calling
    after_is i it = ap (λ w. calling_after script (h.of (who_of i)) w (new_calling n)) it.is_work ∙ sym it.listed.leads

    group_over : NoneHasAStep works (map after (range_with_len 0 count))
    group_over i = by (cases i)
      where
        by : (i < count) ⊎ ((count ≤ i) × (h.of (who_of i) ≡ [])) → IfSome (slice_get works i) (λ work. IfSome (slice_get (map after (range_with_len 0 count)) i) (λ calling. has_step work calling ≡ false))
        by (inl lt) =
            let it = has i lt in
            subst (λ w. IfSome w (λ work. IfSome (slice_get (map after (range_with_len 0 count)) i) (λ calling. has_step work calling ≡ false))) (sym it.is_work)
            (subst (λ c. IfSome c (λ calling. has_step it.work calling ≡ false)) (sym (get_first after count i lt ∙ ap Some (after_is i it)))
            (same_turn script it.work it.calling it.caller.actor it.stands ∙ it.over))
        by (inr none) =
            let past : count ≤ i = none.0 in
            subst (λ w. IfSome w (λ work. IfSome (slice_get (map after (range_with_len 0 count)) i) (λ calling. has_step work calling ≡ false))) (sym (slice_get_past works i (omega (arith, past, work_count)))) tt

    group_stands : AllStand script works (map after (range_with_len 0 count)) (map (λ (caller : CallerOf). caller.actor) callers)
    group_stands = all_stand script after works callers 0 count work_count caller_count (λ i work caller is_work is_caller. by i work caller is_work is_caller (nat_lt i count) refl)
      where
        by : (i : ℕ) (work : Work) (caller : CallerOf) → slice_get works i ≡ Some work → slice_get callers i ≡ Some caller → (b : Bool) → nat_lt i count ≡ b → ActorStands script work.jobs (after (0 + i)) caller.actor
        by i work caller is_work is_caller true e =
            let end = ended i work caller is_work is_caller in
            let listed = listed_of (calling_next script work) (IsNext script work) (new_calling n) end.acting.calling (number_of i) (who_of i) caller.seen (turn i (ltb-true i count e)) end.saw end.acting.listed in
            let is : end.acting.calling ≡ after i = listed.leads ∙ ap (λ w. calling_after script (h.of (who_of i)) w (new_calling n)) (sym is_work) in
            let none : i ≡ 0 + i = omega arith in
            subst (λ k. ActorStands script work.jobs (after k) caller.actor) none (subst (λ c. ActorStands script work.jobs c caller.actor) is end.acting.stands)
        by i work caller is_work is_caller false e =
            let past : count ≤ i = ltb-false i count e in
            let none : Some work ≡ None = sym is_work ∙ slice_get_past works i (omega (arith, past, work_count)) in
            absurd (cc (none))

  -- what is known of a group
  record GroupEnds (who_of : ℕ → Actor) (works : List Work) (callers : List CallerOf) (count : ℕ) : Type 0 where
    rise : (i : ℕ) → MomentsRise (h.of (who_of i))
    come : (i : ℕ) → ComeOfActor script (h.of (who_of i)) (slice_get works i) (slice_get (replicate count (new_calling n)) i)
    ends :
        (i : ℕ) →
        slice_get (map (λ i. calling_after script (h.of (who_of i)) (slice_get works i) (new_calling n)) (range_with_len 0 count)) i
        ≡ option_map (calling_after script (h.of (who_of i)) (slice_get works i)) (slice_get (replicate count (new_calling n)) i)
    over : NoneHasAStep works (map (λ i. calling_after script (h.of (who_of i)) (slice_get works i) (new_calling n)) (range_with_len 0 count))
    stands : AllStand script works (map (λ i. calling_after script (h.of (who_of i)) (slice_get works i) (new_calling n)) (range_with_len 0 count)) (map (λ (caller : CallerOf). caller.actor) callers)

  group_known : (who_of : ℕ → Actor) (number_of : ℕ → ℕ) (works : List Work) (callers : List CallerOf) (count : ℕ) → length works ≡ count → length callers ≡ count
      → ((i : ℕ) → i < count → IsTurnOf of_script (number_of i) (who_of i)) → ((number i : ℕ) → who_of i ≡ actor_at of_script number → i < count)
      → ((i : ℕ) (work : Work) (caller : CallerOf) → slice_get works i ≡ Some work → slice_get callers i ≡ Some caller → HasEnded script logs (number_of i) (who_of i) work caller)
      → GroupEnds who_of works callers count
  group_known who_of number_of works callers count work_count caller_count turn there ended =
      record {
        rise = group_rise who_of number_of works callers count work_count caller_count turn there ended;
        come = group_come who_of number_of works callers count work_count caller_count turn there ended;
        ends = group_ends who_of number_of works callers count work_count caller_count turn there ended;
        over = group_over who_of number_of works callers count work_count caller_count turn there ended;
        stands = group_stands who_of number_of works callers count work_count caller_count turn there ended;
      }

  -- ---- the whole
  module _ (swept operated : Logs) (clients repairers : List CallerOf) (sweeper : Sweeper) (all : AllHaveEnded script logs swept operated clients repairers sweeper) where
    of_clients : GroupEnds (λ i. actor.Client i) (client_work script) clients (length script.clients)
    of_clients =
        group_known (λ i. actor.Client i) (λ i. i) (client_work script) clients (length script.clients) (length-map script.clients _) all.client_count (client_turn of_script)
        (client_there of_script) all.clients_ended

    of_repairers : GroupEnds (λ i. actor.Repairer i) (repairer_work script) repairers (length script.repairers)
    of_repairers =
        group_known (λ i. actor.Repairer i) (λ i. length script.clients + i) (repairer_work script) repairers (length script.repairers) (length-map script.repairers _) all.repairer_count (repairer_turn of_script)
        (repairer_there of_script) all.repairers_ended

    of_sweeper : IsListed (sweeper_next script) (IsNextSweep script) Sweeper.Idle n (at_of actor.Sweeper) sweeper
    of_sweeper = listed_of (sweeper_next script) (IsNextSweep script) Sweeper.Idle sweeper (length script.clients + length script.repairers) actor.Sweeper swept (sweeper_turn of_script) all.saw_swept all.sweeping

    of_operator : IsListed lines_next IsNextLine (lines_of script) n (at_of actor.Operator) []
    of_operator = listed_of lines_next IsNextLine (lines_of script) [] (length script.clients + length script.repairers + 1) actor.Operator operated (operator_turn of_script) all.saw_operated all.operating

    twice : StandTwice h
    twice =
        record {
          here = λ place. filter_all (is_at place) (steps_at logs place) (known place).here;
          own = λ who. own_passes (is_by who) n (at_of who) (λ place. filter_all (is_by who) (at_of who place) (filter_passes (is_by who) (steps_at logs place)));
          both = λ place who. sym (at_place n (at_of who) (own_of who) place);
          rise_at = λ place. (known place).rise;
          rise_of = rises;
        }
      where
        rises : (who : Actor) → MomentsRise (h.of who)
        rises (actor.Client i) = of_clients.rise i
        rises (actor.Repairer i) = of_repairers.rise i
        rises actor.Sweeper = of_sweeper.rise
        rises actor.Operator = of_operator.rise

    -- a server comes as its history says, and ends so
    server_cases : (j : ℕ) → ((s : Server) × (j < n) × (slice_get servers j ≡ Some s) × StandsAtServer of_script j s (log_of logs j)) ⊎ ((n ≤ j) × (slice_get servers j ≡ None))
    server_cases j = by (found_or_past servers j)
      where
        by : ((s : Server) × (j < length servers) × (slice_get servers j ≡ Some s)) ⊎ ((length servers ≤ j) × (slice_get servers j ≡ None))
            → ((s : Server) × (j < n) × (slice_get servers j ≡ Some s) × StandsAtServer of_script j s (log_of logs j)) ⊎ ((n ≤ j) × (slice_get servers j ≡ None))
        by (inl found) =
            let width : length servers ≡ n = stand.width in
            let below : j < length servers = found.1 in
            inl (found.0, omega (arith, width, below), found.2, stand.at_server j found.0 found.2)
        by (inr none) =
            let width : length servers ≡ n = stand.width in
            let past : length servers ≤ j = none.0 in
            inr (omega (arith, width, past), none.1)

    servers_come : (j : ℕ) → ComeIfThere (AllCome server_next ServerAnswers) (steps_at logs (ActPlace.Server j)) (slice_get (replicate n new_server) j)
    servers_come j = by (server_cases j)
      where
        by : ((s : Server) × (j < n) × (slice_get servers j ≡ Some s) × StandsAtServer of_script j s (log_of logs j)) ⊎ ((n ≤ j) × (slice_get servers j ≡ None))
            → ComeIfThere (AllCome server_next ServerAnswers) (steps_at logs (ActPlace.Server j)) (slice_get (replicate n new_server) j)
        by (inl found) =
            subst (λ o. ComeIfThere (AllCome server_next ServerAnswers) (steps_at logs (ActPlace.Server j)) o) (sym (slice_get-replicate n j new_server found.1)) found.3.answers
        by (inr none) =
            subst (λ o. ComeIfThere (AllCome server_next ServerAnswers) (steps_at logs (ActPlace.Server j)) o) (sym (replicate_past n j new_server none.0)) (ap steps_in (no_log j none.0))

    servers_end : (j : ℕ) → slice_get servers j ≡ option_map (after_all server_next (steps_at logs (ActPlace.Server j))) (slice_get (replicate n new_server) j)
    servers_end j = by (server_cases j)
      where
        by : ((s : Server) × (j < n) × (slice_get servers j ≡ Some s) × StandsAtServer of_script j s (log_of logs j)) ⊎ ((n ≤ j) × (slice_get servers j ≡ None))
            → slice_get servers j ≡ option_map (after_all server_next (steps_at logs (ActPlace.Server j))) (slice_get (replicate n new_server) j)
        by (inl found) =
            found.2 ∙ (ap Some found.3.ends ∙ ap (option_map (after_all server_next (steps_at logs (ActPlace.Server j)))) (sym (slice_get-replicate n j new_server found.1)))
        by (inr none) = none.1 ∙ ap (option_map (after_all server_next (steps_at logs (ActPlace.Server j)))) (sym (replicate_past n j new_server none.0))

    go : GoOn script (lines_of script) (first_core script) h.at h.of
    go =
        record {
          directory = subst (λ g. AllCome directory_next DirectoryAnswers (steps_at logs ActPlace.Directory) (new_directory g (size_of script))) stand.book stand.directory.answers;
          servers = servers_come;
          clients = of_clients.come;
          repairers = of_repairers.come;
          sweeper = of_sweeper.come;
          operator = of_operator.come;
        }

    ends : EndAs script (first_core script) h.at h.of (end_of script d servers logs)
    ends =
        record {
          directory = stand.directory.ends ∙ ap (λ g. after_all directory_next (steps_at logs ActPlace.Directory) (new_directory g (size_of script))) stand.book;
          servers = servers_end;
          clients = of_clients.ends;
          repairers = of_repairers.ends;
          sweeper = refl;
        }

    pub ran_apart : RanApart script h (end_of script d servers logs)
    ran_apart =
        record {
          twice = twice;
          go = go;
          lines = sym of_operator.leads;
          ends = ends;
          ended = record { clients = of_clients.over; repairers = of_repairers.over };
        }

    pub world_stands : StandsFor script (world_of script d servers clients repairers sweeper) (end_of script d servers logs)
    world_stands =
        record {
          directory = refl;
          servers = refl;
          clients = of_clients.stands;
          repairers = of_repairers.stands;
          sweeper = sym of_sweeper.leads;
          width = refl;
        }

pub actors_end_runs : ActorsEndRuns
actors_end_runs script d servers logs swept operated clients repairers sweeper stand all =
    (ran_apart script d servers logs stand swept operated clients repairers sweeper all, world_stands script d servers logs stand swept operated clients repairers sweeper all)
