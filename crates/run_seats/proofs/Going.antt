-- A seated caller after its step.
use Rattle.std.proofs.Common.{◌≡◌, ℕ, ◌+◌, ◌<◌, ◌≤◌, List, get_or, length, set, Option, Some, IfSome, refl, sym, ap, subst, ◌∙◌, arith, ◌^◌}
use Rattle.std.proofs.lemmas.Option.{same_Some}
use Rattle.clay_grid.specs.Shape.{Shape, chunk_count}
use Rattle.store_map.specs.Limits.{size_of}
use Rattle.store_map.specs.declared.actor.Actor.TheVariants as actor
use Rattle.store_map.specs.declared.script.Script.{Script}
use Rattle.store_core.specs.Act.{Act}
use Rattle.store_core.specs.ActPlace.{ActPlace}
use Rattle.store_core.specs.Work.{Work}
use Rattle.thread_laws.specs.MadeSteps.{MadeStep}
use Rattle.version_seal.specs.Entry.{BookOf}
use Rattle.stripe_stamps.specs.Sealed.{Sealed}
use Rattle.call_steps.specs.declared.need.Need.TheVariants as need
use Rattle.call_steps.specs.CallOf.{CallOf, act_of}
use Rattle.call_steps.specs.Steps.{need_of, stepped_at_server}
use Rattle.call_machine.specs.Calls.{MachineOf}
use Rattle.call_machine.specs.Kinds.{Asked, machine_of}
use Rattle.call_machine.specs.Owes.{OwesBy}
use Rattle.call_machine.proofs.Owing.{keeps_owing}
use Rattle.thread_laws.specs.Owed.{WasOwed}
use Rattle.world_laws.specs.World.{ActorOf}
use Rattle.world_laws.specs.ActorAfter.{actor_after, actor_after_by}
use Rattle.actors.specs.Callers.{CallerOf, Knows, work_of}
use Rattle.actors.specs.Owing.{AreServed}
use Rattle.actors.specs.Steps.{Concludes, IsReady, in_work}
use Rattle.turn_lock.specs.TurnState.{TurnState}
use Rattle.thread_laws.specs.HasMade.{HasMadeAtServer, HasMadeAtDirectory}
use Rattle.thread_laws.specs.Noted.{Noted, made_in}
use Rattle.thread_laws.specs.Numbers.{IsTurnOf}
use Rattle.thread_laws.specs.Logs.{Logs, counts_of, own_at}
use Rattle.thread_laws.specs.Measure.{left_at, bound_of}
use Rattle.thread_laws.specs.Stepped.{CallsOn, with_log, with_notes}
use Rattle.thread_laws.proofs.Placing.{callers_go_on_at_servers, callers_go_on_at_directory}
use Rattle.run_seats.specs.Fixed.{max_in}
use Rattle.run_seats.specs.Owing.{OwesBySteps}
use Rattle.run_seats.specs.Places.{HasTurns, last_by, seen_by}
use Rattle.run_seats.specs.Seated.{MayStep, StepsOn, left_by}
use Rattle.run_seats.specs.Seen.{seen_there}
use Rattle.run_seats.specs.Stepped.{HasSteppedAtServer, HasSteppedAtDirectory, WasThere}
use Rattle.run_seats.specs.declared.server_box.ServerIdentity.{ServerIdentity}
use Rattle.run_seats.specs.declared.directory_box.DirectoryIdentity.{DirectoryIdentity}
use Rattle.run_seats.specs.declared.seated.Seated.{Seated}
use Rattle.run_seats.specs.declared.store.Store.{Store}
use Rattle.run_seats.specs.declared.seat_turns.Turns.{Turns}
use Rattle.run_seats.proofs.Owing.{called_owes, coded_owes, grows_now, left_owes, owes_there}
use Rattle.run_seats.proofs.Placing.{count_seen, log_here, seen_here, turns_here, turns_there}
use Rattle.run_seats.proofs.Seating.{call_book, is_ready, knows_itself, of_ready, of_script, room}

-- ---- the caller
after_in_work : (act : Act) (c : CallOf) (now : MachineOf) (a : CallerOf) → actor_after_by act c (in_work now a).actor ≡ actor_after_by act c a.actor
after_in_work (Act.Finish outcome) c now a = refl
after_in_work (Act.AtDirectory step) c now a = refl
after_in_work (Act.AtServer server step) c now a = refl

counts_on : (steps left now bound : ℕ) → now < left → steps + left ≤ bound → (steps + 1) + now ≤ bound
counts_on steps left now bound less within = omega (arith, less, within)

-- the caller with what became of its call
abbrev left_caller : CallerOf → MachineOf → CallerOf → CallerOf
left_caller a left after = record a { actor = actor_after left.call a.actor; work = after.work; served = after.served }

caller_is : (a mid after : CallerOf) (r : IsReady a mid) (left : MachineOf) → Concludes mid left after → after ≡ left_caller a left after
caller_is a mid after r left done =
    done.same
    ∙ ((λ i. record (r.leaves i) { actor = after.actor; work = after.work; served = after.served })
    ∙ ap (λ (x : ActorOf). record a { actor = x; work = after.work; served = after.served })
    (done.actor ∙ (ap (λ (x : CallerOf). actor_after left.call x.actor) r.leaves ∙ after_in_work (act_of left.call) left.call r.now a)))

module _ (store : Store) (seated : Seated) (may : MayStep store seated) (mid after : CallerOf) (r : IsReady seated.caller mid) (last : ℕ) (last_is : last ≡ last_by store seated.turns) where
  abbrev a : CallerOf
  a = seated.caller

  abbrev script : Script
  script = store.script.now

  abbrev work : Work
  work = work_of seated.caller.part

  -- its own steps at each place by what its turns have seen
  abbrev own : ActPlace → List MadeStep
  own = own_at seated.turns.number (seen_by seated.turns)

  -- the call that made the step is the one that was ready
  call_is : (call : MachineOf) → mid.work ≡ Some call → call ≡ r.now
  call_is call was = same_Some call r.now (sym was ∙ ap (λ (x : CallerOf). x.work) r.leaves)

  -- ---- what its calls are owed, if it is a client
  module _ (i : ℕ) (client : seated.actor ≡ actor.Client i) where
    was : OwesBySteps script (made_in seated.turns.directory.seen) i a
    was = may.seated_is.owes i client

    ready_owes : OwesBy (WasOwed script (made_in seated.turns.directory.seen) i (length a.actor.ended)) r.now
    ready_owes =
        coded_owes (WasOwed script (made_in seated.turns.directory.seen) i (length a.actor.ended)) r.call r.now r.coded
        (called_owes (WasOwed script (made_in seated.turns.directory.seen) i (length a.actor.ended)) script a r.call (of_script store seated may) r.its was.work)

    caller_owes : (now : List MadeStep) → ((j count place : ℕ) (bytes : List ℕ) → WasOwed script (made_in seated.turns.directory.seen) j count place bytes → WasOwed script now j count place bytes) → (left : MachineOf)
        → left.asked ≡ r.now.asked → OwesBy (WasOwed script now i (length a.actor.ended)) left → Concludes mid left after → OwesBySteps script now i (left_caller a left after)
    caller_owes now grows left asked owes done =
        left_owes script (made_in seated.turns.directory.seen) now grows i a was left (r.its.asked ∙ ap (λ (x : Asked). Some x) (sym (asked ∙ r.coded.asked))) owes after.work after.served done.work
        (subst (λ (xs : List (Option (List ℕ))). AreServed (act_of left.call) (machine_of left.asked) left.owed xs after.served) (ap (λ (x : CallerOf). x.served) r.leaves) done.served)

  -- ---- with other turns, which have seen one entry more of its own
  module _ (now : Seated) (kept : now ≡ record seated { caller = now.caller; steps = seated.steps + 1; turns = now.turns }) (number : now.turns.number ≡ seated.turns.number) (turns : HasTurns store now.turns)
      (left : MachineOf) (caller : now.caller ≡ left_caller a left after) (goes : CallsOn script seated.actor work own (own_at seated.turns.number (seen_by now.turns)) (actor_after left.call a.actor))
      (knows : Knows (seen_there now.turns.directory.seen a.book) after)
      (owes : (i : ℕ) → seated.actor ≡ actor.Client i → OwesBySteps script (made_in now.turns.directory.seen) i (left_caller a left after)) where
    abbrev made : Seated
    made = record seated { caller = left_caller a left after; steps = seated.steps + 1; turns = now.turns }

    made_is : now ≡ made
    made_is = kept ∙ (λ i. record seated { caller = caller i; steps = seated.steps + 1; turns = now.turns })

    goes_now : CallsOn script seated.actor work own (own_at now.turns.number (seen_by now.turns)) (actor_after left.call a.actor)
    goes_now = subst (λ (n : ℕ). CallsOn script seated.actor work own (own_at n (seen_by now.turns)) (actor_after left.call a.actor)) (sym number) goes

    pub steps_on : StepsOn store seated now
    steps_on =
        subst (λ (x : Seated). StepsOn store seated x) (sym made_is)
        (record {
          seated_is = record {
            turns = turns;
            part = may.seated_is.part;
            book = may.seated_is.book;
            tries = may.seated_is.tries;
            whose = may.seated_is.whose;
            turn = subst (λ (n : ℕ). IsTurnOf (counts_of script) n seated.actor) (sym number) may.seated_is.turn;
            calling = goes_now.acting;
            knows = knows;
            owes = owes;
            counted = counts_on seated.steps (left_by store seated) (left_at script work (own_at now.turns.number (seen_by now.turns))) (bound_of script work) goes_now.falls may.seated_is.counted;
          };
          same = number;
          falls = goes_now.falls;
          one_more = refl;
        })

  -- ---- after a step at the directory
  module _ (turn : TurnState DirectoryIdentity Noted) (same : turn ≡ record seated.turns.directory { seen = turn.seen })
      (step : HasSteppedAtDirectory seated.turns.number last (max_in seated.turns.directory.fixed) seated.turns.directory.seen turn.seen mid after) (needs : IfSome mid.work (λ c. need.Directory ≡ need_of c.call))
      (its : IfSome mid.work (λ c. c.call.book ≡ mid.book)) where
    goes_there : CallsOn script seated.actor work own (own_at seated.turns.number (with_notes turn.seen (seen_by seated.turns))) (actor_after step.left.call a.actor)
    goes_there =
        callers_go_on_at_directory script seated.actor work seated.turns.number (seen_by seated.turns) turn.seen a.actor r.now.call step.left.call (room store seated may).targets may.seated_is.calling
        (is_ready store seated may mid r) (sym (of_ready store seated may mid r (λ x c. need.Directory ≡ need_of c.call) needs))
        (subst (λ (max : ℕ). HasMadeAtDirectory seated.turns.number (last_by store seated.turns) max seated.turns.directory.seen turn.seen r.now.call step.left.call) (ap max_in may.seated_is.turns.directory.fixed)
        (subst (λ (k : ℕ). HasMadeAtDirectory seated.turns.number k (max_in seated.turns.directory.fixed) seated.turns.directory.seen turn.seen r.now.call step.left.call) last_is
        (subst (λ (c : MachineOf). HasMadeAtDirectory seated.turns.number last (max_in seated.turns.directory.fixed) seated.turns.directory.seen turn.seen c.call step.left.call) (call_is step.call step.was) step.made)))

    owed_there : (i : ℕ) → seated.actor ≡ actor.Client i → OwesBySteps script (made_in turn.seen) i (left_caller a step.left after)
    owed_there i client =
        caller_owes i client (made_in turn.seen) (grows_now script seated.turns.number (max_in seated.turns.directory.fixed) i seated.turns.directory.seen turn.seen r.now step.left there written code most) step.left asked
        (owes_there script seated.turns.number (max_in seated.turns.directory.fixed) i seated.turns.directory.seen turn.seen r.now step.left there written code most (length a.actor.ended) ((knows_itself store seated may mid r).whose ∙ client)
        (knows_itself store seated may mid r).number (sym (of_ready store seated may mid r (λ x c. need.Directory ≡ need_of c.call) needs)) asked (ready_owes i client))
        step.concludes
      where
        there : WasThere seated.turns.number (max_in seated.turns.directory.fixed) seated.turns.directory.seen turn.seen r.now step.left
        there =
            subst (λ (c : MachineOf). WasThere seated.turns.number (max_in seated.turns.directory.fixed) seated.turns.directory.seen turn.seen c step.left) (call_is step.call step.was) step.there

        asked : step.left.asked ≡ r.now.asked
        asked = step.asked ∙ ap (λ (c : MachineOf). c.asked) (call_is step.call step.was)

        written : r.now.call.book.script ≡ Some script
        written = ap (λ (b : BookOf). b.script) (call_book store seated may mid r its) ∙ (of_script store seated may).book

        code : r.now.call.book.geometry ≡ script.geometry
        code = ap (λ (b : BookOf). b.geometry) (call_book store seated may mid r its) ∙ (of_script store seated may).code

        most : max_in seated.turns.directory.fixed ≡ size_of script
        most = ap max_in may.seated_is.turns.directory.fixed

    pub directory_stepped : StepsOn store seated (record seated { caller = after; steps = seated.steps + 1; turns = record seated.turns { directory = turn } })
    directory_stepped =
        steps_on (record seated { caller = after; steps = seated.steps + 1; turns = record seated.turns { directory = turn } }) refl refl (turns_there store seated.turns turn may.seated_is.turns same) step.left
        (caller_is a mid after r step.left step.concludes) goes_there
        (subst (λ (b : BookOf). Knows (seen_there turn.seen b) after) (ap (λ (x : CallerOf). x.book) r.leaves) step.knows) owed_there

  -- ---- after a step at a server
  module _ (j : ℕ) (turn before : TurnState ServerIdentity MadeStep) (now : Seated) (kept : now ≡ record seated { caller = after; steps = seated.steps + 1; turns = now.turns })
      (kept_turns : now.turns ≡ record seated.turns { servers = now.turns.servers }) (items : now.turns.servers.items ≡ set seated.turns.servers.items j turn) (less : j < length seated.turns.servers.items)
      (read : before ≡ get_or seated.turns.servers.items j before) (same : turn ≡ record before { seen = turn.seen }) (step : HasSteppedAtServer seated.turns.number last before.seen turn.seen mid after)
      (needs : IfSome mid.work (λ c. need.Server j ≡ need_of c.call)) (knows : (d : Sealed) → Knows d seated.caller → Knows d mid) where
    goes_here : CallsOn script seated.actor work own (own_at seated.turns.number (with_log j turn.seen (seen_by seated.turns))) (actor_after step.left.call a.actor)
    goes_here =
        callers_go_on_at_servers script seated.actor work seated.turns.number j (seen_by seated.turns) turn.seen a.actor r.now.call step.left.call (room store seated may).targets
        (count_seen store seated.turns may.seated_is.turns) (subst (λ (n : ℕ). j < n) may.seated_is.turns.count less) may.seated_is.calling
        (is_ready store seated may mid r) (sym (of_ready store seated may mid r (λ x c. need.Server j ≡ need_of c.call) needs))
        (subst (λ (l : List (ℕ × MadeStep)). HasMadeAtServer seated.turns.number (last_by store seated.turns) l turn.seen r.now.call step.left.call)
        (sym (log_here seated.turns now.turns j turn before kept_turns items less read))
        (subst (λ (k : ℕ). HasMadeAtServer seated.turns.number k before.seen turn.seen r.now.call step.left.call) last_is
        (subst (λ (c : MachineOf). HasMadeAtServer seated.turns.number last before.seen turn.seen c.call step.left.call) (call_is step.call step.was) step.made)))

    owed_here : (i : ℕ) → seated.actor ≡ actor.Client i → OwesBySteps script (made_in seated.turns.directory.seen) i (left_caller a step.left after)
    owed_here i client =
        caller_owes i client (made_in seated.turns.directory.seen) (λ j count place bytes h. h) step.left asked
        ((keeps_owing (WasOwed script (made_in seated.turns.directory.seen) i (length a.actor.ended))).server step.left.call.step step.left.call.due r.now step.left j step.place (ready_owes i client)
        (sym (of_ready store seated may mid r (λ x c. need.Server j ≡ need_of c.call) needs))
        (step.stepped ∙ ap (λ (c : MachineOf). (stepped_at_server step.left.call.step step.left.call.due c.call step.place).1) (call_is step.call step.was)) asked
        (step.owed ∙ ap (λ (c : MachineOf). c.owed) (call_is step.call step.was)))
        step.concludes
      where
        asked : step.left.asked ≡ r.now.asked
        asked = step.asked ∙ ap (λ (c : MachineOf). c.asked) (call_is step.call step.was)

    pub server_stepped : StepsOn store seated now
    server_stepped =
        steps_on now (kept ∙ (λ i. record seated { caller = (sym kept i).caller; steps = seated.steps + 1; turns = now.turns })) (ap (λ (x : Turns). x.number) kept_turns)
        (turns_here seated.turns now.turns j turn before kept_turns items less read store may.seated_is.turns same) step.left
        (ap (λ (x : Seated). x.caller) kept ∙ caller_is a mid after r step.left step.concludes)
        (subst (λ (logs : Logs). CallsOn script seated.actor work own (own_at seated.turns.number logs) (actor_after step.left.call a.actor))
        (sym (seen_here seated.turns now.turns j turn before kept_turns items less read)) goes_here)
        (subst (λ (l : List (ℕ × Noted)). Knows (seen_there l a.book) after) (sym (ap (λ (x : Turns). x.directory.seen) kept_turns))
        (step.knows (seen_there seated.turns.directory.seen a.book) (knows (seen_there seated.turns.directory.seen a.book) may.seated_is.knows)))
        (subst (λ (l : List (ℕ × Noted)). (i : ℕ) → seated.actor ≡ actor.Client i → OwesBySteps script (made_in l) i (left_caller a step.left after)) (sym (ap (λ (x : Turns). x.directory.seen) kept_turns)) owed_here)

-- ---- before the step
-- its count of steps fits
pub count_fits : (store : Store) (seated : Seated) → MayStep store seated → seated.steps + 1 < 2 ^ 64
count_fits store seated may = few seated.steps (left_by store seated) (bound_of store.script.now (work_of seated.caller.part)) may.seated_is.counted (room store seated may).few
  where
    few : (steps left bound : ℕ) → steps + left ≤ bound → bound < 2 ^ 42 → steps + 1 < 2 ^ 64
    few steps left bound within small = omega (arith, within, small)

-- a server that its call needs is there
pub below_all : (store : Store) (seated : Seated) → MayStep store seated → (mid : CallerOf) → IsReady seated.caller mid → (j : ℕ) → j < chunk_count mid.book.geometry → j < chunk_count store.script.now.geometry
below_all store seated may mid r j less =
    subst (λ (g : Shape). j < chunk_count g) (ap (λ (b : BookOf). b.geometry) (ap (λ (x : CallerOf). x.book) r.leaves ∙ may.seated_is.book) ∙ may.store_is.code) less
