-- One actor more is seated.
use Rattle.std.proofs.Common.{◌≡◌, ℕ, ◌+◌, ◌-◌, ◌<◌, ◌≤◌, ◌%◌, List, [], ◌∷◌, ◌++◌, All, Vec, length, length-set, get_or, set, slice_get, Some, take, take_all, Global, sym, ap, subst, ◌∙◌, arith, mod-lt}
use Rattle.std.proofs.lemmas.List.Elements.{All-get_or}
use Rattle.std.proofs.lemmas.Option.{slice_get-get_or}
use Rattle.store_map.specs.declared.actor.Actor.{Actor}
use Rattle.store_map.specs.declared.script.Script.{Script}
use Rattle.store_core.specs.Agreement.{Seat}
use Rattle.stripe_dir.specs.Seats.{first_seat}
use Rattle.actors.specs.Callers.{PartOf, who_of}
use Rattle.thread_laws.specs.Numbers.{IsTurnOf}
use Rattle.thread_laws.specs.Logs.{counts_of}
use Rattle.run_seats.specs.SeatedActors.{IsSeatedActor, number_of}
use Rattle.run_seats.specs.declared.seated_actor.SeatedActor.{SeatedActor}
use Rattle.run_seats.specs.declared.store.Store.{Store}
use Rattle.run_seats.specs.declared.workers.Worker.{Worker}
use Rattle.store_run.specs.Crew.{IsCrew}
use Rattle.store_run.specs.Dealt.{IsDeck, turns_of}
use Rattle.store_run.specs.Seated.{IsSeatedFrom, IsSeating, seats_of}
use Rattle.store_run.specs.declared.deck.Deck.{Deck}
use Rattle.store_run.specs.declared.seating.Seating.{Seating}
use Rattle.store_run.proofs.Crews.{crew_goes_on}
use Rattle.store_run.proofs.Seats.{caller_below, seat_count, seat_taken, seat_there, seats_left}

-- ---- before the first one
pub none_seated : (seating : Seating) (n : ℕ) → n ≡ turns_of seating.store.now.script.now → IsSeating (turns_of seating.store.now.script.now) 0 (seats_of seating.store.now.script.now) seating → IsSeatedFrom n seating
none_seated seating n is none =
    let script : Script = seating.store.now.script.now in
    let all : length (seats_of script) ≤ n = omega (arith, is, seat_count (counts_of script)) in
    record {
      store_is = none.store_is;
      some = none.some;
      seats_are = none.seats_are ∙ sym (take_all n (seats_of script) all);
      deck = subst (λ (k : ℕ). IsDeck seating.store.now k seating.deck) (sym is) none.deck;
      crew =
          let no_more : 0 ≡ turns_of script - n = omega (arith, is) in
          subst (λ (k : ℕ). IsCrew seating.store.now n k seating.workers.items) no_more
          (subst (λ (k : ℕ). IsCrew seating.store.now k 0 seating.workers.items) (sym is) none.crew);
    }

-- ---- an actor is put to the worker of its number, behind those that this one has
module _ (old : Seating) (number : ℕ) (was : IsSeatedFrom (number + 1) old) (less : number < turns_of old.store.now.script.now) (wide : ℕ) (as_many : wide ≡ length old.workers.items)
    (worker after : Worker) (actor : SeatedActor) (read : worker ≡ get_or old.workers.items (number % wide) worker) (more : after.actors.items ≡ worker.actors.items ++ actor ∷ [])
    (is : IsSeatedActor old.store.now actor) (numbered : number_of actor ≡ number) where
  abbrev store : Store
  store = old.store.now

  abbrev workers_of : List Worker
  workers_of = old.workers.items

  abbrev at : ℕ
  at = number % length workers_of

  within : at < length workers_of
  within = mod-lt number was.some

  read_at : worker ≡ get_or workers_of at worker
  read_at = subst (λ (n : ℕ). worker ≡ get_or workers_of (number % n) worker) as_many read

  there : slice_get workers_of at ≡ Some worker
  there = slice_get-get_or workers_of at worker within ∙ ap (λ (w : Worker). Some w) (sym read_at)

  its : All (IsSeatedActor store) worker.actors.items
  its =
      subst (λ (w : Worker). All (IsSeatedActor store) w.actors.items) (sym read_at)
      (All-get_or (λ (w : Worker). All (IsSeatedActor store) w.actors.items) workers_of at worker within was.crew.seated)

  crew : IsCrew store number (turns_of store.script.now - number) (set workers_of (number % wide) after)
  crew =
      let count : turns_of store.script.now - (number + 1) + 1 ≡ turns_of store.script.now - number = omega (arith, less) in
      subst (λ (n : ℕ). IsCrew store number n (set workers_of (number % wide) after)) count
      (subst (λ (n : ℕ). IsCrew store number (turns_of store.script.now - (number + 1) + 1) (set workers_of (number % n) after)) (sym as_many)
      (crew_goes_on store number (turns_of store.script.now - (number + 1)) workers_of was.crew worker after actor there more is numbered its))

  pub seated_on : (deck : Deck) (seats : Vec Seat Global) (workers : Vec Worker Global) → IsDeck old.store.now number deck → seats.items ≡ take number (seats_of old.store.now.script.now)
      → workers.items ≡ set old.workers.items (number % wide) after → IsSeatedFrom number (record old { deck = deck; seats = seats; workers = workers })
  seated_on deck seats workers left below are =
      record {
        store_is = was.store_is;
        some = let same : length workers.items ≡ length workers_of = ap length are ∙ length-set workers_of (number % wide) after in omega (arith, same, was.some);
        seats_are = below;
        deck = left;
        crew = subst (IsCrew store number (turns_of store.script.now - number)) (sym are) crew;
      }

-- ---- a client or a repairer takes the last seat
module _ (seating : Seating) (number place : ℕ) (part : PartOf) (who : Actor) (was : IsSeatedFrom (number + 1) seating) (whose : who ≡ who_of part place) (turn : IsTurnOf (counts_of seating.store.now.script.now) number who) where
  abbrev script : Script
  script = seating.store.now.script.now

  below_callers : number < length script.clients + length script.repairers
  below_callers = caller_below (counts_of script) number place part (sym whose ∙ turn.whose)

  pub some_seat : 0 < length seating.seats.items
  some_seat =
      let one : length seating.seats.items ≡ number + 1 = ap length was.seats_are ∙ seat_there (counts_of script) number below_callers in
      omega (arith, one)

  module _ (left : List Seat) (seat : Seat) (taken : seating.seats.items ≡ left ++ seat ∷ []) where
    pub left_below : left ≡ take number (seats_of seating.store.now.script.now)
    left_below = seats_left (counts_of script) number below_callers left seat (sym was.seats_are ∙ taken)

    pub its_seat : seat ≡ first_seat who
    its_seat = seat_taken (counts_of script) number below_callers left seat (sym was.seats_are ∙ taken) ∙ ap first_seat (sym turn.whose)

-- ---- the sweeper and the operator take none
pub none_taken : (seating : Seating) (number : ℕ) → IsSeatedFrom (number + 1) seating → length seating.store.now.script.now.clients + length seating.store.now.script.now.repairers ≤ number
    → seating.seats.items ≡ take number (seats_of seating.store.now.script.now)
none_taken seating number was above =
    let script : Script = seating.store.now.script.now in
    let all : length (seats_of script) ≤ number = omega (arith, above, seat_count (counts_of script)) in
    was.seats_are ∙ (take_all (number + 1) (seats_of script) (omega (arith, all)) ∙ sym (take_all number (seats_of script) all))
