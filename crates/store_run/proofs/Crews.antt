-- Actors that are dealt to workers, stay with them, and are taken back.
use Rattle.std.proofs.Common.{◌≡◌, ℕ, ◌+◌, ◌<◌, ◌%◌, ◌==◌, false, All, List, [], ◌∷◌, ◌++◌, filter, length, map, get_or, set, slice_get, Some, sym, ap, subst, ◌∙◌, arith}
use Rattle.std.proofs.lemmas.List.{length-map}
use Rattle.std.proofs.lemmas.List.Elements.{All-map, All-nil, All-push, All-set, All-weaker}
use Rattle.std.proofs.lemmas.Option.{get_or_from_slice_get, same_Some, slice_get-get_or, slice_get_within}
use Rattle.dir_parts.proofs.Entries.{slice_get-map}
use Rattle.turn_lock.proofs.JoinedLists.{at_place, map_set}
use Rattle.turn_lock.specs.Numbered.{AreSpread, falling}
use Rattle.turn_lock.proofs.Spreading.{spread_begins, spread_goes_on}
use Rattle.run_seats.specs.SeatedActors.{IsSeatedActor, number_of, some_has}
use Rattle.run_seats.specs.Working.{AreDone}
use Rattle.run_seats.specs.declared.seated_actor.SeatedActor.{SeatedActor}
use Rattle.run_seats.specs.declared.store.Store.{Store}
use Rattle.run_seats.specs.declared.workers.Worker.{Worker}
use Rattle.store_run.specs.Crew.{IsCrew, actors_of}
use Rattle.store_run.proofs.Scripts.{all_at}

-- ---- none at first
none_on : (workers : List Worker) → All (λ (w : Worker). w.actors.items ≡ []) workers → (place : ℕ) (pile : List SeatedActor) → slice_get (actors_of workers) place ≡ Some pile → pile ≡ []
none_on workers none place pile e = all_at (λ (l : List SeatedActor). l ≡ []) (actors_of workers) place pile (All-map (λ (l : List SeatedActor). l ≡ []) (λ (w : Worker). w.actors.items) workers none) e

pub crew_begins : (store : Store) (from : ℕ) (workers : List Worker) → All (λ (w : Worker). w.actors.items ≡ []) workers → IsCrew store from 0 workers
crew_begins store from workers none =
    record {
      seated =
          All-weaker (λ (w : Worker). w.actors.items ≡ []) (λ (w : Worker). All (IsSeatedActor store) w.actors.items)
          (λ w e. subst (All (IsSeatedActor store)) (sym e) (All-nil (IsSeatedActor store))) workers none;
      spread = spread_begins number_of from (actors_of workers) (none_on workers none);
    }

-- ---- one actor more, of the number before
module _ (store : Store) (from count : ℕ) (workers : List Worker) (crew : IsCrew store (from + 1) count workers) (worker now : Worker) (actor : SeatedActor)
    (there : slice_get workers (from % length workers) ≡ Some worker) (more : now.actors.items ≡ worker.actors.items ++ actor ∷ []) (is : IsSeatedActor store actor) (numbered : number_of actor ≡ from)
    (its : All (IsSeatedActor store) worker.actors.items) where
  as_many : length (actors_of workers) ≡ length workers
  as_many = length-map workers (λ w. w.actors.items)

  on_it : slice_get (actors_of workers) (from % length (actors_of workers)) ≡ Some worker.actors.items
  on_it =
      subst (λ (n : ℕ). slice_get (actors_of workers) (from % n) ≡ Some worker.actors.items) (sym as_many)
      (slice_get-map (λ (w : Worker). w.actors.items) workers (from % length workers) worker there)

  spread_now : AreSpread number_of from (count + 1) (actors_of (set workers (from % length workers) now))
  spread_now =
      subst (AreSpread number_of from (count + 1)) (sym (map_set (λ (w : Worker). w.actors.items) workers (from % length workers) now))
      (subst (λ (l : List SeatedActor). AreSpread number_of from (count + 1) (set (actors_of workers) (from % length workers) l)) (sym more)
      (subst (λ (n : ℕ). AreSpread number_of from (count + 1) (set (actors_of workers) (from % n) (worker.actors.items ++ actor ∷ []))) as_many
      (spread_goes_on number_of from count (actors_of workers) crew.spread worker.actors.items actor on_it numbered)))

  pub crew_goes_on : IsCrew store from (count + 1) (set workers (from % length workers) now)
  crew_goes_on =
      record {
        seated =
            All-set (λ (w : Worker). All (IsSeatedActor store) w.actors.items) workers (from % length workers) now
            (subst (All (IsSeatedActor store)) (sym more) (All-push (IsSeatedActor store) worker.actors.items actor its is)) crew.seated;
        spread = spread_now;
      }

-- ---- after the work they still have the same actors, and none of these has a step
module _ (store : Store) (from count : ℕ) (old now : List Worker) (crew : IsCrew store from count old) (long : length now ≡ length old) (done : AreDone store old now) where
  widths : length (actors_of now) ≡ length (actors_of old)
  widths = length-map now (λ w. w.actors.items) ∙ (long ∙ sym (length-map old (λ w. w.actors.items)))

  spread_stays : AreSpread number_of from count (actors_of now)
  spread_stays place pile e =
      let mapped : place < length (actors_of now) = slice_get_within (actors_of now) place pile e in
      let worker : (w : Worker) × (slice_get now place ≡ Some w) = at_place now place (omega (arith, mapped, length-map now (λ w. w.actors.items))) in
      let within : place < length old = omega (arith, mapped, length-map now (λ w. w.actors.items), long) in
      let same : worker.0.actors.items ≡ pile = same_Some worker.0.actors.items pile (sym (slice_get-map (λ (w : Worker). w.actors.items) now place worker.0 worker.1) ∙ e) in
      let before : Worker = get_or old place worker.0 in
      let was : slice_get (actors_of old) place ≡ Some before.actors.items = slice_get-map (λ (w : Worker). w.actors.items) old place before (slice_get-get_or old place worker.0 within) in
      subst (λ (n : ℕ). map number_of pile ≡ filter (λ m. m % n == place) (falling from count)) (sym widths)
      (ap (map number_of) (sym same)
      ∙ (ap (λ (w : Worker). map number_of w.actors.items) (sym (get_or_from_slice_get now place worker.0 worker.0 worker.1))
      ∙ ((done place worker.0 within).same ∙ crew.spread place before.actors.items was)))

  pub crew_stays : IsCrew store from count now
  crew_stays = record { seated = λ k d less. (done k d (omega (arith, long, less))).seated; spread = spread_stays }

  pub none_left : (k : ℕ) (w : Worker) → slice_get now k ≡ Some w → some_has store.script.now w.actors.items ≡ false
  none_left k w e =
      let less : k < length now = slice_get_within now k w e in
      subst (λ (x : Worker). some_has store.script.now x.actors.items ≡ false) (get_or_from_slice_get now k w w e) (done k w (omega (arith, long, less))).over
