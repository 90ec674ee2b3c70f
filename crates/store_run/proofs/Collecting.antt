-- The actors of all workers come back in the order of their numbers.
use Rattle.std.proofs.Common.{◌≡◌, ℕ, ◌+◌, ◌<◌, Bool, true, false, All, List, [], ◌∷◌, ◌++◌, length, map, get_or, reverse, slice_get, Some, Vec, Result, Ok, Err, IfOk, refl, sym, ap, subst, ◌∙◌, arith, true≢false}
use Rattle.std.specs.Global.{Global}
use Rattle.std.specs.declared.alloc.AllocError.{AllocError}
use Rattle.std.specs.List.{list_any, range_with_len}
use Rattle.std.proofs.lemmas.List.{append-nil, append_assoc, length-map, map-append, reverse-append}
use Rattle.std.proofs.lemmas.List.Folds.{list_any_at}
use Rattle.std.proofs.lemmas.List.FromFn.{get_or-range_with_len, length-range_with_len}
use Rattle.std.proofs.lemmas.Option.{get_or_from_slice_get, same_Some, slice_get_within}
use Rattle.dir_parts.proofs.Entries.{slice_get-map}
use Rattle.turn_lock.proofs.JoinedLists.{at_place}
use Rattle.turn_lock.specs.Numbered.{AreAllSpread, AreSpread, IsOn}
use Rattle.turn_lock.specs.Piles.{items_of}
use Rattle.run_seats.specs.SeatedActors.{IsSeatedActor, actor_has, number_of, some_has}
use Rattle.run_seats.specs.declared.seated_actor.SeatedActor.{SeatedActor}
use Rattle.run_seats.specs.declared.store.Store.{Store}
use Rattle.run_seats.specs.declared.workers.Worker.{Worker}
use Rattle.store_run.specs.Crew.{AreOver, IsCrew, actors_of}
use Rattle.store_run.specs.Dealt.{turns_of}
use Rattle.store_run.specs.Leaving.{AreAllOver}
use Rattle.store_run.specs.Left.{IsOver}

-- ---- workers are taken apart from the last one on
turned : {X Y : Type 0} (f : X → Y) (xs : List X) → map f (reverse xs) ≡ reverse (map f xs)
turned f [] = refl
turned f (x ∷ xs) = ap (map f) (reverse-append (x ∷ []) xs) ∙ (map-append f (reverse xs) (x ∷ []) ∙ (ap (λ l. l ++ f x ∷ []) (turned f xs) ∙ sym (reverse-append (f x ∷ []) (map f xs))))

-- the actors of the workers that are left stand before the piles, the last pile first
abbrev pub AreApart : List Worker → List Worker → List (Vec SeatedActor Global) → Type 0
AreApart all left piles = actors_of all ≡ actors_of left ++ reverse (items_of piles)

pub apart_begins : (all : List Worker) (piles : List (Vec SeatedActor Global)) → piles ≡ [] → AreApart all all piles
apart_begins all piles none = sym (ap (λ (l : List (Vec SeatedActor Global)). actors_of all ++ reverse (items_of l)) none ∙ append-nil (actors_of all))

pub apart_on : (all left now : List Worker) (worker : Worker) (piles more : List (Vec SeatedActor Global)) → AreApart all left piles → left ≡ now ++ worker ∷ [] → more ≡ piles ++ worker.actors ∷ []
    → AreApart all now more
apart_on all left now worker piles more apart taken pushed =
    apart
    ∙ (ap (λ (l : List (List SeatedActor)). l ++ reverse (items_of piles)) before
    ∙ (append_assoc (actors_of now) (worker.actors.items ∷ []) (reverse (items_of piles)) ∙ ap (λ (l : List (List SeatedActor)). actors_of now ++ l) (sym after)))
  where
    before : actors_of left ≡ actors_of now ++ worker.actors.items ∷ []
    before = ap actors_of taken ∙ map-append (λ (w : Worker). w.actors.items) now (worker ∷ [])

    after : reverse (items_of more) ≡ worker.actors.items ∷ reverse (items_of piles)
    after =
        ap (λ (l : List (Vec SeatedActor Global)). reverse (items_of l)) pushed
        ∙ (ap reverse (map-append (λ (p : Vec SeatedActor Global). p.items) piles (worker.actors ∷ [])) ∙ reverse-append (items_of piles) (worker.actors.items ∷ []))

pub apart_ends : (all left : List Worker) (piles back : List (Vec SeatedActor Global)) → AreApart all left piles → left ≡ [] → back ≡ reverse piles → items_of back ≡ actors_of all
apart_ends all left piles back apart none is =
    ap items_of is ∙ (turned (λ (p : Vec SeatedActor Global). p.items) piles ∙ sym (apart ∙ ap (λ (l : List Worker). actors_of l ++ reverse (items_of piles)) none))

-- ---- all actors are back
none_of : {X : Type 0} (h : X → Bool) (xs : List X) (k : ℕ) (x : X) → list_any h xs ≡ false → slice_get xs k ≡ Some x → h x ≡ false
none_of h xs k x none e = by (h x) refl
  where
    by : (b : Bool) → h x ≡ b → h x ≡ false
    by true holds = absurd (true≢false (sym (list_any_at h xs k x (slice_get_within xs k x e) (ap h (get_or_from_slice_get xs k x x e) ∙ holds)) ∙ none))
    by false fails = fails

module _ (store : Store) (workers : List Worker) (some : 0 < length workers) (crew : IsCrew store 0 (turns_of store.script.now) workers) (over : AreOver store workers) (piles : List (List SeatedActor)) (apart : piles ≡ actors_of workers) where
  pub all_spread : AreAllSpread number_of (turns_of store.script.now) piles
  all_spread =
      record {
        some = (let wide : length piles ≡ length workers = ap length apart ∙ length-map workers (λ w. w.actors.items) in omega (arith, wide, some));
        spread = subst (AreSpread number_of 0 (turns_of store.script.now)) (sym apart) crew.spread;
      }

  -- who stands on a pile is an actor of a worker
  with_worker : (who : SeatedActor) → IsOn piles who → (worker : Worker) × (k : ℕ) × (slice_get workers k ≡ Some worker) × (at : ℕ) × (slice_get worker.actors.items at ≡ Some who)
  with_worker who on =
      let mapped : slice_get (actors_of workers) on.place ≡ Some on.pile = ap (λ (l : List (List SeatedActor)). slice_get l on.place) (sym apart) ∙ on.there in
      let within : on.place < length (actors_of workers) = slice_get_within (actors_of workers) on.place on.pile mapped in
      let worker : (w : Worker) × (slice_get workers on.place ≡ Some w) = at_place workers on.place (omega (arith, within, length-map workers (λ w. w.actors.items))) in
      let same : worker.0.actors.items ≡ on.pile =
      same_Some worker.0.actors.items on.pile (sym (slice_get-map (λ (w : Worker). w.actors.items) workers on.place worker.0 worker.1) ∙ mapped) in
      (worker.0, on.place, worker.1, on.at, ap (λ (l : List SeatedActor). slice_get l on.at) same ∙ on.stands)

  one_over : (n : ℕ) (who : SeatedActor) → IsOn piles who → number_of who ≡ n → IsOver store n who
  one_over n who on numbered =
      record {
        seated_is =
            subst (IsSeatedActor store) (get_or_from_slice_get mine.actors.items its.3 who who its.4)
            (subst (λ (w : Worker). All (IsSeatedActor store) w.actors.items) (get_or_from_slice_get workers its.1 mine mine its.2) (crew.seated its.1 mine (slice_get_within workers its.1 mine its.2)) its.3 who
            (slice_get_within mine.actors.items its.3 who its.4));
        numbered = numbered;
        over =
            none_of (actor_has store.script.now) mine.actors.items its.3 who
            (subst (λ (w : Worker). some_has store.script.now w.actors.items ≡ false) (get_or_from_slice_get workers its.1 mine mine its.2) (over its.1 mine (slice_get_within workers its.1 mine its.2))) its.4;
      }
    where
      its : (worker : Worker) × (k : ℕ) × (slice_get workers k ≡ Some worker) × (at : ℕ) × (slice_get worker.actors.items at ≡ Some who)
      its = with_worker who on

      mine : Worker
      mine = its.0

  are_over : (actors : List SeatedActor) → map number_of actors ≡ range_with_len 0 (turns_of store.script.now) → All (IsOn piles) actors → AreAllOver store actors
  are_over actors numbers on =
      record {
        count = long;
        each = λ n who e.
            (let less : n < length actors = slice_get_within actors n who e in
            let at : get_or actors n who ≡ who = get_or_from_slice_get actors n who who e in
            one_over n who (subst (IsOn piles) at (on n who less)) (number_at n who e));
      }
    where
      long : length actors ≡ turns_of store.script.now
      long = sym (length-map actors number_of) ∙ (ap length numbers ∙ length-range_with_len 0 (turns_of store.script.now))

      number_at : (n : ℕ) (who : SeatedActor) → slice_get actors n ≡ Some who → number_of who ≡ n
      number_at n who e =
          let less : n < length actors = slice_get_within actors n who e in
          let mapped : slice_get (map number_of actors) n ≡ Some (number_of who) = slice_get-map number_of actors n who e in
          let there : get_or (range_with_len 0 (turns_of store.script.now)) n 0 ≡ 0 + n = get_or-range_with_len 0 (turns_of store.script.now) n 0 (omega (arith, less, long)) in
          let first : 0 + n ≡ n = omega arith in
          sym (get_or_from_slice_get (map number_of actors) n (number_of who) 0 mapped) ∙ (ap (λ (l : List ℕ). get_or l n 0) numbers ∙ (there ∙ first))

  pub all_back : (result : Result (Vec SeatedActor Global) AllocError) → IfOk result (λ actors. map number_of actors.items ≡ range_with_len 0 (turns_of store.script.now))
      → IfOk result (λ actors. All (IsOn piles) actors.items) → IfOk result (λ actors. AreAllOver store actors.items)
  all_back (Ok actors) numbers on = are_over actors.items numbers on
  all_back (Err e) numbers on = tt
