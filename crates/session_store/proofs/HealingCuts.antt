-- A heal that was cut off for want of memory is served.
use Rattle.std.proofs.Common.{◌≡◌, ℕ, zero, suc, ◌+◌, ◌-◌, ◌<◌, ◌≤◌, ◌^◌, ◌⊎◌, true, false, true≢false, List, [], ◌∷◌, ◌++◌, length, map, take, slice_get, replicate, Some, refl, sym, ap, subst, ◌∙◌, inl, inr, arith}
use Rattle.std.proofs.lemmas.List.{length-take-le}
use Rattle.std.proofs.lemmas.Option.{none-some, same_Some}
use Rattle.clay_grid.specs.Shape.{Shape, chunk_count}
use Rattle.store_map.specs.declared.actor.Actor.{Actor}
use Rattle.store_map.specs.declared.actor.Actor.TheVariants as actor
use Rattle.store_core.specs.Act.{Act, Outcome}
use Rattle.store_core.specs.Agreement.{ActorToken}
use Rattle.store_core.specs.Lookups.{same_actor}
use Rattle.store_core.specs.NextAct.{rebuild_job}
use Rattle.store_core.specs.Step.{Places as CorePlaces}
use Rattle.store_map.specs.declared.call.Rebuild.{Rebuild as RebuildCall}
use Rattle.run_laws.specs.State.{first_state}
use Rattle.run_laws.specs.StateActs.{act_of_state}
use Rattle.version_seal.specs.Entry.{BookOf}
use Rattle.session_rules.specs.State.{State}
use Rattle.session_rules.specs.Heals.{to_heal}
use Rattle.session_rules.specs.Shortages.{IsServed}
use Rattle.session_rules.specs.declared.session_answer.Answer.{Answer}
use Rattle.session_rules.specs.declared.session_answer.LostChunk.{LostChunk}
use Rattle.session_rules.specs.declared.request.Request.{Request}
use Rattle.session_rules.specs.Alone.{AtWork, steps, EndsAs}
use Rattle.session_rules.specs.AloneHeals.{rebuild_of, AreRebuilt, healed_by}
use Rattle.session_rules.specs.Scrubs.{lost_at}
use Rattle.session_rules.specs.Seats.{MayBeginFrom, ran, HasEnded}
use Rattle.session_rules.specs.Serving.{AreSweptTo}
use Rattle.session_rules.specs.Between.{IsBetween}
use Rattle.session_rules.specs.Answering.{RunsTo, IsAnswered, AreMadeAnew, IsCutOff}
use Rattle.session_rules.proofs.Answers.{healed_snapshot}
use Rattle.session_rules.proofs.Doomed.{rebuild_ends_either}
use Rattle.session_rules.proofs.Ends.{same_ends, same_rebuilt}
use Rattle.session_rules.proofs.HealsAnswered.{rebuilt_of, heals_are_answered}
use Rattle.session_rules.proofs.RunKept.{rebuilds_seat}
use Rattle.session_rules.proofs.Repairs.{has_parity, healed}
use Rattle.call_steps.specs.CallOf.{tries_by}
use Rattle.session_store.specs.declared.session_parts.Parts.{Parts}
use Rattle.session_store.specs.Inside.{store_of}
use Rattle.session_store.specs.Kept.{HasSeat, IsStore, ServesRequest}
use Rattle.session_store.specs.Places.{seen_in}
use Rattle.session_store.specs.Standing.{StandsAt, seats_at}
use Rattle.session_store.specs.Stored.{places_in}
use Rattle.session_store.specs.LostStripes.{healable}
use Rattle.session_store.specs.Healing.{is_rebuilt, AreMade, HasCut, HealsWith}
use Rattle.session_store.proofs.Standing.{healed_epochs}
use Rattle.session_store.proofs.HealingAll.{take_next}
use Rattle.session_store.proofs.HealingTakes.{made_anew}
use Rattle.session_store.proofs.HealingAnswered.{chunks_are, numbers_last_so}
use Rattle.session_store.proofs.HealingEnds.{after_heal, HealLeaves, heal_is_served, heal_made}
use Rattle.session_store.proofs.Leaving.{LeavesPlaces}

-- ---- lists by their places
take_map : {X Y : Type 0} (f : X → Y) (n : ℕ) (xs : List X) → take n (map f xs) ≡ map f (take n xs)
take_map f zero [] = refl
take_map f zero (x ∷ xs) = refl
take_map f (suc n) [] = refl
take_map f (suc n) (x ∷ xs) = ap (λ l. f x ∷ l) (take_map f n xs)

map_at : {X Y : Type 0} (f : X → Y) (xs : List X) (n : ℕ) (y : Y) → slice_get (map f xs) n ≡ Some y → (x : X) × (slice_get xs n ≡ Some x) × (f x ≡ y)
map_at f [] n y is = absurd (none-some y is)
map_at f (x ∷ xs) zero y is = (x, refl, same_Some (f x) y is)
map_at f (x ∷ xs) (suc n) y is = map_at f xs n y is

place_below : {X : Type 0} (xs : List X) (n : ℕ) (x : X) → slice_get xs n ≡ Some x → n < length xs
place_below [] n x is = absurd (none-some x is)
place_below (y ∷ xs) zero x is = omega arith
place_below (y ∷ xs) (suc n) x is = let less : n < length xs = place_below xs n x is in omega (arith, less)

-- the last of some rebuilds
rebuilt_last : (g : Shape) (tries : ℕ) (who : Actor) (chunks : List LostChunk) (chunk : LostChunk) (number : ℕ) (before after : CorePlaces) → AreRebuilt g tries who number (chunks ++ chunk ∷ []) before after →
    (between : CorePlaces) × AreRebuilt g tries who number chunks before between × EndsAs g tries who (number + length chunks) (rebuild_job (rebuild_of chunk)) between Outcome.Rebuilt after
rebuilt_last g tries who [] chunk number before after (between, ends, same) = (
  before,
  refl,
  subst (λ n. EndsAs g tries who n (rebuild_job (rebuild_of chunk)) before Outcome.Rebuilt after) (let none : number ≡ number + 0 = omega arith in none)
      (subst (λ (p : CorePlaces). EndsAs g tries who number (rebuild_job (rebuild_of chunk)) before Outcome.Rebuilt p) same ends),
)
rebuilt_last g tries who (first ∷ chunks) chunk number before after (between, ends, rest) =
    let later = rebuilt_last g tries who chunks chunk (number + 1) between after rest in (
      later.0,
      (between, ends, later.1),
      subst (λ n. EndsAs g tries who n (rebuild_job (rebuild_of chunk)) later.0 Outcome.Rebuilt after) (let n : number + 1 + length chunks ≡ number + suc (length chunks) = omega arith in n) later.2,
    )

module _ (parts : Parts) (is : IsStore (store_of parts)) (lost : List LostChunk) (are : lost ≡ lost_at (places_in (store_of parts))) (few : parts.next + length lost ≤ 2 ^ 32 - 1) (answer : Answer) (now : Parts)
    (has : HasCut (record parts { served = parts.served + 1 }) (map rebuild_of (healable parts.places.book.geometry.parity_count lost)) (replicate (chunk_count parts.places.book.geometry) 0) answer now) where
  abbrev g : Shape
  g = parts.places.book.geometry

  abbrev max : ℕ
  max = parts.places.directory.core.max

  abbrev tries : ℕ
  tries = tries_by parts.places.book.script

  abbrev who : Actor
  who = actor.Repairer 1

  abbrev made : ℕ
  made = has.cut.made

  abbrev chunks : List RebuildCall
  chunks = map rebuild_of (healable g.parity_count lost)

  abbrev before : CorePlaces
  before = seen_in parts.places

  abbrev between : CorePlaces
  between = seen_in has.cut.left.places

  -- in a state
  module _ (s : State) (at : StandsAt (store_of parts) s) where
    abbrev its : List LostChunk
    its = to_heal g s

    same_chunks : healable g.parity_count lost ≡ its
    same_chunks = chunks_are parts is lost are s at

    found : (chunk : LostChunk) × (slice_get its made ≡ Some chunk) × (rebuild_of chunk ≡ has.cut.chunk)
    found = subst (λ (l : List LostChunk). (chunk : LostChunk) × (slice_get l made ≡ Some chunk) × (rebuild_of chunk ≡ has.cut.chunk)) same_chunks (map_at rebuild_of (healable g.parity_count lost) made has.cut.chunk has.cut.there)

    abbrev chunk : LostChunk
    chunk = found.0

    within : made < length its
    within = place_below its made chunk found.1

    so_many : length (take made its) ≡ made
    so_many = length-take-le made its (let less : made < length its = within in omega (arith, less))

    number_is : has.cut.left.next ≡ s.next + made
    number_is =
        let less : made < length chunks = place_below chunks made has.cut.chunk has.cut.there in
        let count : length (take made chunks) ≡ made = length-take-le made chunks (omega (arith, less)) in
        let begun : s.next ≡ parts.next = at.next in
        let used : has.cut.left.next ≡ parts.next + length (take made chunks) = has.cut.before.next in
        omega (arith, count, begun, used)

    made_so : AreMadeAnew g tries who s.next (take made its) before between
    made_so =
        made_anew g tries who (take made its) s.next before (replicate (chunk_count g) 0) between has.cut.so_far
        (subst (λ (l : List RebuildCall). AreMade g tries who s.next l before (replicate (chunk_count g) 0) between has.cut.so_far)
        (take_map rebuild_of made (healable g.parity_count lost) ∙ ap (λ (l : List LostChunk). map rebuild_of (take made l)) same_chunks)
        (subst (λ n. AreMade g tries who n (take made chunks) before (replicate (chunk_count g) 0) between has.cut.so_far) (sym at.next) has.cut.before.made))

    rebuilt_so : AreRebuilt g tries who s.next (take made its) before between
    rebuilt_so = rebuilt_of g tries who (take made its) s.next before between at.between.healer made_so

    seat : MayBeginFrom between.directory who (s.next + made)
    seat = subst (λ n. MayBeginFrom between.directory who (s.next + n)) so_many (rebuilds_seat g tries who (take made its) s.next before between rebuilt_so at.between.healer)

    -- the last rebuild
    abbrev Ended : BookOf → ℕ → RebuildCall → Type 0
    Ended b n c =
        HasEnded b.geometry (tries_by b.script) who n (rebuild_job c) has.cut.last.shortages between has.cut.last.outcome
        × ((ran b.geometry (tries_by b.script) who n (rebuild_job c) has.cut.last.shortages between).places ≡ seen_in has.left.places)

    ended : Ended parts.places.book (s.next + made) (rebuild_of chunk)
    ended =
        subst (λ (c : RebuildCall). Ended parts.places.book (s.next + made) c) (sym found.2)
        (subst (λ n. Ended parts.places.book n has.cut.chunk) number_is (subst (λ (b : BookOf). Ended b has.cut.left.next has.cut.chunk) has.cut.before.keeps.same.book (has.cut.last.over, has.cut.last.leaves)))

    abbrev end : AtWork
    end = ran g tries who (s.next + made) (rebuild_job (rebuild_of chunk)) has.cut.last.shortages between

    -- with ample memory it would have made its chunk
    abbrev all_so : CorePlaces
    all_so = (healed at.calls g max tries (seats_at parts.served) at.stands before s is.wide (has_parity g is.code) at.between (suc made)).after

    last_so : (p : CorePlaces) × AreRebuilt g tries who s.next (take made its) before p × EndsAs g tries who (s.next + length (take made its)) (rebuild_job (rebuild_of chunk)) p Outcome.Rebuilt all_so
    last_so =
        rebuilt_last g tries who (take made its) chunk s.next before all_so
        (subst (λ (l : List LostChunk). AreRebuilt g tries who s.next l before all_so) (take_next its made chunk found.1)
        (healed at.calls g max tries (seats_at parts.served) at.stands before s is.wide (has_parity g is.code) at.between (suc made)).rebuilt)

    amply : EndsAs g tries who (s.next + made) (rebuild_job (rebuild_of chunk)) between Outcome.Rebuilt all_so
    amply =
        subst (λ (p : CorePlaces). EndsAs g tries who (s.next + made) (rebuild_job (rebuild_of chunk)) p Outcome.Rebuilt all_so)
        (same_rebuilt g tries who (take made its) s.next before last_so.0 between last_so.1 rebuilt_so)
        (subst (λ n. EndsAs g tries who (s.next + n) (rebuild_job (rebuild_of chunk)) last_so.0 Outcome.Rebuilt all_so) so_many last_so.2)

    wanting : has.cut.last.outcome ≡ Outcome.NoMemory
    wanting = by (rebuild_ends_either g tries who (s.next + made) (rebuild_of chunk) has.cut.last.shortages between has.cut.last.outcome seat ended.0)
      where
        by : (has.cut.last.outcome ≡ Outcome.NoMemory) ⊎ (end ≡ steps g tries who (s.next + made) (rebuild_job (rebuild_of chunk)) (length has.cut.last.shortages) (record { call = first_state; places = between })) →
            has.cut.last.outcome ≡ Outcome.NoMemory
        by (inl none) = none
        by (inr same) =
            let ends : EndsAs g tries who (s.next + made) (rebuild_job (rebuild_of chunk)) between has.cut.last.outcome end.places = record {
              made = length has.cut.last.shortages;
              over = ap (λ (w : AtWork). act_of_state g tries (rebuild_job (rebuild_of chunk)) w.call) (sym same) ∙ ended.0;
              leaves = ap (λ (w : AtWork). w.places) (sym same);
            } in
            let one = same_ends g tries who (s.next + made) (rebuild_job (rebuild_of chunk)) between end.places all_so has.cut.last.outcome Outcome.Rebuilt ends amply in
            absurd (true≢false (sym (has.cut.last.told ∙ ap is_rebuilt one.0)))

    runs_to : RunsTo g tries who (s.next + made) (rebuild_job (rebuild_of chunk)) between Outcome.NoMemory (seen_in now.places)
    runs_to = record {
      shortages = has.cut.last.shortages;
      over = ended.0 ∙ ap (λ o. Act.Finish o) wanting;
      swept =
          subst (λ (p : CorePlaces). AreSweptTo g p (seen_in now.places)) (sym ended.1)
          (subst (λ (b : BookOf). AreSweptTo b.geometry (seen_in has.left.places) (seen_in now.places)) has.cut.keeps.same.book has.swept.swept);
    }

    abbrev after : State
    after = record (healed_by g made s) { next = s.next + made + 1 }

    cut_off : IsCutOff g tries (seats_at parts.served) s before after (seen_in now.places)
    cut_off = record {
      lasts = numbers_last_so parts is lost are s at few;
      made = made;
      few = inr within;
      left = between;
      rebuilt = made_so;
      last = inr (chunk, found.1, runs_to, refl);
    }

    answered : (answered : IsAnswered at.calls g max (seats_at parts.served) s Request.Heal (seen_in now.places)) × (answered.served ≡ (after, Answer.NoMemory))
    answered = heals_are_answered at.calls g max tries (seats_at parts.served) at.stands before (seen_in now.places) s after is.wide (has_parity g is.code) at.between cut_off

    state_left : HealLeaves parts is answer now.places has.left.healer has.left.next s at
    state_left = record {
      after = after;
      served =
          subst (λ (a : Answer). IsServed g max Request.Heal s (after, a)) (sym has.wanting)
          (subst (λ (r : State × Answer). IsServed g max Request.Heal s r) answered.1 answered.0.allowed);
      stands = answered.0.stands;
      between = subst (λ (r : State × Answer). IsBetween at.calls g max (seats_at parts.served) answered.0.stands (seen_in now.places) r.0) answered.1 answered.0.between;
      next_is = (let used : has.left.next ≡ has.cut.left.next + 1 = has.cut.last.next in let number : has.cut.left.next ≡ s.next + made = number_is in omega (arith, used, number));
      epochs = healed_epochs g (take made its) s;
      snapshot = healed_snapshot g made s;
    }

  places_left : LeavesPlaces parts who now.places
  places_left = record {
    are = has.swept.keeps.same.places;
    book = has.swept.keeps.same.book ∙ has.cut.keeps.same.book;
    most = (answered is.state is.stands).0.between.seen.most;
    others = λ token apart unswept agrees. has.swept.keeps.agrees token unswept (has.cut.keeps.others token apart agrees);
  }

  seat_left : HasSeat now.places.directory.core who has.left.next has.left.healer
  seat_left = record {
    seat = has.cut.keeps.may.healer.seat;
    there = has.cut.keeps.may.healer.there;
    actor = has.cut.keeps.may.healer.actor;
    unused = has.cut.keeps.may.healer.unused;
    agrees = has.swept.keeps.agrees (ActorToken.Seated has.cut.keeps.may.healer.seat) (ap (same_actor actor.Sweeper) has.cut.keeps.may.healer.actor) has.cut.keeps.may.healer.agrees;
  }

  rest_is : now ≡ after_heal parts is answer now.places has.left.healer has.left.next
  rest_is = has.rest ∙ ap (λ (p : Parts). let q : Parts = record p { places = now.places } in q) has.cut.keeps.rest

  pub heal_cut : ServesRequest Request.Heal (store_of parts) answer (store_of now)
  heal_cut = subst (λ (p : Parts). ServesRequest Request.Heal (store_of parts) answer (store_of p)) (sym rest_is) (heal_is_served parts is answer now.places has.left.healer has.left.next places_left seat_left (λ calls holds. has.swept.keeps.contents calls (has.cut.keeps.holds calls holds).contents) state_left)

-- ---- the heal's end
module _ (parts : Parts) (is : IsStore (store_of parts)) (lost : List LostChunk) (are : lost ≡ lost_at (places_in (store_of parts))) (few : parts.next + length lost ≤ 2 ^ 32 - 1) (answer : Answer) (now : Parts) where
  pub heal_ended : HealsWith (record parts { served = parts.served + 1 }) (map rebuild_of (healable parts.places.book.geometry.parity_count lost)) (replicate (chunk_count parts.places.book.geometry) 0) answer now →
      ServesRequest Request.Heal (store_of parts) answer (store_of now)
  heal_ended (inl has) = heal_made parts is lost are few answer now has
  heal_ended (inr has) = heal_cut parts is lost are few answer now has
