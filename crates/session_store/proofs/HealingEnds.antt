-- A heal that has ended is served, as the session answers where each chunk was made anew.
use Rattle.std.proofs.Common.{◌≡◌, ℕ, zero, suc, ◌+◌, ◌-◌, ◌*◌, ◌<◌, ◌≤◌, ◌^◌, Bool, true, if◌then◌else◌, List, [], length, map, replicate, Option, refl, sym, ap, subst, ◌∙◌, inl, arith}
use Rattle.std.proofs.Math.Nat.{pow-le-pow_right}
use Rattle.std.proofs.lemmas.List.{length-map, take_all}
use Rattle.clay_grid.specs.Shape.{Shape, chunk_count, row_count, column_count, layer_count}
use Rattle.clay_grid.specs.Limits.{IsGeometry}
use Rattle.store_map.specs.declared.actor.Actor.TheVariants as actor
use Rattle.store_core.specs.Agreement.{Seat}
use Rattle.store_core.specs.Calls.{Calls}
use Rattle.stripe_stamps.specs.Stamped.{HaveContents}
use Rattle.session_rules.specs.State.{State}
use Rattle.session_rules.specs.Heals.{to_heal, heal_all, numbers_last}
use Rattle.session_rules.specs.Serve.{serve}
use Rattle.session_rules.specs.Shortages.{IsServed}
use Rattle.session_rules.specs.declared.session_answer.Answer.{Answer}
use Rattle.session_rules.specs.declared.session_answer.LostChunk.{LostChunk}
use Rattle.session_rules.specs.declared.request.Request.{Request}
use Rattle.session_rules.specs.AloneHeals.{rebuild_of}
use Rattle.session_rules.specs.Scrubs.{lost_at}
use Rattle.session_rules.specs.Between.{IsBetween}
use Rattle.session_rules.specs.Answering.{IsAnswered, AreTakenAnew}
use Rattle.session_rules.proofs.Answers.{healed_snapshot}
use Rattle.session_rules.proofs.HealsAnswered.{heals_are_made}
use Rattle.session_rules.proofs.HealsTaken.{heals_take_anew}
use Rattle.call_steps.specs.CallOf.{tries_by}
use Rattle.session_store.specs.declared.session_parts.Parts.{Parts}
use Rattle.session_store.specs.declared.places.SessionPlaces.{SessionPlaces}
use Rattle.session_store.specs.Inside.{store_of}
use Rattle.session_store.specs.Kept.{HasSeat, IsStore, ServesRequest}
use Rattle.session_store.specs.Places.{seen_in}
use Rattle.session_store.specs.Standing.{StandsAt, seats_at}
use Rattle.session_store.specs.Stored.{places_in}
use Rattle.session_store.specs.LostStripes.{healable}
use Rattle.session_store.specs.Healing.{low, HoldsBytes, HasAnswered}
use Rattle.session_store.proofs.Numbers.{fresh_later, passed_over}
use Rattle.session_store.proofs.Leaving.{LeavesPlaces, LeavesState, seat_still, request_is_served}
use Rattle.session_store.proofs.Standing.{healed_epochs}
use Rattle.session_store.proofs.Healing.{few_healable}
use Rattle.session_store.proofs.HealingBounds.{AreFew, low_same, few_healed}
use Rattle.session_store.proofs.HealingAnswered.{chunks_are, numbers_last_so, all_made, all_taken}
use Rattle.session_rules.proofs.Pairs.{every_weaker}

-- ---- what it leaves
module _ (parts : Parts) (is : IsStore (store_of parts)) (answer : Answer) (places : SessionPlaces) (healer : Option Seat) (next : ℕ) where
  abbrev pub after_heal : Parts
  after_heal = record parts { places = places; healer = healer; next = next; served = parts.served + 1 }

  -- of a state at which the store stood
  pub record HealLeaves (s : State) (at : StandsAt (store_of parts) s) : Type 0 where
    pub after : State
    pub served : IsServed parts.places.book.geometry parts.places.directory.core.max Request.Heal s (after, answer)
    pub stands : List ℕ
    pub between : IsBetween at.calls parts.places.book.geometry parts.places.directory.core.max (seats_at parts.served) stands (seen_in places) after
    pub next_is : after.next ≡ next
    pub epochs : after.epochs ≡ s.epochs
    pub snapshot : after.snapshot ≡ s.snapshot

  pub heal_is_served : (left : LeavesPlaces parts (actor.Repairer 1) places) → HasSeat places.directory.core (actor.Repairer 1) next healer → ((calls : Calls) → HoldsBytes calls parts.places.directory → HaveContents calls places.directory) →
      ((s : State) (at : StandsAt (store_of parts) s) → HealLeaves s at) → ServesRequest Request.Heal (store_of parts) answer (store_of after_heal)
  heal_is_served left seat contents ends =
      request_is_served parts is (actor.Repairer 1) places left Request.Heal answer parts.client parts.repairer healer next leaves (λ n some. refl)
      (seat_still parts is (actor.Repairer 1) places left (actor.Client 0) parts.served (parts.served + 1) parts.client (omega arith) refl refl is.client)
      (seat_still parts is (actor.Repairer 1) places left (actor.Repairer 0) parts.served (parts.served + 1) parts.repairer (omega arith) refl refl is.repairer) seat
    where
      leaves : (s : State) (at : StandsAt (store_of parts) s) → LeavesState parts is (actor.Repairer 1) places left Request.Heal answer parts.client parts.repairer healer next s
      leaves s at = record {
        after = (ends s at).after;
        served = (ends s at).served;
        calls = at.calls;
        stands = (ends s at).stands;
        between = passed_over at.calls parts.places.book.geometry parts.places.directory.core.max (seats_at parts.served) (parts.served + 1) (parts.served + 1) (parts.served + 1) (ends s at).stands (seen_in places) (ends s at).after (omega arith) (omega arith) (omega arith) (ends s at).between;
        contents = contents at.calls (record { bytes = at.between.its_map.bytes; drawn = at.between.its_map.drawn; contents = at.contents });
        fresh = fresh_later at.calls parts.served at.fresh;
        next_is = (ends s at).next_is;
        epochs = (ends s at).epochs;
        snapshot = (ends s at).snapshot;
      }

-- ---- each chunk was made anew
few_zeros : (n : ℕ) → AreFew 0 (replicate n 0)
few_zeros zero = tt
few_zeros (suc n) = (omega arith, few_zeros n)

abbrev counts_in : Answer → List ℕ
counts_in (Answer.Healed rebuilt taken) = taken
counts_in answer = []

module _ (g : Shape) (s : State) where
  abbrev healed_if : Bool → State × Answer
  healed_if b =
      if b then (record ((heal_all g (to_heal g s) s).0) { next = s.next + length (to_heal g s) }, Answer.Healed (length (to_heal g s)) (heal_all g (to_heal g s) s).1)
      else (s, Answer.BadRequest)

  healed_all : (max : ℕ) → numbers_last g s ≡ true → serve g max Request.Heal s ≡ healed_if true
  healed_all max lasts = ap healed_if lasts

  few_sums : IsGeometry g → length (to_heal g s) < 2 ^ 32 → AreFew (2 ^ 64 - 1) (heal_all g (to_heal g s) s).1
  few_sums fits few =
      let layers : layer_count g ≤ 1024 = fits.limits.layers in
      let rows : 2 ≤ row_count g = fits.limits.parity_chunks.0 in
      let repair : row_count g ^ (column_count g - 1) ≤ layer_count g = pow-le-pow_right {n = row_count g} (omega (arith, rows)) {i = column_count g - 1} {j = column_count g} (omega arith) in
      every_weaker (λ count. count ≤ 0 + 1024 * length (to_heal g s)) (λ count. count ≤ 2 ^ 64 - 1) (λ x less. omega (arith, less, few)) (heal_all g (to_heal g s) s).1
      (few_healed g 1024 (omega (arith, repair, layers)) layers (to_heal g s) s (replicate (chunk_count g) 0) 0 (few_zeros (chunk_count g)))

module _ (parts : Parts) (is : IsStore (store_of parts)) (lost : List LostChunk) (are : lost ≡ lost_at (places_in (store_of parts))) (few : parts.next + length lost ≤ 2 ^ 32 - 1) (answer : Answer) (now : Parts)
    (has : HasAnswered (record parts { served = parts.served + 1 }) (map rebuild_of (healable parts.places.book.geometry.parity_count lost)) (replicate (chunk_count parts.places.book.geometry) 0) answer now) where
  abbrev g : Shape
  g = parts.places.book.geometry

  abbrev max : ℕ
  max = parts.places.directory.core.max

  places_left : LeavesPlaces parts (actor.Repairer 1) now.places
  places_left = record {
    are = has.made.keeps.may.places;
    book = has.made.keeps.same.book;
    most = has.made.keeps.most;
    others = λ token apart unswept agrees. has.made.keeps.others token apart agrees;
  }

  module _ (s : State) (at : StandsAt (store_of parts) s) where
    lasts : numbers_last g s ≡ true
    lasts = numbers_last_so parts is lost are s at few

    same_chunks : healable g.parity_count lost ≡ to_heal g s
    same_chunks = chunks_are parts is lost are s at

    count_is : length (map rebuild_of (healable g.parity_count lost)) ≡ length (to_heal g s)
    count_is = length-map (healable g.parity_count lost) rebuild_of ∙ ap (λ (l : List LostChunk). length l) same_chunks

    few_chunks : length (to_heal g s) < 2 ^ 32
    few_chunks =
        let all : parts.next + length (map rebuild_of (healable g.parity_count lost)) < 2 ^ 32 = few_healable g.parity_count parts.next lost (map rebuild_of (healable g.parity_count lost)) refl (omega (arith, few)) in
        let count : length (map rebuild_of (healable g.parity_count lost)) ≡ length (to_heal g s) = count_is in
        omega (arith, all, count)

    is_made : serve g max Request.Heal s ≡ healed_if g s true
    is_made = healed_all g s max lasts

    answered : (answered : IsAnswered at.calls g max (seats_at parts.served) s Request.Heal (seen_in now.places)) × (answered.served ≡ serve g max Request.Heal s)
    answered = heals_are_made at.calls g max (tries_by parts.places.book.script) (seats_at parts.served) at.stands (seen_in parts.places) (seen_in now.places) s is.wide is.code at.between lasts (all_made parts is lost are s at now has.total has.made)

    abbrev sums_so : (sums : List ℕ) × AreTakenAnew g (tries_by parts.places.book.script) (actor.Repairer 1) s.next (to_heal g s) (seen_in parts.places) (replicate (chunk_count g) 0) sums × (has.total ≡ map low sums)
    sums_so = all_taken parts is lost are s at now has.total has.made

    sums_are : sums_so.0 ≡ (heal_all g (to_heal g s) s).1
    sums_are =
        sym (ap counts_in (heals_take_anew at.calls g max (tries_by parts.places.book.script) (seats_at parts.served) at.stands (seen_in parts.places) s sums_so.0 is.wide is.code at.between lasts sums_so.1))
        ∙ ap (λ (r : State × Answer). counts_in r.1) is_made

    total_is : has.total ≡ (heal_all g (to_heal g s) s).1
    total_is = sums_so.2 ∙ ap (map low) sums_are ∙ low_same (heal_all g (to_heal g s) s).1 (few_sums g s is.code few_chunks)

    answer_is : answer ≡ (serve g max Request.Heal s).1
    answer_is = has.answers ∙ (λ i. Answer.Healed (count_is i) (total_is i)) ∙ sym (ap (λ (r : State × Answer). r.1) is_made)

    state_left : HealLeaves parts is answer now.places now.healer now.next s at
    state_left = record {
      after = (serve g max Request.Heal s).0;
      served = inl (λ i. ((serve g max Request.Heal s).0, answer_is i));
      stands = answered.0.stands;
      between = subst (λ (r : State × Answer). IsBetween at.calls g max (seats_at parts.served) answered.0.stands (seen_in now.places) r.0) answered.1 answered.0.between;
      next_is =
          ap (λ (r : State × Answer). r.0.next) is_made
          ∙ (let begun : s.next ≡ parts.next = at.next in let used : now.next ≡ parts.next + length (map rebuild_of (healable g.parity_count lost)) = has.made.next in
          let count : length (map rebuild_of (healable g.parity_count lost)) ≡ length (to_heal g s) = count_is in omega (arith, begun, used, count));
      epochs = ap (λ (r : State × Answer). r.0.epochs) is_made ∙ healed_epochs g (to_heal g s) s;
      snapshot =
          ap (λ (r : State × Answer). r.0.snapshot) is_made
          ∙ sym (ap (λ (l : List LostChunk). (heal_all g l s).0.snapshot) (take_all (length (to_heal g s)) (to_heal g s) (omega arith)))
          ∙ healed_snapshot g (length (to_heal g s)) s;
    }

  pub heal_made : ServesRequest Request.Heal (store_of parts) answer (store_of now)
  heal_made = subst (λ (p : Parts). ServesRequest Request.Heal (store_of parts) answer (store_of p)) (sym has.made.keeps.rest) (heal_is_served parts is answer now.places now.healer now.next places_left has.made.keeps.may.healer (λ calls holds. (has.made.keeps.holds calls holds).contents) state_left)
