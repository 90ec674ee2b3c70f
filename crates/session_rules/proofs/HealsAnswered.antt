-- A heal that is cut off for want of memory.
use Rattle.std.proofs.Common.{◌≡◌, ◌⊎◌, ℕ, zero, suc, ◌+◌, ◌<◌, ◌≤◌, false, List, [], ◌∷◌, length, take, slice_get, Some, true, refl, sym, ap, subst, ◌∙◌, inl, inr, arith, ne_eqb}
use Rattle.std.specs.List.{AllByRecursion}
use Rattle.std.proofs.lemmas.List.{length-take-le}
use Rattle.std.proofs.lemmas.Option.{none-some, same_Some}
use Rattle.clay_grid.specs.Shape.{Shape, stripe_length}
use Rattle.store_map.specs.declared.actor.Actor.{Actor}
use Rattle.store_map.specs.declared.actor.Actor.TheVariants as actor
use Rattle.store_core.specs.Act.{Outcome}
use Rattle.store_core.specs.NextAct.{rebuild_job}
use Rattle.store_core.specs.Calls.{Calls}
use Rattle.store_core.specs.Lookups.{same_actor}
use Rattle.store_core.specs.Step.{Shortage, Places}
use Rattle.run_laws.specs.State.{first_state}
use Rattle.run_laws.specs.StateActs.{act_of_state}
use Rattle.session_rules.specs.State.{State}
use Rattle.session_rules.specs.declared.session_answer.LostChunk.{LostChunk}
use Rattle.session_rules.specs.declared.session_answer.Answer.{Answer}
use Rattle.session_rules.specs.declared.request.Request.{Request}
use Rattle.session_rules.specs.Heals.{to_heal}
use Rattle.session_rules.specs.Serve.{serve}
use Rattle.session_rules.specs.Shortages.{IsServed}
use Rattle.session_rules.specs.Alone.{AtWork, steps, EndsAs}
use Rattle.session_rules.specs.AloneHeals.{rebuild_of, AreRebuilt, healed_by}
use Rattle.session_rules.specs.Quiet.{AreSwept}
use Rattle.session_rules.specs.Wants.{wanting_steps}
use Rattle.session_rules.proofs.HealAlone.{with_next, quiet_next, Ready, all_ready}
use Rattle.session_rules.specs.Maps.{IsMapOf}
use Rattle.session_rules.specs.Seats.{MayBeginFrom, ran, HasEnded}
use Rattle.session_rules.specs.Between.{Seats, IsBetween}
use Rattle.session_rules.specs.Answering.{RunsTo, AreMadeAnew, IsCutOff, HealsAreAnswered, HealsAreMade}
use Rattle.session_rules.proofs.CallSeats.{rebuild_seated}
use Rattle.session_rules.proofs.Doomed.{IsWant, rebuild_ends_either}
use Rattle.session_rules.proofs.Ends.{same_swept, same_rebuilt}
use Rattle.session_rules.proofs.Rests.{Rests, swept_to, between_swept}
use Rattle.session_rules.proofs.Repairs.{has_parity, healed, between_healed, Heals, heal_by, heals_by}
use Rattle.session_rules.proofs.WantingRebuild.{clean, seen_left, map_left, own, other, readers_left}

-- an element at a place has what all have, and its place is below their number
every_at : {X : Type 0} (P : X → Type 0) (xs : List X) (n : ℕ) (x : X) → AllByRecursion P xs → slice_get xs n ≡ Some x → P x
every_at P [] n x all e = absurd (none-some x e)
every_at P (y ∷ xs) zero x all e = subst P (same_Some y x e) all.0
every_at P (y ∷ xs) (suc n) x all e = every_at P xs n x all.1 e

place_below : {X : Type 0} (xs : List X) (n : ℕ) (x : X) → slice_get xs n ≡ Some x → n < length xs
place_below [] n x e = absurd (none-some x e)
place_below (y ∷ xs) zero x e = omega arith
place_below (y ∷ xs) (suc n) x e = let less : n < length xs = place_below xs n x e in omega (arith, less)

-- none, or fewer than all, are at most all
at_most : (all made : ℕ) → (made ≡ 0) ⊎ (made < all) → made ≤ all
at_most all made (inl none) = omega (arith, none)
at_most all made (inr less) = omega (arith, less)

-- nor is it after all sweeps
swept_next : (g : Shape) (max : ℕ) (stands : List ℕ) (p : Places) (s : State) (n : ℕ) → AreSwept g max stands p s → AreSwept g max stands p (record s { next = n })
swept_next g max stands p s n swept = record {
  made = swept.made;
  after = swept.after;
  idle = swept.idle;
  seen = with_next g max stands swept.after s n swept.seen;
  pinned = λ number live. swept.pinned number live;
  quiet = quiet_next stands swept.after s n swept.quiet;
}

-- ---- a rebuild that made its chunk made the steps that it makes with ample memory
module _ (g : Shape) (tries : ℕ) (who : Actor) (chunk : LostChunk) (number : ℕ) (shortages : List Shortage) (before : Places) (over : HasEnded g tries who number (rebuild_job (rebuild_of chunk)) shortages before Outcome.Rebuilt) where
  abbrev end : AtWork
  end = ran g tries who number (rebuild_job (rebuild_of chunk)) shortages before

  amply : (Outcome.Rebuilt ≡ Outcome.NoMemory) ⊎ (end ≡ steps g tries who number (rebuild_job (rebuild_of chunk)) (length shortages) (record { call = first_state; places = before })) →
      EndsAs g tries who number (rebuild_job (rebuild_of chunk)) before Outcome.Rebuilt end.places
  amply (inl want) = absurd (subst IsWant (sym want) tt)
  amply (inr same) = record {
    made = length shortages;
    over = ap (λ (w : AtWork). act_of_state g tries (rebuild_job (rebuild_of chunk)) w.call) (sym same) ∙ over;
    leaves = ap (λ (w : AtWork). w.places) (sym same);
  }

pub rebuilt_of : (g : Shape) (tries : ℕ) (who : Actor) (chunks : List LostChunk) (number : ℕ) (before after : Places) → MayBeginFrom before.directory who number →
    AreMadeAnew g tries who number chunks before after → AreRebuilt g tries who number chunks before after
rebuilt_of g tries who [] number before after seat made = made
rebuilt_of g tries who (chunk ∷ chunks) number before after seat (shortages, over, rest) = (
  (ran g tries who number (rebuild_job (rebuild_of chunk)) shortages before).places,
  amply g tries who chunk number shortages before over (rebuild_ends_either g tries who number (rebuild_of chunk) shortages before Outcome.Rebuilt seat over),
  rebuilt_of g tries who chunks (number + 1) (ran g tries who number (rebuild_job (rebuild_of chunk)) shortages before).places after
      (rebuild_seated g tries who number (rebuild_of chunk) before shortages Outcome.Rebuilt seat over) rest,
)

module _ (calls : Calls) (g : Shape) (max tries : ℕ) (seats : Seats) (stands : List ℕ) (p after : Places) (s now : State) (some : 0 < stripe_length g) (parity : 0 < g.parity_count)
    (h : IsBetween calls g max seats stands p s) (cut : IsCutOff g tries seats s p now after) where
  -- a session may answer so, and the places are between requests again
  abbrev Answered : State → Type 0
  Answered then_state = IsServed g max Request.Heal s (then_state, Answer.NoMemory) × IsBetween calls g max seats stands after then_state

  -- the state once so many chunks are made anew
  abbrev made_so : State
  made_so = healed_by g cut.made s

  so_many : length (take cut.made (to_heal g s)) ≡ cut.made
  so_many = length-take-le cut.made (to_heal g s) (at_most (length (to_heal g s)) cut.made cut.few)

  between_left : IsBetween calls g max seats stands cut.left made_so
  between_left =
      subst (λ (q : Places). IsBetween calls g max seats stands q (healed_by g cut.made s))
      (same_rebuilt g tries (actor.Repairer seats.healer) (take cut.made (to_heal g s)) s.next p (healed calls g max tries seats stands p s some parity h cut.made).after cut.left
      (healed calls g max tries seats stands p s some parity h cut.made).rebuilt
      (rebuilt_of g tries (actor.Repairer seats.healer) (take cut.made (to_heal g s)) s.next p cut.left h.healer cut.rebuilt)) (between_healed calls g max tries seats stands p s some parity h cut.made)

  -- cut off between two rebuilds
  at_once : after ≡ cut.left → Answered made_so
  at_once same = (
    inr (
      refl,
      record {
        made = cut.made;
        few = cut.few;
        state = refl;
        used = (omega (arith, so_many), omega (arith, so_many), omega (arith, so_many, at_most (length (to_heal g s)) cut.made cut.few));
        lasts = λ _. cut.lasts;
      },
    ),
    subst (λ (q : Places). IsBetween calls g max seats stands q made_so) (sym same) between_left,
  )

  -- or in one
  module _ (chunk : LostChunk) (is : slice_get (to_heal g s) cut.made ≡ Some chunk)
      (run : RunsTo g tries (actor.Repairer seats.healer) (s.next + cut.made) (rebuild_job (rebuild_of chunk)) cut.left Outcome.NoMemory after) where
    ready : Ready g max tries stands seats.healer some parity s chunk
    ready = every_at (Ready g max tries stands seats.healer some parity s) (to_heal g s) cut.made chunk (all_ready g max tries stands seats.healer some parity p s h.seen) is

    within : cut.made < length (to_heal g s)
    within = place_below (to_heal g s) cut.made chunk is

    seat : MayBeginFrom cut.left.directory (actor.Repairer seats.healer) (s.next + cut.made)
    seat = subst (λ n. MayBeginFrom cut.left.directory (actor.Repairer seats.healer) (s.next + n)) so_many between_left.healer

    abbrev last_left : Places
    last_left = (wanting_steps g tries (actor.Repairer seats.healer) (s.next + cut.made) (rebuild_job (rebuild_of chunk)) run.shortages (record { call = first_state; places = cut.left })).places

    abbrev then_state : State
    then_state = record made_so { next = s.next + cut.made + 1 }

    swept : AreSwept g max stands last_left made_so
    swept = clean calls g max tries seats stands cut.left made_so some between_left seats.healer (s.next + cut.made) seat (rebuild_of chunk) ready.server run.shortages run.over

    beside : (who : Actor) (unused : ℕ) → same_actor (actor.Repairer seats.healer) who ≡ false → MayBeginFrom cut.left.directory who unused → MayBeginFrom last_left.directory who unused
    beside = other calls g max tries seats stands cut.left made_so some between_left seats.healer (s.next + cut.made) seat (rebuild_of chunk) ready.server run.shortages run.over

    map_last : IsMapOf calls last_left made_so
    map_last = map_left calls g max tries seats stands cut.left made_so some between_left seats.healer (s.next + cut.made) seat (rebuild_of chunk) ready.server run.shortages run.over

    rests : Rests calls g max seats stands last_left then_state
    rests = record {
      seen =
          with_next g max stands last_left made_so (s.next + cut.made + 1)
          (seen_left calls g max tries seats stands cut.left made_so some between_left seats.healer (s.next + cut.made) seat (rebuild_of chunk) ready.server run.shortages run.over);
      its_map = record { objects = map_last.objects; bytes = map_last.bytes; drawn = map_last.drawn };
      client = beside (actor.Client seats.client) seats.calls refl between_left.client;
      repairer = beside (actor.Repairer seats.repairer) seats.rebuilds (ne_eqb seats.healer seats.repairer (λ e. h.apart (sym e))) between_left.repairer;
      healer = own calls g max tries seats stands cut.left made_so some between_left seats.healer (s.next + cut.made) seat (rebuild_of chunk) ready.server run.shortages run.over;
      apart = h.apart;
      readers = h.readers;
      snapshot = readers_left calls g max tries seats stands cut.left made_so some between_left seats.healer (s.next + cut.made) seat (rebuild_of chunk) ready.server run.shortages run.over;
    }

    swept_then : AreSwept g max stands last_left then_state
    swept_then = swept_next g max stands last_left made_so (s.next + cut.made + 1) swept

    there : swept_then.after ≡ after
    there = same_swept g last_left swept_then.after after (swept_to calls g max seats stands last_left then_state some rests swept_then) run.swept

    in_one : Answered then_state
    in_one = (
      inr (
        refl,
        record {
          made = cut.made;
          few = cut.few;
          state = refl;
          used = (omega arith, omega arith, omega (arith, within));
          lasts = λ _. cut.lasts;
        },
      ),
      subst (λ (q : Places). IsBetween calls g max seats stands q then_state) there (between_swept calls g max seats stands last_left then_state some rests swept_then),
    )

  pub heal_answered : Answered now
  heal_answered = by cut.last
    where
      by : ((after ≡ cut.left) × (now ≡ healed_by g cut.made s))
          ⊎ ((chunk : LostChunk) × (slice_get (to_heal g s) cut.made ≡ Some chunk)
          × RunsTo g tries (actor.Repairer seats.healer) (s.next + cut.made) (rebuild_job (rebuild_of chunk)) cut.left Outcome.NoMemory after
          × (now ≡ record (healed_by g cut.made s) { next = s.next + cut.made + 1 })) → Answered now
      by (inl (same, is)) = subst Answered (sym is) (at_once same)
      by (inr (chunk, there, run, is)) = subst Answered (sym is) (in_one chunk there run)

pub heals_are_answered : HealsAreAnswered
heals_are_answered calls g max tries seats stands p after s now some parity h cut =
    let so : IsServed g max Request.Heal s (now, Answer.NoMemory) × IsBetween calls g max seats stands after now = heal_answered calls g max tries seats stands p after s now some parity h cut in
    (record { served = (now, Answer.NoMemory); allowed = so.0; stands = stands; between = so.1 }, refl)

-- ---- a heal that has made each chunk anew
pub heals_are_made : HealsAreMade
heals_are_made calls g max tries seats stands p after s some fits h lasts made =
    let parity : 0 < g.parity_count = has_parity g fits in
    let heals : Heals calls g max tries seats stands p s some parity h (heal_by calls g max tries seats stands p s some parity h true) = heals_by calls g max tries seats stands p s some parity h fits true in
    let there : heals.0 ≡ after =
    same_rebuilt g tries (actor.Repairer seats.healer) (to_heal g s) s.next p heals.0 after heals.1.0
    (rebuilt_of g tries (actor.Repairer seats.healer) (to_heal g s) s.next p after h.healer made) in
    let between : IsBetween calls g max seats stands after (serve g max Request.Heal s).0 =
    subst (λ (served : State × Answer). IsBetween calls g max seats stands after served.0) (sym (ap (heal_by calls g max tries seats stands p s some parity h) lasts))
    (subst (λ (q : Places). IsBetween calls g max seats stands q (heal_by calls g max tries seats stands p s some parity h true).0) there heals.2) in
    (record { served = serve g max Request.Heal s; allowed = inl refl; stands = stands; between = between }, refl)
