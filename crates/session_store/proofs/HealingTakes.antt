-- What a heal's rebuilds took, as the session counts it.
use Rattle.std.proofs.Common.{◌≡◌, ℕ, suc, ◌+◌, ◌-◌, ◌<◌, ◌^◌, Bool, true, false, nat_lt, List, [], ◌∷◌, length, map, replicate, None, Some, refl, sym, ap, ◌∙◌, arith, if◌then◌else◌, ◌||◌, true≢false}
use Rattle.std.specs.List.{list_any}
use Rattle.std.proofs.lemmas.Bool.{ltb-false}
use Rattle.std.proofs.lemmas.List.{length-replicate}
use Rattle.clay_grid.specs.Shape.{Shape, chunk_count}
use Rattle.store_map.specs.declared.actor.Actor.{Actor}
use Rattle.store_core.specs.NextAct.{rebuild_job}
use Rattle.store_core.specs.Step.{Places}
use Rattle.session_rules.specs.declared.session_answer.LostChunk.{LostChunk}
use Rattle.session_rules.specs.AloneHeals.{rebuild_of}
use Rattle.session_rules.specs.Takes.{added}
use Rattle.session_rules.specs.Seats.{ran}
use Rattle.session_rules.specs.Answering.{took, AreMadeAnew, AreTakenAnew}
use Rattle.call_steps.specs.CallOf.{taken_of}
use Rattle.session_store.specs.AtWork.{first_at}
use Rattle.session_store.specs.Healing.{low, added_low, added_if, AreMade}
use Rattle.session_store.proofs.HealingOne.{took_length}

-- ---- counts that stay at the last value are the sums as far as that
low_sum : (x y : ℕ) → low (low x + y) ≡ low (x + y)
low_sum x y = omega arith

low_added : (a t : List ℕ) → length t ≡ length a → added_low (map low a) t ≡ map low (added a t)
low_added [] t same = refl
low_added (x ∷ a) [] same = absurd (cc (same))
low_added (x ∷ a) (y ∷ t) same =
    let rest : added_low (map low a) t ≡ map low (added a t) = low_added a t (let e : suc (length t) ≡ suc (length a) = same in omega (arith, e)) in
    λ i. low_sum x y i ∷ rest i

none_added : (a t : List ℕ) → length t ≡ length a → list_any (nat_lt 0) t ≡ false → a ≡ added a t
none_added [] t same none = refl
none_added (x ∷ a) [] same none = absurd (cc (same))
none_added (x ∷ a) (y ∷ t) same none = by (nat_lt 0 y) refl none (none_added a t (let lengths : suc (length t) ≡ suc (length a) = same in omega (arith, lengths)))
  where
    by : (b : Bool) → nat_lt 0 y ≡ b → (b || list_any (nat_lt 0) t) ≡ false → (list_any (nat_lt 0) t ≡ false → a ≡ added a t) → (x ∷ a) ≡ ((x + y) ∷ added a t)
    by true is e rest = absurd (true≢false e)
    by false is e rest =
        let low_y = ltb-false 0 y is in
        let here : x ≡ x + y = omega (arith, low_y) in
        let later : a ≡ added a t = rest e in
        λ i. here i ∷ later i

if_added : (a t : List ℕ) → length t ≡ length a → added_if (taken_of t) (map low a) ≡ map low (added a t)
if_added a t same = by (list_any (nat_lt 0) t) refl
  where
    by : (b : Bool) → list_any (nat_lt 0) t ≡ b → added_if (if b then Some t else None) (map low a) ≡ map low (added a t)
    by true is = low_added a t same
    by false is = ap (map low) (none_added a t same is)

added_length : (a t : List ℕ) → length t ≡ length a → length (added a t) ≡ length a
added_length [] t same = refl
added_length (x ∷ a) [] same = absurd (cc (same))
added_length (x ∷ a) (y ∷ t) same = ap suc (added_length a t (let e : suc (length t) ≡ suc (length a) = same in omega (arith, e)))

-- ---- as the laws of sessions say it
module _ (g : Shape) (tries : ℕ) (who : Actor) where
  pub made_anew : (chunks : List LostChunk) (number : ℕ) (before : Places) (taken : List ℕ) (after : Places) (total : List ℕ) → AreMade g tries who number (map rebuild_of chunks) before taken after total →
      AreMadeAnew g tries who number chunks before after
  made_anew [] number before taken after total m = m.0
  made_anew (chunk ∷ chunks) number before taken after total (shortages, over, rest) = (shortages, over, made_anew chunks (number + 1) _ _ after total rest)

  pub taken_anew : (chunks : List LostChunk) (number : ℕ) (before : Places) (taken so_far : List ℕ) (after : Places) (total : List ℕ) → length so_far ≡ chunk_count g → taken ≡ map low so_far →
      AreMade g tries who number (map rebuild_of chunks) before taken after total → (sums : List ℕ) × AreTakenAnew g tries who number chunks before so_far sums × (total ≡ map low sums)
  taken_anew [] number before taken so_far after total count is m = (so_far, refl, sym m.1 ∙ is)
  taken_anew (chunk ∷ chunks) number before taken so_far after total count is (shortages, over, rest) =
      let counts : List ℕ = took g tries who number (rebuild_job (rebuild_of chunk)) shortages (first_at before) (replicate (chunk_count g) 0) in
      let same : length counts ≡ length so_far = took_length g tries who number (rebuild_job (rebuild_of chunk)) shortages (first_at before) (replicate (chunk_count g) 0) ∙ length-replicate (chunk_count g) 0 ∙ sym count in
      let later = taken_anew chunks (number + 1) (ran g tries who number (rebuild_job (rebuild_of chunk)) shortages before).places (added_if (taken_of counts) taken) (added so_far counts) after total (added_length so_far counts same ∙ count)
      (ap (added_if (taken_of counts)) is ∙ if_added so_far counts same) rest in
      (later.0, (shortages, over, later.1), later.2)
