-- Lost chunks that are made anew one after another.
use Rattle.std.proofs.Common.{◌≡◌, ℕ, zero, suc, ◌+◌, ◌<◌, ◌≤◌, ◌-◌, ◌^◌, Bool, true, false, List, [], ◌∷◌, ◌++◌, length, map, filter, take, drop, set, get_or, sym, ap, ◌∙◌, arith, nat_le, if◌then◌else◌}
use Rattle.std.proofs.Math.Numerals.{add-one}
use Rattle.std.proofs.lemmas.List.{length-map}
use Rattle.session_rules.specs.declared.session_answer.LostChunk.{LostChunk}
use Rattle.store_map.specs.declared.call.Rebuild.{Rebuild as RebuildCall}
use Rattle.session_rules.specs.AloneHeals.{rebuild_of}
use Rattle.session_store.specs.LostStripes.{beside, healable}
use Rattle.session_store.specs.Healing.{low, added_low}

-- ---- counts that were added to
abbrev added_to : List ℕ → List ℕ → ℕ → List ℕ
added_to xs ys i = added_low (take i xs) (take i ys) ++ drop i xs

added_next : (xs ys : List ℕ) (i r : ℕ) → length ys ≡ length xs → i < length xs → r ≡ low (get_or (added_to xs ys i) i 0 + get_or ys i 0) → set (added_to xs ys i) i r ≡ added_to xs ys (suc i)
added_next [] ys i r same less is = absurd (omega arith)
added_next (x ∷ xs) [] i r same less is = absurd (cc (same))
added_next (x ∷ xs) (y ∷ ys) zero r same less is = ap (λ z. z ∷ xs) is
added_next (x ∷ xs) (y ∷ ys) (suc i) r same less is = ap (λ l. low (x + y) ∷ l) (added_next xs ys i r (let e : suc (length ys) ≡ suc (length xs) = same in omega (arith, e)) (omega (arith, less)) is)

pub low_more : (xs ys taken : List ℕ) (i r : ℕ) → length ys ≡ length xs → i < length xs → taken ≡ added_to xs ys i → r ≡ low (get_or taken i 0 + get_or ys i 0) → set taken i r ≡ added_to xs ys (i + 1)
low_more xs ys taken i r same less so_far is =
    ap (λ l. set l i r) so_far ∙ added_next xs ys i r same less (is ∙ ap (λ l. low (get_or l i 0 + get_or ys i 0)) so_far) ∙ ap (added_to xs ys) (sym (add-one i))

-- ---- no more are chosen than are lost
fewer_chosen : (P : LostChunk → Bool) (lost : List LostChunk) → length (filter P lost) ≤ length lost
fewer_chosen P [] = omega arith
fewer_chosen P (chunk ∷ lost) = by (P chunk) (fewer_chosen P lost)
  where
    by : (b : Bool) → length (filter P lost) ≤ length lost → length (if b then chunk ∷ filter P lost else filter P lost) ≤ length (chunk ∷ lost)
    by true rest = omega (arith, rest)
    by false rest = omega (arith, rest)

pub few_healable : (parity next : ℕ) (lost : List LostChunk) (chunks : List RebuildCall) → chunks ≡ map rebuild_of (healable parity lost) → next + length lost < 2 ^ 32 → next + length chunks < 2 ^ 32
few_healable parity next lost chunks are less =
    let same : length chunks ≡ length (healable parity lost) = ap (λ (l : List RebuildCall). length l) are ∙ length-map (healable parity lost) rebuild_of in
    let fewer : length (healable parity lost) ≤ length lost = fewer_chosen (λ chunk. nat_le (beside lost chunk) parity) lost in
    omega (arith, same, fewer, less)
