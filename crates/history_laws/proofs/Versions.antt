-- One version by its number after standings and placements change.
use Rattle.std.proofs.Common.{◌≡◌, ◌≢◌, ◌⊎◌, ℕ, zero, suc, ◌<◌, false, nat_eq, List, [], ◌∷◌, get_or, zip, slice_get, Some, AllPairs, Contains, refl, sym, ap, subst, ◌∙◌, inl, inr, arith}
use Rattle.std.proofs.lemmas.Bool.{false≢true, cases_order, or_parts, eq-eqb, false_from_ne_true}
use Rattle.std.proofs.lemmas.Option.{same_Some, none-some, slice_get_within, get_or_from_slice_get}
use Rattle.store_map.specs.declared.placement.Placement.{Placement}
use Rattle.store_core.specs.Lists.{change_at, is_among}
use Rattle.store_core.specs.Directory.{Standing, Version}
use Rattle.store_core.specs.Look.{set_standing}
use Rattle.store_core.specs.Commit.{place_all}
use Rattle.store_core.proofs.Places.{slice_get-change_at}
use Rattle.run_laws.proofs.SoundLists.{at_contains, among, is_in}
use Rattle.run_laws.proofs.SoundVersions.{change_here, given, set_at}
use Rattle.history_laws.specs.StandsFor.{placed_with, superseded}

-- ---- lists in which no number stands twice
abbrev pub IsOnce : List ℕ → Type 0
IsOnce ns = (i j n : ℕ) → slice_get ns i ≡ Some n → slice_get ns j ≡ Some n → i ≡ j

pub once_from_pairs : (ns : List ℕ) → AllPairs (λ v w. v ≢ w) ns → IsOnce ns
once_from_pairs ns differ i j n at_i at_j = by (cases_order i j)
  where
    same : (k : ℕ) → slice_get ns k ≡ Some n → get_or ns k n ≡ n
    same k e = get_or_from_slice_get ns k n n e

    by : (i ≡ j) ⊎ ((i < j) ⊎ (j < i)) → i ≡ j
    by (inl e) = e
    by (inr (inl less)) = absurd (differ i j n less (slice_get_within ns j n at_j) (same i at_i ∙ sym (same j at_j)))
    by (inr (inr more)) = absurd (differ j i n more (slice_get_within ns i n at_i) (same j at_j ∙ sym (same i at_i)))

once_tail : (m : ℕ) (ms : List ℕ) → IsOnce (m ∷ ms) → IsOnce ms
once_tail m ms once i j n at_i at_j = let e : suc i ≡ suc j = once (suc i) (suc j) n at_i at_j in omega (arith, e)

head_apart : (m : ℕ) (ms : List ℕ) → IsOnce (m ∷ ms) → (k n : ℕ) → slice_get ms k ≡ Some n → n ≡ m → ⊥
head_apart m ms once k n at same = let e : 0 ≡ suc k = once 0 (suc k) n (ap Some (sym same)) at in omega (arith, e)

head_not_among : (m : ℕ) (ms : List ℕ) → IsOnce (m ∷ ms) → is_among m ms ≡ false
head_not_among m ms once =
    false_from_ne_true (is_among m ms)
    (λ e.
    let there : (k : ℕ) × (slice_get ms k ≡ Some m) = at_contains ms m (is_in m ms e) in
    head_apart m ms once there.0 m there.1 refl)

-- a number that isn't an element isn't among them
pub not_there : (n : ℕ) (ns : List ℕ) → (Contains ns n → ⊥) → is_among n ns ≡ false
not_there n ns none = false_from_ne_true (is_among n ns) (λ e. none (is_in n ns e))

-- ---- standings
-- another version stays
pub set_other : (standing : Standing) (numbers : List ℕ) (versions : List Version) (n : ℕ) → is_among n numbers ≡ false → slice_get (set_standing standing numbers versions) n ≡ slice_get versions n
set_other standing [] versions n none = refl
set_other standing (m ∷ ms) versions n none =
    let parts : (nat_eq n m ≡ false) × (is_among n ms ≡ false) = or_parts (nat_eq n m) (is_among n ms) none in
    set_other standing ms (change_at m (λ version. record version { standing = standing }) versions) n parts.1
    ∙ slice_get-change_at m n (λ version. record version { standing = standing }) versions (λ e. false≢true (sym parts.0 ∙ eq-eqb n m e))

-- one of the numbers is superseded
pub set_becomes : (numbers : List ℕ) (versions : List Version) (n : ℕ) (version : Version) → slice_get versions n ≡ Some version → Contains numbers n
    → slice_get (set_standing Standing.Superseded numbers versions) n ≡ Some (superseded version)
set_becomes numbers versions n version e c = set_at Standing.Superseded numbers versions n version e ∙ ap (λ b. Some (given Standing.Superseded b version)) (among n numbers c)

-- ---- rows of placements
-- a version that wasn't drawn stays
pub placed_other : (drawn : List ℕ) (rows : List (List Placement)) (versions : List Version) (n : ℕ) → is_among n drawn ≡ false → slice_get (place_all (zip drawn rows) versions) n ≡ slice_get versions n
placed_other [] rows versions n none = refl
placed_other (m ∷ ms) [] versions n none = refl
placed_other (m ∷ ms) (r ∷ rs) versions n none =
    let parts : (nat_eq n m ≡ false) × (is_among n ms ≡ false) = or_parts (nat_eq n m) (is_among n ms) none in
    placed_other ms rs (change_at m (placed_with r) versions) n parts.1
    ∙ slice_get-change_at m n (placed_with r) versions (λ e. false≢true (sym parts.0 ∙ eq-eqb n m e))

-- the version at a place of those that were drawn gets the row at that place
pub placed_here : (drawn : List ℕ) (rows : List (List Placement)) (versions : List Version) → IsOnce drawn → (k n : ℕ) (row : List Placement) (version : Version)
    → slice_get drawn k ≡ Some n → slice_get rows k ≡ Some row → slice_get versions n ≡ Some version → slice_get (place_all (zip drawn rows) versions) n ≡ Some (placed_with row version)
placed_here [] rows versions once k n row version at_drawn at_row was = absurd (none-some n at_drawn)
placed_here (m ∷ ms) [] versions once k n row version at_drawn at_row was = absurd (none-some row at_row)
placed_here (m ∷ ms) (r ∷ rs) versions once zero n row version at_drawn at_row was =
    let same : m ≡ n = same_Some m n at_drawn in
    placed_other ms rs (change_at m (placed_with r) versions) n (subst (λ i. is_among i ms ≡ false) same (head_not_among m ms once))
    ∙ subst (λ i. slice_get (change_at i (placed_with r) versions) n ≡ Some (placed_with r version)) (sym same) (change_here n (placed_with r) versions version was)
    ∙ ap (λ x. Some (placed_with x version)) (same_Some r row at_row)
placed_here (m ∷ ms) (r ∷ rs) versions once (suc k) n row version at_drawn at_row was =
    placed_here ms rs (change_at m (placed_with r) versions) (once_tail m ms once) k n row version at_drawn at_row
    (slice_get-change_at m n (placed_with r) versions (head_apart m ms once k n at_drawn) ∙ was)
