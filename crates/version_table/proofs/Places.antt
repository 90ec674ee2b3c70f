-- The places at which a test holds, after one element was changed.
use Rattle.std.proofs.Common.{◌≡◌, ℕ, zero, suc, ◌+◌, Bool, true, false, cond, List, [], ◌∷◌, Some, slice_get, refl, sym, ap, subst, ◌∙◌, arith}
use Rattle.std.proofs.lemmas.Option.{same_Some, none-some}
use Rattle.std.proofs.lemmas.List.Sorted.{IsPermutation-refl, IsPermutation-cons, IsPermutation-trans, IsPermutation-sym, IsPermutation-middle}
use Rattle.std.specs.List.Sorted.{IsPermutation}
use Rattle.store_core.specs.Lists.{change_at}
use Rattle.version_table.specs.Places.{places}

module _ {X : Type 0} (test : X → Bool) (f : X → X) where
  -- nothing changes where the element passes as before
  pub places-same : (n i : ℕ) (xs : List X) (x : X) → slice_get xs i ≡ Some x → test (f x) ≡ test x → places test n (change_at i f xs) ≡ places test n xs
  places-same n i [] x e same = refl
  places-same n zero (y ∷ xs) x e same =
      ap (λ b. cond b (n ∷ places test (n + 1) xs) (places test (n + 1) xs))
      (subst (λ (z : X). test (f z) ≡ test z) (sym (same_Some y x e)) same)
  places-same n (suc i) (y ∷ xs) x e same = ap (λ rest. cond (test y) (n ∷ rest) rest) (places-same (n + 1) i xs x e same)

  -- one more where it passes only now
  pub places-more : (n i : ℕ) (xs : List X) (x : X) → slice_get xs i ≡ Some x → test x ≡ false → test (f x) ≡ true
      → IsPermutation ((n + i) ∷ places test n xs) (places test n (change_at i f xs))
  places-more n i [] x e before after = absurd (none-some x e)
  places-more n zero (y ∷ xs) x e before after =
      let here : y ≡ x = same_Some y x e in
      let rest : List ℕ = places test (n + 1) xs in
      let old : places test n (y ∷ xs) ≡ rest = ap (λ b. cond b (n ∷ rest) rest) (ap test here ∙ before) in
      let new : places test n (f y ∷ xs) ≡ n ∷ rest = ap (λ b. cond b (n ∷ rest) rest) (ap (λ z. test (f z)) here ∙ after) in
      let first : n + 0 ≡ n = omega arith in
      subst (λ (zs : List ℕ). IsPermutation zs (places test n (f y ∷ xs))) (λ j. sym first j ∷ sym old j)
      (subst (λ (zs : List ℕ). IsPermutation (n ∷ rest) zs) (sym new) (IsPermutation-refl (n ∷ rest)))
  places-more n (suc i) (y ∷ xs) x e before after = by (test y) (places-more (n + 1) i xs x e before after)
    where
      later : n + 1 + i ≡ n + suc i
      later = omega arith

      by : (b : Bool) → IsPermutation ((n + 1 + i) ∷ places test (n + 1) xs) (places test (n + 1) (change_at i f xs))
          → IsPermutation ((n + suc i) ∷ cond b (n ∷ places test (n + 1) xs) (places test (n + 1) xs)) (cond b (n ∷ places test (n + 1) (change_at i f xs)) (places test (n + 1) (change_at i f xs)))
      by false rest = subst (λ (k : ℕ). IsPermutation (k ∷ places test (n + 1) xs) (places test (n + 1) (change_at i f xs))) later rest
      by true rest =
          let p : List ℕ = places test (n + 1) xs in
          let q : List ℕ = places test (n + 1) (change_at i f xs) in
          let swapped : IsPermutation ((n + suc i) ∷ n ∷ p) (n ∷ (n + suc i) ∷ p) = IsPermutation-sym (n ∷ (n + suc i) ∷ p) ((n + suc i) ∷ n ∷ p) (IsPermutation-middle (n ∷ []) (n + suc i) p) in
          let kept : IsPermutation ((n + suc i) ∷ p) q = subst (λ (k : ℕ). IsPermutation (k ∷ p) q) later rest in
          IsPermutation-trans ((n + suc i) ∷ n ∷ p) (n ∷ (n + suc i) ∷ p) (n ∷ q) swapped (IsPermutation-cons n ((n + suc i) ∷ p) q kept)
