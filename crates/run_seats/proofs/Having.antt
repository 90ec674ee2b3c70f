-- Whether one of some actors has a step.
use Rattle.std.proofs.Common.{◌≡◌, ℕ, zero, suc, ◌+◌, ◌<◌, ◌≤◌, Bool, true, false, List, [], ◌∷◌, length, get_or, map, set, refl, sym, ap, subst, ◌∙◌, arith, ◌⊎◌, inl, inr}
use Rattle.std.proofs.lemmas.List.Folds.{list_any_at, list_any_none}
use Rattle.std.specs.List.{list_any}

-- what stands at a place within a list is what is read there, whatever is read past its end
pub read_within : {X : Type 0} (xs : List X) (i : ℕ) (d e : X) → i < length xs → get_or xs i d ≡ get_or xs i e
read_within [] i d e low = absurd (omega (arith, low))
read_within (x ∷ xs) zero d e low = refl
read_within (x ∷ xs) (suc i) d e low = read_within xs i d e (omega (arith, low))

-- a number below the next one is below this one, or it is this one
pub below_or_same : (i m : ℕ) → i < m + 1 → (i < m) ⊎ (i ≡ m)
below_or_same zero zero low = inr refl
below_or_same zero (suc m) low = inl (omega arith)
below_or_same (suc i) zero low = absurd (omega (arith, low))
below_or_same (suc i) (suc m) low = more (below_or_same i m (omega (arith, low)))
  where
    more : (i < m) ⊎ (i ≡ m) → (suc i < suc m) ⊎ (suc i ≡ suc m)
    more (inl under) = inl (omega (arith, under))
    more (inr same) = inr (ap suc same)

module _ {X : Type 0} (h : X → Bool) (xs : List X) (n : ℕ) where
  pub one_has : (d : X) → n < length xs → h (get_or xs n d) ≡ true → true ≡ list_any h xs
  one_has d less holds = sym (list_any_at h xs n (get_or xs n d) less (ap h (read_within xs n (get_or xs n d) d less) ∙ holds))

  pub none_more : ((k : ℕ) (d : X) → k < n → h (get_or xs k d) ≡ false) → (d : X) → n < length xs → h (get_or xs n d) ≡ false → (k : ℕ) (e : X) → k < n + 1 → h (get_or xs k e) ≡ false
  none_more before d less fails k e low = by (below_or_same k n low)
    where
      by : (k < n) ⊎ (k ≡ n) → h (get_or xs k e) ≡ false
      by (inl under) = before k e under
      by (inr same) = subst (λ (i : ℕ). h (get_or xs i e) ≡ false) (sym same) (ap h (read_within xs n e d less) ∙ fails)

  pub none_has : ((k : ℕ) (d : X) → k < n → h (get_or xs k d) ≡ false) → length xs ≤ n → false ≡ list_any h xs
  none_has before all = sym (list_any_none h xs (λ k d less. before k d (omega (arith, less, all))))

-- a change of an element that keeps what is read of it
pub same_map : {X Y : Type 0} (f : X → Y) (xs : List X) (i : ℕ) (now was : X) → was ≡ get_or xs i was → f now ≡ f was → map f (set xs i now) ≡ map f xs
same_map f [] i now was read same = refl
same_map f (x ∷ xs) zero now was read same = ap (λ y. y ∷ map f xs) (same ∙ ap f read)
same_map f (x ∷ xs) (suc i) now was read same = ap (λ l. f x ∷ l) (same_map f xs i now was read same)
