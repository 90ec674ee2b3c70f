-- Lists that stand side by side, with one more entry on each.
use Rattle.std.proofs.Common.{◌≡◌, ◌⊎◌, ℕ, zero, suc, List, [], ◌∷◌, ◌++◌, length, slice_get, Option, None, Some, is_some, unwrap_or, option_map, refl, sym, ap, inl, inr, arith, true≢false}
use Rattle.store_map.specs.declared.call.Call.{Call}
use Rattle.call_machine.specs.Kinds.{Asked}

pub none_some : {A : Type 0} (x : A) → None ≡ Some x → ⊥
none_some x e = absurd (true≢false (sym (ap is_some e)))

pub some_same : {A : Type 0} (x y : A) → Some x ≡ Some y → x ≡ y
some_same x y e = ap (λ o. unwrap_or o x) e

-- what stands at a place after one more entry stood there before, or it is that entry
module _ {A : Type 0} {B : Type 0} {C : Type 0} (f : A → B) (x : A) (y : C) (b : B) (c : C) where
  pub both_pushed : (xs : List A) (ys : List C) (n : ℕ) → length ys ≡ length xs → option_map f (slice_get (xs ++ x ∷ []) n) ≡ Some b → slice_get (ys ++ y ∷ []) n ≡ Some c
      → ((option_map f (slice_get xs n) ≡ Some b) × (slice_get ys n ≡ Some c)) ⊎ ((n ≡ length xs) × (f x ≡ b) × (y ≡ c))
  both_pushed [] [] zero same e u = inr (refl, some_same (f x) b e, some_same y c u)
  both_pushed [] [] (suc n) same e u = absurd (none_some b e)
  both_pushed [] (z ∷ ys) n same e u = absurd (omega (arith, same))
  both_pushed (z ∷ xs) [] n same e u = absurd (omega (arith, same))
  both_pushed (z ∷ xs) (w ∷ ys) zero same e u = inl (e, u)
  both_pushed (z ∷ xs) (w ∷ ys) (suc n) same e u = by (both_pushed xs ys n (omega (arith, same)) e u)
    where
      by : ((option_map f (slice_get xs n) ≡ Some b) × (slice_get ys n ≡ Some c)) ⊎ ((n ≡ length xs) × (f x ≡ b) × (y ≡ c))
          → ((option_map f (slice_get xs n) ≡ Some b) × (slice_get ys n ≡ Some c)) ⊎ ((suc n ≡ suc (length xs)) × (f x ≡ b) × (y ≡ c))
      by (inl h) = inl h
      by (inr h) = inr (ap suc h.0, h.1, h.2)

-- what is asked by a client is its call
pub client_call : (o : Option Call) (asked : Asked) → option_map Asked.OfClient o ≡ Some asked → (call : Call) × (o ≡ Some call) × (asked ≡ Asked.OfClient call)
client_call None asked e = absurd (none_some asked e)
client_call (Some call) asked e = (call, refl, sym (some_same (Asked.OfClient call) asked e))
