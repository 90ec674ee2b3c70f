-- Numbers below a bound that pass a test.
use Rattle.std.proofs.Common.{◌≡◌, ℕ, zero, suc, ◌+◌, ◌<◌, ◌≤◌, ◌⊎◌, Bool, true, false, refl, sym, ap, ◌∙◌, arith, inl, inr}
use Rattle.std.specs.Prelude.{cond}
use Rattle.std.specs.List.{range_with_len, prefix_len}
use Rattle.std.proofs.lemmas.Bool.{and_parts, and_from, cases_eq}
use Rattle.hist_rules.specs.CallsInOrder.{all_below}

pub below_all : (test : ℕ → Bool) (bound : ℕ) → ((k : ℕ) → k < bound → test k ≡ true) → all_below test bound ≡ true
below_all test zero h = refl
below_all test (suc bound) h = and_from (test bound) (all_below test bound) (h bound (omega arith)) (below_all test bound (λ k l. h k (omega (arith, l))))

pub below_each : (test : ℕ → Bool) (bound k : ℕ) → all_below test bound ≡ true → k < bound → test k ≡ true
below_each test zero k all l = absurd (omega (arith, l))
below_each test (suc bound) k all l =
    let parts = and_parts (test bound) (all_below test bound) all in
    step (cases_eq k bound) parts.0 (λ below. below_each test bound k parts.1 below)
  where
    step : ((k ≡ bound) ⊎ (k ≡ bound → ⊥)) → test bound ≡ true → (k < bound → test k ≡ true) → test k ≡ true
    step (inl same) here below = ap test same ∙ here
    step (inr other) here below = below (omega (arith, l, other))

-- a prefix of the numbers from s on
pub prefix_is : (test : ℕ → Bool) (s n m : ℕ) → m ≤ n → ((k : ℕ) → k < m → test (s + k) ≡ true) → ((m ≡ n) ⊎ (test (s + m) ≡ false)) → prefix_len test (range_with_len s n) ≡ m
prefix_is test s zero m le h end = omega (arith, le)
prefix_is test s (suc n) zero le h (inl same) = absurd (omega (arith, same))
prefix_is test s (suc n) zero le h (inr fails) =
    let here : s + 0 ≡ s = omega arith in
    ap (λ (b : Bool). cond b (1 + prefix_len test (range_with_len (s + 1) n)) 0) (ap test (sym here) ∙ fails)
prefix_is test s (suc n) (suc m) le h end =
    let here : s + 0 ≡ s = omega arith in
    let passes : test s ≡ true = ap test (sym here) ∙ h 0 (omega arith) in
    let shifted : (k : ℕ) → s + 1 + k ≡ s + suc k = λ k. omega arith in
    let rest = prefix_is test (s + 1) n m (omega (arith, le)) (λ k l. ap test (shifted k) ∙ h (suc k) (omega (arith, l))) (ending end) in
    let count : 1 + m ≡ suc m = omega arith in
    ap (λ (b : Bool). cond b (1 + prefix_len test (range_with_len (s + 1) n)) 0) passes ∙ ap (λ (k : ℕ). 1 + k) rest ∙ count
  where
    ending : ((suc m ≡ suc n) ⊎ (test (s + suc m) ≡ false)) → (m ≡ n) ⊎ (test (s + 1 + m) ≡ false)
    ending (inl same) = inl (omega (arith, same))
    ending (inr fails) = inr ((let shifted : s + 1 + m ≡ s + suc m = omega arith in ap test shifted) ∙ fails)

-- a prefix of the numbers from 0 on
pub prefix_at : (test : ℕ → Bool) (n m : ℕ) → m ≤ n → ((k : ℕ) → k < m → test k ≡ true) → ((m ≡ n) ⊎ (test m ≡ false)) → m ≡ prefix_len test (range_with_len 0 n)
prefix_at test n m le passes end = sym (prefix_is test 0 n m le (λ k l. ap test (from_zero k) ∙ passes k l) (ending end))
  where
    from_zero : (k : ℕ) → 0 + k ≡ k
    from_zero k = omega arith

    ending : ((m ≡ n) ⊎ (test m ≡ false)) → (m ≡ n) ⊎ (test (0 + m) ≡ false)
    ending (inl same) = inl same
    ending (inr fails) = inr (ap test (from_zero m) ∙ fails)
