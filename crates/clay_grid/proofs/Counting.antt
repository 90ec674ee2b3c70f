-- How many numbers pass a test.
use Rattle.std.proofs.Common.{◌≡◌, ℕ, zero, suc, ◌+◌, ◌*◌, ◌/◌, ◌%◌, ◌<◌, ◌≤◌, Bool, true, false, cond, ◌&&◌, eqb, refl, sym, ap, ◌∙◌, inl, inr, arith, zero-add, add-zero}
use Rattle.std.proofs.lemmas.Bool.{cases_eq, eq-eqb, ne_eqb}
use Rattle.std.proofs.lemmas.Nat.{div_below, div-mul-add, mod-mul-add}
use Rattle.std.proofs.Math.Nat.{mod-eq_of_lt, add-mul-div_right, add-mul-mod_self_right}
use Rattle.std.proofs.Math.Bool.{and-true, and-false}
use Rattle.clay_grid.specs.Score.{count_below}

pub count_below_same : (n : ℕ) (f g : ℕ → Bool) → ((i : ℕ) → i < n → f i ≡ g i) → count_below n f ≡ count_below n g
count_below_same zero f g each = refl
count_below_same (suc n) f g each =
    let rest = count_below_same n f g (λ i h. each i (omega arith)) in
    let last = each n (omega arith) in
    λ k. rest k + cond (last k) 1 0

pub count_below-le : (n : ℕ) (f : ℕ → Bool) → count_below n f ≤ n
count_below-le zero f = omega arith
count_below-le (suc n) f =
    let rest = count_below-le n f in
    let one : cond (f n) 1 0 ≤ 1 = elim (f n) as (λ b. cond b 1 0 ≤ 1) [ true ↦ omega arith | false ↦ omega arith ] in
    omega arith

pub count_below_false : (n : ℕ) → count_below n (λ i. false) ≡ 0
count_below_false zero = refl
count_below_false (suc n) = let rest = count_below_false n in omega arith

pub count_below_true : (n : ℕ) → count_below n (λ i. true) ≡ n
count_below_true zero = refl
count_below_true (suc n) = let rest = count_below_true n in omega arith

pub count_below-add : (a b : ℕ) (f : ℕ → Bool) → count_below (a + b) f ≡ count_below a f + count_below b (λ i. f (a + i))
count_below-add a zero f = let none : a + 0 ≡ a = omega arith in ap (λ n. count_below n f) none ∙ omega arith
count_below-add a (suc b) f =
    let more : a + suc b ≡ suc (a + b) = omega arith in
    let rest = count_below-add a b f in
    ap (λ n. count_below n f) more ∙ omega arith

-- at most one number equals d
count_below_none : (n d : ℕ) (f : ℕ → Bool) → n ≤ d → count_below n (λ x. f x && eqb d x) ≡ 0
count_below_none zero d f h = refl
count_below_none (suc n) d f h =
    let rest = count_below_none n d f (omega arith) in
    let last : (f n && eqb d n) ≡ false = ap (λ b. f n && b) (ne_eqb d n (λ e. omega arith)) ∙ and-false (f n) in
    λ i. rest i + cond (last i) 1 0

pub count_below_one : (n d : ℕ) (f : ℕ → Bool) → d < n → count_below n (λ x. f x && eqb d x) ≡ cond (f d) 1 0
count_below_one zero d f h = absurd (omega arith)
count_below_one (suc n) d f h =
    elim (cases_eq d n) [
      | inl same ↦
          let rest = count_below_none n d f (omega (arith, same)) in
          let last : (f n && eqb d n) ≡ f d = ap (λ b. f n && b) (eq-eqb d n same) ∙ and-true (f n) ∙ ap f (sym same) in
          (λ i. rest i + cond (last i) 1 0) ∙ zero-add (cond (f d) 1 0)
      | inr other ↦
          let rest = count_below_one n d f (omega (arith, other)) in
          let last : (f n && eqb d n) ≡ false = ap (λ b. f n && b) (ne_eqb d n other) ∙ and-false (f n) in
          (λ i. rest i + cond (last i) 1 0) ∙ add-zero (cond (f d) 1 0)
    ]

-- in each column one node stands in the row of the column's digit
pub count_below_columns : (q t : ℕ) (f : ℕ → Bool) (digit : ℕ → ℕ) → ((y : ℕ) → y < t → digit y < q) → count_below (q * t) (λ i. f i && eqb (digit (i / q)) (i % q)) ≡ count_below t (λ y. f (y * q + digit y))
count_below_columns q zero f digit below = let none : q * 0 ≡ 0 = omega arith in ap (λ n. count_below n (λ i. f i && eqb (digit (i / q)) (i % q))) none
count_below_columns q (suc t) f digit below =
    let rest = count_below_columns q t f digit (λ y h. below y (omega arith)) in
    let more : q * suc t ≡ t * q + q = omega arith in
    let turned : t * q ≡ q * t = omega arith in
    let column : count_below q (λ x. f (t * q + x) && eqb (digit ((t * q + x) / q)) ((t * q + x) % q)) ≡ cond (f (t * q + digit t)) 1 0 =
    count_below_same q _ (λ x. f (t * q + x) && eqb (digit t) x)
    (λ x h. λ i. f (t * q + x) && eqb (digit (div-mul-add t q x h i)) (mod-mul-add t q x h i))
    ∙ count_below_one q (digit t) (λ x. f (t * q + x)) (below t (omega arith)) in
    ap (λ n. count_below n (λ i. f i && eqb (digit (i / q)) (i % q))) more
    ∙ count_below-add (t * q) q (λ i. f i && eqb (digit (i / q)) (i % q))
    ∙ (λ i. count_below (turned i) (λ j. f j && eqb (digit (j / q)) (j % q)) + column i)
    ∙ ap (λ n. n + cond (f (t * q + digit t)) 1 0) rest

-- of the numbers below r * s, those whose quotient by s is x
count_below_other_rows : (s r x : ℕ) → r ≤ x → count_below (r * s) (λ i. eqb (i / s) x) ≡ 0
count_below_other_rows s zero x h = let none : 0 * s ≡ 0 = omega arith in ap (λ n. count_below n (λ i. eqb (i / s) x)) none
count_below_other_rows s (suc r) x h =
    let more : suc r * s ≡ r * s + s = omega arith in
    let rest = count_below_other_rows s r x (omega arith) in
    let row : count_below s (λ i. eqb ((r * s + i) / s) x) ≡ 0 =
    count_below_same s _ (λ i. false) (λ i below. ap (λ d. eqb d x) (div-mul-add r s i below) ∙ ne_eqb r x (λ e. omega arith)) ∙ count_below_false s in
    ap (λ n. count_below n (λ i. eqb (i / s) x)) more ∙ count_below-add (r * s) s (λ i. eqb (i / s) x) ∙ omega arith

count_below_row : (s r x : ℕ) → x < r → count_below (r * s) (λ i. eqb (i / s) x) ≡ s
count_below_row s zero x h = absurd (omega arith)
count_below_row s (suc r) x h =
    let more : suc r * s ≡ r * s + s = omega arith in
    let split = ap (λ n. count_below n (λ i. eqb (i / s) x)) more ∙ count_below-add (r * s) s (λ i. eqb (i / s) x) in
    elim (cases_eq r x) [
      | inl same ↦
          let rest = count_below_other_rows s r x (omega (arith, same)) in
          let row : count_below s (λ i. eqb ((r * s + i) / s) x) ≡ s =
          count_below_same s _ (λ i. true) (λ i below. ap (λ d. eqb d x) (div-mul-add r s i below) ∙ eq-eqb r x same) ∙ count_below_true s in
          split ∙ omega arith
      | inr other ↦
          let rest = count_below_row s r x (omega (arith, other)) in
          let row : count_below s (λ i. eqb ((r * s + i) / s) x) ≡ 0 =
          count_below_same s _ (λ i. false) (λ i below. ap (λ d. eqb d x) (div-mul-add r s i below) ∙ ne_eqb r x other) ∙ count_below_false s in
          split ∙ omega arith
    ]

-- of h blocks of q * s numbers, each has s numbers with the digit x at the place that counts s
pub count_below_digit : (q s x h : ℕ) → 0 < s → x < q → count_below (h * (q * s)) (λ z. eqb (z / s % q) x) ≡ h * s
count_below_digit q s x zero pos hx = let none : 0 * (q * s) ≡ 0 = omega arith in ap (λ n. count_below n (λ z. eqb (z / s % q) x)) none ∙ omega arith
count_below_digit q s x (suc h) pos hx =
    let more : suc h * (q * s) ≡ h * (q * s) + q * s = omega arith in
    let rest = count_below_digit q s x h pos hx in
    let block : count_below (q * s) (λ i. eqb ((h * (q * s) + i) / s % q) x) ≡ s =
    count_below_same (q * s) _ (λ i. eqb (i / s) x) (λ i below. ap (λ d. eqb d x) (block_digit i below)) ∙ count_below_row s q x hx in
    ap (λ n. count_below n (λ z. eqb (z / s % q) x)) more ∙ count_below-add (h * (q * s)) (q * s) (λ z. eqb (z / s % q) x) ∙ omega arith
  where
    block_digit : (i : ℕ) → i < q * s → (h * (q * s) + i) / s % q ≡ i / s
    block_digit i below =
        let turned : h * (q * s) + i ≡ i + h * q * s = omega arith in
        let quotient : (h * (q * s) + i) / s ≡ i / s + h * q = ap (λ n. n / s) turned ∙ add-mul-div_right i (h * q) pos in
        ap (λ n. n % q) quotient ∙ add-mul-mod_self_right (i / s) h q ∙ mod-eq_of_lt (div_below i s q pos below)
