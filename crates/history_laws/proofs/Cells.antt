-- Cells of a list of numbers of which some are changed, each once.
use Rattle.std.proofs.Common.{◌≡◌, ◌≢◌, ◌⊎◌, ℕ, zero, suc, ◌+◌, ◌<◌, ◌≤◌, Bool, true, false, ◌||◌, cond, nat_eq, List, [], ◌∷◌, length, filter, replicate, get_or, inl, inr, refl, sym, ap, subst, ◌∙◌, arith, true≢false}
use Rattle.std.proofs.lemmas.Bool.{cases_eq, eqb-true, eq-eqb}
use Rattle.std.specs.List.{range_with_len}
use Rattle.store_core.specs.Lists.{change_at, is_among}

-- each of these cells is changed, one after another
abbrev pub taken_from : (ℕ → ℕ → ℕ) → List ℕ → List ℕ → List ℕ
taken_from each [] takes = takes
taken_from each (server ∷ more) takes = taken_from each more (change_at server (each server) takes)

number_here : (i : ℕ) (f : ℕ → ℕ) (xs : List ℕ) → i < length xs → get_or (change_at i f xs) i 0 ≡ f (get_or xs i 0)
number_here i f [] h = absurd (omega (arith, h))
number_here zero f (x ∷ xs) h = refl
number_here (suc i) f (x ∷ xs) h = number_here i f xs (omega (arith, h))

number_there : (i j : ℕ) (f : ℕ → ℕ) (xs : List ℕ) → (i ≡ j → ⊥) → get_or (change_at i f xs) j 0 ≡ get_or xs j 0
number_there i j f [] differ = refl
number_there zero zero f (x ∷ xs) differ = absurd (differ refl)
number_there zero (suc j) f (x ∷ xs) differ = refl
number_there (suc i) zero f (x ∷ xs) differ = refl
number_there (suc i) (suc j) f (x ∷ xs) differ = number_there i j f xs (λ e. differ (ap suc e))

length_changed : (i : ℕ) (f : ℕ → ℕ) (xs : List ℕ) → length (change_at i f xs) ≡ length xs
length_changed i f [] = refl
length_changed zero f (x ∷ xs) = refl
length_changed (suc i) f (x ∷ xs) = ap suc (length_changed i f xs)

module _ (each : ℕ → ℕ → ℕ) (p : ℕ → Bool) where
  abbrev some_of : ℕ → ℕ → List ℕ
  some_of a k = filter p (range_with_len a k)

  abbrev Stays : ℕ → ℕ → ℕ → Type 0
  Stays a k j = (more : List ℕ) → (j < a + 1) ⊎ (p j ≡ false) → get_or (taken_from each (some_of (a + 1) k) more) j 0 ≡ get_or more j 0

  abbrev Changes : ℕ → ℕ → ℕ → Type 0
  Changes a k j = (more : List ℕ) → a + 1 ≤ j → j < length more → get_or (taken_from each (some_of (a + 1) k) more) j 0 ≡ each j (get_or more j 0)

  -- one that isn't among them stays
  pub cell_stays : (a k j : ℕ) (takes : List ℕ) → (j < a) ⊎ (p j ≡ false) → get_or (taken_from each (some_of a k) takes) j 0 ≡ get_or takes j 0
  cell_stays a zero j takes h = refl
  cell_stays a (suc k) j takes h = by (cell_stays (a + 1) k j) (p a) refl
    where
      apart : p a ≡ true → (a ≡ j → ⊥)
      apart e same = or h
        where
          or : (j < a) ⊎ (p j ≡ false) → ⊥
          or (inl low) = omega (arith, low, same)
          or (inr off) = true≢false (sym e ∙ ap p same ∙ off)

      later : (j < a) ⊎ (p j ≡ false) → (j < a + 1) ⊎ (p j ≡ false)
      later (inl low) = inl (omega (arith, low))
      later (inr off) = inr off

      by : Stays a k j → (b : Bool) → p a ≡ b → get_or (taken_from each (cond {A = List ℕ} b (a ∷ some_of (a + 1) k) (some_of (a + 1) k)) takes) j 0 ≡ get_or takes j 0
      by rest true e = rest (change_at a (each a) takes) (later h) ∙ number_there a j (each a) takes (apart e)
      by rest false e = rest takes (later h)

  -- one that is among them is changed once
  pub cell_changes : (a k j : ℕ) (takes : List ℕ) → a ≤ j → j < a + k → j < length takes → p j ≡ true → get_or (taken_from each (some_of a k) takes) j 0 ≡ each j (get_or takes j 0)
  cell_changes a zero j takes low high within on = absurd (omega (arith, low, high))
  cell_changes a (suc k) j takes low high within on = by (λ more further within_more. cell_changes (a + 1) k j more further (omega (arith, high)) within_more on) (cases_eq a j)
    where
      further : (a ≡ j → ⊥) → a + 1 ≤ j
      further differ = let apart : a ≢ j = differ in omega (arith, low, apart)

      here : a ≡ j → (b : Bool) → p a ≡ b → get_or (taken_from each (cond {A = List ℕ} b (a ∷ some_of (a + 1) k) (some_of (a + 1) k)) takes) j 0 ≡ each j (get_or takes j 0)
      here same true e =
          cell_stays (a + 1) k j (change_at a (each a) takes) (inl (omega (arith, same)))
          ∙ subst (λ n. get_or (change_at n (each n) takes) j 0 ≡ each j (get_or takes j 0)) (sym same) (number_here j (each j) takes within)
      here same false e = absurd (true≢false (sym on ∙ ap p (sym same) ∙ e))

      there : Changes a k j → (a ≡ j → ⊥) → (b : Bool) → get_or (taken_from each (cond {A = List ℕ} b (a ∷ some_of (a + 1) k) (some_of (a + 1) k)) takes) j 0 ≡ each j (get_or takes j 0)
      there rest differ true =
          rest (change_at a (each a) takes) (further differ) (subst (λ n. j < n) (sym (length_changed a (each a) takes)) within)
          ∙ ap (each j) (number_there a j (each a) takes differ)
      there rest differ false = rest takes (further differ) within

      by : Changes a k j → (a ≡ j) ⊎ (a ≡ j → ⊥) → get_or (taken_from each (some_of a (suc k)) takes) j 0 ≡ each j (get_or takes j 0)
      by rest (inl same) = here same (p a) refl
      by rest (inr differ) = there rest differ (p a)

-- no cell of zeros is another number
pub zero_cell : (n j : ℕ) → get_or (replicate {A = ℕ} n 0) j 0 ≡ 0
zero_cell zero j = refl
zero_cell (suc n) zero = refl
zero_cell (suc n) (suc j) = zero_cell n j

-- ---- by whether a cell is among them
or_false : (a b : Bool) → (a || b) ≡ false → (a ≡ false) × (b ≡ false)
or_false true b e = absurd (true≢false e)
or_false false b e = (refl, e)

or_true : (a b : Bool) → (a || b) ≡ true → (a ≡ true) ⊎ (b ≡ true)
or_true true b e = inl refl
or_true false b e = inr e

pub length_taken : (each : ℕ → ℕ → ℕ) (servers takes : List ℕ) → length (taken_from each servers takes) ≡ length takes
length_taken each [] takes = refl
length_taken each (server ∷ more) takes = length_taken each more (change_at server (each server) takes) ∙ length_changed server (each server) takes

pub off_stays : (each : ℕ → ℕ → ℕ) (servers : List ℕ) (j : ℕ) (takes : List ℕ) → is_among j servers ≡ false → get_or (taken_from each servers takes) j 0 ≡ get_or takes j 0
off_stays each [] j takes off = refl
off_stays each (server ∷ more) j takes off =
    let both : (nat_eq j server ≡ false) × (is_among j more ≡ false) = or_false (nat_eq j server) (is_among j more) off in
    off_stays each more j (change_at server (each server) takes) both.1 ∙ number_there server j (each server) takes (λ e. true≢false (sym (eq-eqb j server (sym e)) ∙ both.0))

module _ (p : ℕ → Bool) where
  record Among (a k j : ℕ) : Type 0 where
    low : a ≤ j
    high : j < a + k
    on : p j ≡ true

  among_so : (a k j : ℕ) → is_among j (filter p (range_with_len a k)) ≡ true → Among a k j
  among_so a zero j h = absurd (true≢false (sym h))
  among_so a (suc k) j h = by (among_so (a + 1) k j) (p a) refl h
    where
      wider : Among (a + 1) k j → Among a (suc k) j
      wider m = record { low = omega (arith, m.low); high = omega (arith, m.high); on = m.on }

      by : (is_among j (filter p (range_with_len (a + 1) k)) ≡ true → Among (a + 1) k j) → (b : Bool) → p a ≡ b
          → is_among j (cond {A = List ℕ} b (a ∷ filter p (range_with_len (a + 1) k)) (filter p (range_with_len (a + 1) k))) ≡ true → Among a (suc k) j
      by rest true e on = or (or_true (nat_eq j a) (is_among j (filter p (range_with_len (a + 1) k))) on)
        where
          or : (nat_eq j a ≡ true) ⊎ (is_among j (filter p (range_with_len (a + 1) k)) ≡ true) → Among a (suc k) j
          or (inl same) = let here : j ≡ a = eqb-true j a same in record { low = omega (arith, here); high = omega (arith, here); on = ap p here ∙ e }
          or (inr more) = wider (rest more)
      by rest false e on = wider (rest on)

  pub on_changes : (each : ℕ → ℕ → ℕ) (a k j : ℕ) (takes : List ℕ) → is_among j (filter p (range_with_len a k)) ≡ true → j < length takes
      → get_or (taken_from each (filter p (range_with_len a k)) takes) j 0 ≡ each j (get_or takes j 0)
  on_changes each a k j takes on within = let so : Among a k j = among_so a k j on in cell_changes each p a k j takes so.low so.high within so.on
