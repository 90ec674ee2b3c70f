-- The places of layers among those that are read, and of their subchunks in a part.
use Rattle.std.proofs.Common.{◌≡◌, ℕ, zero, suc, subst, ◌+◌, ◌-◌, ◌*◌, ◌/◌, ◌%◌, ◌^◌, ◌<◌, ◌≤◌, Bool, true, false, cond, eqb, List, [], ◌∷◌, ◌++◌, length, get_or, take, drop, filter, refl, sym, ap, ◌∙◌, inl, inr, arith, length-append, length-drop}
use Rattle.std.specs.List.{range_with_len}
use Rattle.std.proofs.lemmas.Bool.{cases_eq, eq-eqb, ne_eqb}
use Rattle.std.proofs.lemmas.Nat.{mod_below, div_below, div-mul-add, mod-mul-add, div-add-mod'}
use Rattle.std.proofs.lemmas.List.{get_or_push, get_or_append_left, get_or-append-add, get_or-take, get_or-drop, length-take-le}
use Rattle.std.proofs.Math.Nat.{one-le-pow}
use Rattle.clay_grid.specs.Shape.{Shape, row_count, column_count, layer_count}
use Rattle.clay_grid.specs.Layers.{layer_of}
use Rattle.clay_grid.specs.Repair.{layers_with_digit}
use Rattle.clay_grid.specs.Score.{count_below}
use Rattle.clay_grid.proofs.Counting.{count_below_same, count_below_false, count_below_true, count_below-add, count_below_digit}
use Rattle.clay_grid.proofs.Rising.{filter_more, length-filter_range}
use Rattle.clay_grid.proofs.LayerLaws.{get_or-digits_of}
use Rattle.clay_model.specs.RepairParts.{subchunks_at}

-- ---- a number's place among those that pass a test

pub record StandsAt (xs : List ℕ) (place x : ℕ) : Type 0 where
  pub within : place < length xs
  pub is : get_or xs place 0 ≡ x

stands_in_filter : (p : ℕ → Bool) (n z : ℕ) → z < n → p z ≡ true → StandsAt (filter p (range_with_len 0 n)) (count_below z p) z
stands_in_filter p zero z h passed = absurd (omega arith)
stands_in_filter p (suc n) z h passed =
    let front : List ℕ = filter p (range_with_len 0 n) in
    let more : suc n ≡ n + 1 = omega arith in
    let split : filter p (range_with_len 0 (suc n)) ≡ front ++ cond (p n) (n ∷ []) [] = ap (λ k. filter p (range_with_len 0 k)) more ∙ filter_more p n in
    elim (cases_eq z n) [
      | inl same ↦
          let last : p n ≡ true = ap p (sym same) ∙ passed in
          let whole : filter p (range_with_len 0 (suc n)) ≡ front ++ n ∷ [] = split ∙ ap (λ b. front ++ cond b (n ∷ []) []) last in
          let at : length front ≡ count_below z p = length-filter_range p n ∙ ap (λ v. count_below v p) (sym same) in
          let long : length (front ++ n ∷ []) ≡ length front + 1 = length-append front (n ∷ []) in
          record {
            within = subst (λ l. count_below z p < length l) (sym whole) (omega (arith, at, long));
            is = ap (λ l. get_or l (count_below z p) 0) whole ∙ get_or_push front n 0 (count_below z p) at ∙ sym same;
          }
      | inr other ↦
          let rest : StandsAt front (count_below z p) z = stands_in_filter p n z (omega (arith, other)) passed in
          let below : count_below z p < length front = rest.within in
          let long : length (front ++ cond (p n) (n ∷ []) []) ≡ length front + length (cond (p n) (n ∷ []) []) = length-append front (cond (p n) (n ∷ []) []) in
          record {
            within = subst (λ l. count_below z p < length l) (sym split) (omega (arith, below, long));
            is = ap (λ l. get_or l (count_below z p) 0) split ∙ get_or_append_left front (cond (p n) (n ∷ []) []) 0 (count_below z p) below ∙ rest.is;
          }
    ]

-- the digit that counts s
digit_at : (h q s v e : ℕ) → e < s → v < q → (h * (q * s) + (v * s + e)) / s % q ≡ v
digit_at h q s v e he hv =
    let whole : h * (q * s) + (v * s + e) ≡ (h * q + v) * s + e = omega arith in
    ap (λ n. n / s % q) whole ∙ ap (λ n. n % q) (div-mul-add (h * q + v) s e he) ∙ mod-mul-add h q v hv

-- how many numbers below another one have its digit that counts s: that number without the digit
count_of_digit : (q s x h r : ℕ) → 0 < s → x < q → r < s → count_below (h * (q * s) + (x * s + r)) (λ z. eqb (z / s % q) x) ≡ h * s + r
count_of_digit q s x h r pos hx hr =
    let p : ℕ → Bool = λ z. eqb (z / s % q) x in
    let blocks : count_below (h * (q * s)) p ≡ h * s = count_below_digit q s x h pos hx in
    let early : count_below (x * s) (λ i. p (h * (q * s) + i)) ≡ 0 =
    count_below_same (x * s) (λ i. p (h * (q * s) + i)) (λ i. false) (λ i l.
    let row : i / s < x = div_below i s x pos l in
    let own : i / s * s + i % s ≡ i = div-add-mod' i s in
    ap (λ n. p (h * (q * s) + n)) (sym own)
    ∙ ap (λ d. eqb d x) (digit_at h q s (i / s) (i % s) (mod_below i s pos) (omega arith))
    ∙ ne_eqb (i / s) x (λ e. omega arith))
    ∙ count_below_false (x * s) in
    let own : count_below r (λ i. p (h * (q * s) + (x * s + i))) ≡ r =
    count_below_same r (λ i. p (h * (q * s) + (x * s + i))) (λ i. true) (λ i l.
    ap (λ d. eqb d x) (digit_at h q s x i (omega arith) hx) ∙ eq-eqb x x refl)
    ∙ count_below_true r in
    let outer = count_below-add (h * (q * s)) (x * s + r) p in
    let inner = count_below-add (x * s) r (λ i. p (h * (q * s) + i)) in
    omega (arith, blocks, early, own, outer, inner)

count_below_own : (q s z : ℕ) → 0 < q → 0 < s → count_below z (λ v. eqb (v / s % q) (z / s % q)) ≡ z / s / q * s + z % s
count_below_own q s z rows pos =
    let h : ℕ = z / s / q in
    let x : ℕ = z / s % q in
    let r : ℕ = z % s in
    let outer : z / s * s + r ≡ z = div-add-mod' z s in
    let inner : h * q + x ≡ z / s = div-add-mod' (z / s) q in
    let opened : h * (q * s) + (x * s + r) ≡ (h * q + x) * s + r = omega arith in
    let whole : h * (q * s) + (x * s + r) ≡ z = opened ∙ ap (λ n. n * s + r) inner ∙ outer in
    ap (λ n. count_below n (λ v. eqb (v / s % q) x)) (sym whole)
    ∙ count_of_digit q s x h r pos (mod_below (z / s) q rows) (mod_below z s pos)

-- a layer among those that have its digit of column y
pub stands_with_digit : (g : Shape) (y z s q : ℕ) → 0 < row_count g → y < column_count g → z < layer_count g → s ≡ row_count g ^ (column_count g - 1 - y) → q ≡ row_count g
    → StandsAt (layers_with_digit g y (get_or (layer_of g z) y 0)) (z / s / q * s + z % s) z
stands_with_digit g y z s q rows hy hz stride base =
    let r : ℕ = row_count g in
    let u : ℕ = r ^ (column_count g - 1 - y) in
    let own : get_or (layer_of g z) y 0 ≡ z / u % r = get_or-digits_of r (column_count g) z y hy in
    let test : ℕ → Bool = λ v. eqb (get_or (layer_of g v) y 0) (get_or (layer_of g z) y 0) in
    let found : StandsAt (filter test (range_with_len 0 (layer_count g))) (count_below z test) z = stands_in_filter test (layer_count g) z hz (eq-eqb (get_or (layer_of g z) y 0) (get_or (layer_of g z) y 0) refl) in
    let counted : count_below z test ≡ z / s / q * s + z % s =
    count_below_same z test (λ v. eqb (v / u % r) (z / u % r)) (λ v h k. eqb (get_or-digits_of r (column_count g) v y hy k) (own k))
    ∙ count_below_own r u z rows (one-le-pow (column_count g - 1 - y) r rows)
    ∙ (λ k. z / sym stride k / sym base k * sym stride k + z % sym stride k) in
    subst (λ place. StandsAt (layers_with_digit g y (get_or (layer_of g z) y 0)) place z) counted found

-- ---- the subchunks of a chunk, one after another

pub subchunk_at : (w : ℕ) (bytes layers : List ℕ) (r b : ℕ) → ((i : ℕ) → i < length layers → get_or layers i 0 * w + w ≤ length bytes) → r < length layers → b < w
    → get_or (subchunks_at w bytes layers) (r * w + b) 0 ≡ get_or bytes (get_or layers r 0 * w + b) 0
subchunk_at w bytes [] r b fit hr hb = absurd (omega arith)
subchunk_at w bytes (l ∷ ls) zero b fit hr hb =
    let first : List ℕ = take w (drop (l * w) bytes) in
    let room : l * w + w ≤ length bytes = fit 0 hr in
    let long : length first ≡ w = length-take-le w (drop (l * w) bytes) (omega (arith, length-drop (l * w) bytes)) in
    let place : 0 * w + b ≡ b = omega arith in
    ap (λ p. get_or (first ++ subchunks_at w bytes ls) p 0) place
    ∙ get_or_append_left first (subchunks_at w bytes ls) 0 b (omega arith)
    ∙ get_or-take w (drop (l * w) bytes) b 0 hb
    ∙ get_or-drop (l * w) bytes b 0
subchunk_at w bytes (l ∷ ls) (suc r) b fit hr hb =
    let first : List ℕ = take w (drop (l * w) bytes) in
    let room : l * w + w ≤ length bytes = fit 0 (omega arith) in
    let long : length first ≡ w = length-take-le w (drop (l * w) bytes) (omega (arith, length-drop (l * w) bytes)) in
    let place : suc r * w + b ≡ length first + (r * w + b) = omega arith in
    ap (λ p. get_or (first ++ subchunks_at w bytes ls) p 0) place
    ∙ get_or-append-add first (subchunks_at w bytes ls) (r * w + b) 0
    ∙ subchunk_at w bytes ls r b (λ i h. fit (suc i) (omega arith)) (omega arith) hb

pub length-subchunks : (w : ℕ) (bytes layers : List ℕ) → ((i : ℕ) → i < length layers → get_or layers i 0 * w + w ≤ length bytes) → length (subchunks_at w bytes layers) ≡ length layers * w
length-subchunks w bytes [] fit = omega arith
length-subchunks w bytes (l ∷ ls) fit =
    let first : List ℕ = take w (drop (l * w) bytes) in
    let room : l * w + w ≤ length bytes = fit 0 (omega arith) in
    let long : length first ≡ w = length-take-le w (drop (l * w) bytes) (omega (arith, length-drop (l * w) bytes)) in
    let rest = length-subchunks w bytes ls (λ i h. fit (suc i) (omega arith)) in
    length-append first (subchunks_at w bytes ls) ∙ omega (arith, long, rest)
