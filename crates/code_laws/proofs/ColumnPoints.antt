-- The nodes of a column.
use Rattle.std.proofs.Common.{◌≡◌, ℕ, zero, suc, ◌+◌, ◌-◌, ◌*◌, ◌/◌, ◌%◌, ◌<◌, Bool, true, false, eqb, List, [], ◌∷◌, ◌++◌, length, get_or, sym, ap, ◌∙◌, arith}
use Rattle.std.specs.List.{range_with_len}
use Rattle.std.proofs.lemmas.Bool.{eq-eqb, ne_eqb, cond-true, cond-false}
use Rattle.std.proofs.lemmas.Nat.{mod_below, div_below, div-mul-add, div-add-mod'}
use Rattle.std.proofs.lemmas.List.FromFn.{length-range_with_len, get_or-range_with_len}
use Rattle.clay_grid.proofs.Rising.{range_with_len_more}
use Rattle.clay_model.specs.Erased.{erased_below}
use Rattle.clay_model.specs.Points.{AreDistinct}

-- nodes that are there add none
none_erased : (erased : List Bool) (n k : ℕ) → ((i : ℕ) → i < k → get_or erased (n + i) false ≡ false) → erased_below erased (n + k) ≡ erased_below erased n
none_erased erased n zero each = let none : n + 0 ≡ n = omega arith in ap (erased_below erased) none
none_erased erased n (suc k) each =
    let more : n + suc k ≡ suc (n + k) = omega arith in
    ap (erased_below erased) more
    ∙ cond-false (get_or erased (n + k) false) (erased_below erased (n + k) ++ (n + k) ∷ []) (erased_below erased (n + k)) (each k (omega arith))
    ∙ none_erased erased n k (λ i h. each i (omega arith))

-- nodes that are erased follow the earlier ones
all_erased : (erased : List Bool) (n k : ℕ) → erased_below erased n ≡ [] → ((i : ℕ) → i < k → get_or erased (n + i) false ≡ true) → erased_below erased (n + k) ≡ range_with_len n k
all_erased erased n zero before each = let none : n + 0 ≡ n = omega arith in ap (erased_below erased) none ∙ before
all_erased erased n (suc k) before each =
    let more : n + suc k ≡ suc (n + k) = omega arith in
    let next : k + 1 ≡ suc k = omega arith in
    ap (erased_below erased) more
    ∙ cond-true (get_or erased (n + k) false) (erased_below erased (n + k) ++ (n + k) ∷ []) (erased_below erased (n + k)) (each k (omega arith))
    ∙ ap (λ l. l ++ (n + k) ∷ []) (all_erased erased n k before (λ i h. each i (omega arith)))
    ∙ sym (range_with_len_more n k)
    ∙ ap (range_with_len n) next

-- the erased nodes are those of column y
pub column_erased : (q t y : ℕ) (erased : List Bool) → 0 < q → y < t → ((i : ℕ) → i < q * t → get_or erased i false ≡ eqb (i / q) y) → erased_below erased (q * t) ≡ range_with_len (y * q) q
column_erased q t y erased rows hy are =
    let after : ℕ = t - 1 - y in
    let columns : t ≡ y + 1 + after = omega arith in
    let whole : q * t ≡ y * q + q + after * q = ap (λ n. q * n) columns ∙ omega arith in
    let start : y * q ≡ 0 + y * q = omega arith in
    let before : erased_below erased (y * q) ≡ [] =
    ap (erased_below erased) start
    ∙ none_erased erased 0 (y * q) (λ i h.
    let early : i / q < y = div_below i q y rows h in
    let at : 0 + i ≡ i = omega arith in
    ap (λ n. get_or erased n false) at ∙ are i (omega arith) ∙ ne_eqb (i / q) y (λ e. omega arith)) in
    let column : erased_below erased (y * q + q) ≡ range_with_len (y * q) q =
    all_erased erased (y * q) q before (λ i h. are (y * q + i) (omega arith) ∙ eq-eqb ((y * q + i) / q) y (div-mul-add y q i h)) in
    ap (erased_below erased) whole
    ∙ none_erased erased (y * q + q) (after * q) (λ i h.
    let n : ℕ = y * q + q + i in
    let split : n / q * q + n % q ≡ n = div-add-mod' n q in
    let rest : n % q < q = mod_below n q rows in
    are n (omega arith) ∙ ne_eqb (n / q) y (λ e. let here : n / q * q ≡ y * q = ap (λ v. v * q) e in omega arith))
    ∙ column

pub AreDistinct-range : (a n : ℕ) → AreDistinct (range_with_len a n)
AreDistinct-range a n d e before within same =
    let long : length (range_with_len a n) ≡ n = length-range_with_len a n in
    let first : get_or (range_with_len a n) d 0 ≡ a + d = get_or-range_with_len a n d 0 (omega arith) in
    let second : get_or (range_with_len a n) e 0 ≡ a + e = get_or-range_with_len a n e 0 (omega arith) in
    omega arith
