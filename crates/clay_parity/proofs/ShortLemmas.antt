-- Squares of short pieces, turned and coupled.
use Rattle.std.proofs.Common.{◌≡◌, ◌≢◌, ℕ, zero, suc, subst, ◌+◌, ◌*◌, ◌/◌, ◌%◌, ◌<◌, ◌≤◌, List, length, get_or, cond, eqb, inl, inr, sym, ap, ◌∙◌, arith, bit_xor}
use Rattle.std.proofs.lemmas.Bool.{cases_eq, cases_lt, cond-true, cond-false, eq-eqb, ne_eqb}
use Rattle.std.proofs.lemmas.Nat.{mod_below, div_below, div-mul-add, mod-mul-add, div-add-mod'}
use Rattle.std.proofs.Math.Nat.{mul_comm, mul-add-div_right, mul-add-mod_self_right}
use borrow.Rule.Slice.PartMut.{put_mid}
use Rattle.clay_field.specs.Field.{product, quotient}
use Rattle.code_laws.specs.Columns.{HoldsPieces}
use Rattle.code_laws.proofs.Pieces.{piece_fits, place_below, put_mid_before, put_mid_past, put_mid_within}
use Rattle.clay_parity.specs.Blocks.{coupled_of, Appends}
use Rattle.clay_parity.specs.Short.{HoldsShort, short_coupled}
use Rattle.clay_parity.proofs.BlockPlaces.{Appends-then}

-- where a piece of a square ends
pub square_fits : (n w d x : ℕ) → d < n → x < n → (d * n + x) * w + w ≤ n * (n * w)
square_fits n w d x hd hx =
    let fits = piece_fits (d * n + x) (n * n) w (place_below d n n x hd hx) in
    let grouped : n * n * w ≡ n * (n * w) = omega arith in
    omega arith

-- a byte of pieces has some width
wide : (n w o : ℕ) → o < n * w → 0 < w
wide n zero o h = let none : n * 0 ≡ 0 = omega arith in absurd (omega arith)
wide n (suc w) o h = omega arith

piece_of : (n w o : ℕ) → o < n * w → o / w < n
piece_of n w o h = let turn : n * w ≡ w * n = mul_comm n w in div_below o w n (wide n w o h) (omega arith)

-- pieces by the places of their bytes
pub piece_at : (w n : ℕ) (value : ℕ → ℕ → ℕ) (pieces : List ℕ) → HoldsPieces w n value pieces → (o : ℕ) → o < n * w → get_or pieces o 0 ≡ value (o / w) (o % w)
piece_at w n value pieces holds o h =
    ap (λ p. get_or pieces p 0) (sym (div-add-mod' o w)) ∙ holds.at (o / w) (o % w) (piece_of n w o h) (mod_below o w (wide n w o h))

-- a row that is coupled with its partners but for one piece, which is the row's own
pub row_coupled : (m w x k : ℕ) (rows own partners coupled piece : List ℕ) → x < m → k ≡ w → length coupled ≡ m * w → length piece ≡ w
    → ((o : ℕ) → o < m * w → get_or own o 0 ≡ get_or rows (x * (m * w) + o) 0)
    → HoldsPieces w m (λ d b. get_or rows ((d * m + x) * w + b) 0) partners
    → ((o : ℕ) → o < m * w → get_or coupled o 0 ≡ quotient (bit_xor (get_or own o 0) (product 2 (get_or partners o 0))) 5)
    → ((b : ℕ) → b < w → get_or piece b 0 ≡ get_or own (x * w + b) 0)
    → (o : ℕ) → o < m * w → get_or (put_mid (x * w) k coupled piece) o 0 ≡ short_coupled m w rows x o
row_coupled m w x k rows own partners coupled piece hx size long piece_long owns theirs couples pieces o h =
    let some = wide m w o h in
    let fits = piece_fits x m w hx in
    let d : ℕ = o / w in
    let b : ℕ = o % w in
    let low : b < w = mod_below o w some in
    let place : d * w + b ≡ o = div-add-mod' o w in
    let other : x ≢ d → get_or (put_mid (x * w) k coupled piece) o 0 ≡ get_or coupled o 0 → get_or (put_mid (x * w) k coupled piece) o 0 ≡ short_coupled m w rows x o =
    λ differ kept.
    kept ∙ couples o h
    ∙ (λ i. quotient (bit_xor (owns o h i) (product 2 (piece_at w m (λ d b. get_or rows ((d * m + x) * w + b) 0) partners theirs o h i))) 5)
    ∙ sym (cond-false _ _ _ (ne_eqb x d differ)) in
    elim (cases_eq d x) [
      | inl same ↦
          let here : x * w + b ≡ o = ap (λ v. v * w + b) (sym same) ∙ place in
          ap (λ p. get_or (put_mid (x * w) k coupled piece) p 0) (sym here)
          ∙ put_mid_within (x * w) k coupled piece b (omega arith) (omega arith)
          ∙ pieces b low
          ∙ ap (λ p. get_or own p 0) here
          ∙ owns o h
          ∙ sym (cond-true _ _ _ (eq-eqb x d (sym same)))
      | inr differ ↦ elim (cases_lt d x) [
        | inl early ↦
            let before = place_below d x w b early low in
            other (λ e. differ (sym e)) (put_mid_before (x * w) k coupled piece o (omega arith) (omega arith))
        | inr late ↦
            let past : x < d = omega (arith, late, differ) in
            let after = piece_fits x d w past in
            other (λ e. differ (sym e)) (put_mid_past (x * w) k coupled piece o (omega arith) (omega arith) (omega arith))
      ]
    ]

-- what is coupled in the rows is what is coupled in the layers
short_layers : (m w number : ℕ) (value : ℕ → ℕ → ℕ → ℕ) (rows : List ℕ) → HoldsShort m w number value rows → (x o : ℕ) → x < m → o < m * w
    → short_coupled m w rows x o ≡ coupled_of m value x (number * m + o / w) (o % w)
short_layers m w number value rows holds x o hx h =
    let d : ℕ = o / w in
    let b : ℕ = o % w in
    let n : ℕ = number * m + d in
    let hd : d < m = piece_of m w o h in
    let low : b < w = mod_below o w (wide m w o h) in
    let place : d * w + b ≡ o = div-add-mod' o w in
    let grouped : x * (m * w) + (d * w + b) ≡ (x * m + d) * w + b = omega arith in
    let own : get_or rows (x * (m * w) + o) 0 ≡ value n x b =
    ap (λ p. get_or rows p 0) (ap (λ v. x * (m * w) + v) (sym place) ∙ grouped) ∙ holds.at x d b hx hd low in
    let rest : n % m ≡ d = mod-mul-add number m d hd in
    let over : n / m ≡ number = div-mul-add number m d hd in
    (λ i. cond (eqb x d) (own i) (quotient (bit_xor (own i) (product 2 (holds.at d x b hd hx low i))) 5))
    ∙ (λ i. cond (eqb x (sym rest i)) (value n x b) (quotient (bit_xor (value n x b) (product 2 (value (sym over i * m + x) (sym rest i) b))) 5))

-- the bytes of a row in a group, by their places in the chunk
pub short_bytes : (m w number : ℕ) (value : ℕ → ℕ → ℕ → ℕ) (rows : List ℕ) (x o : ℕ) → 0 < w → x < m → o < m * w → HoldsShort m w number value rows
    → short_coupled m w rows x o ≡ coupled_of m value x ((number * (m * w) + o) / w) ((number * (m * w) + o) % w)
short_bytes m w number value rows x o some hx h holds =
    let grouped : number * (m * w) ≡ number * m * w = omega arith in
    short_layers m w number value rows holds x o hx h
    ∙ (λ i. coupled_of m value x (sym (ap (λ v. (v + o) / w) grouped ∙ mul-add-div_right some (number * m) o) i) (sym (ap (λ v. (v + o) % w) grouped ∙ mul-add-mod_self_right (number * m) w o) i))

-- one group more of a row
pub Appends-short : (m w number : ℕ) (value : ℕ → ℕ → ℕ → ℕ) (rows : List ℕ) (x : ℕ) (old mid new : List ℕ) → 0 < w → x < m
    → HoldsShort m w number value rows
    → Appends (number * (m * w)) (λ o. coupled_of m value x (o / w) (o % w)) old mid
    → Appends (m * w) (short_coupled m w rows x) mid new
    → Appends ((number + 1) * (m * w)) (λ o. coupled_of m value x (o / w) (o % w)) old new
Appends-short m w number value rows x old mid new some hx holds a n =
    let next : number * (m * w) + m * w ≡ (number + 1) * (m * w) = omega arith in
    subst (λ c. Appends c (λ o. coupled_of m value x (o / w) (o % w)) old new) next
    (Appends-then (number * (m * w)) (m * w) (λ o. coupled_of m value x (o / w) (o % w)) (short_coupled m w rows x) old mid new
    (λ o h. short_bytes m w number value rows x o some hx h holds) a n)
