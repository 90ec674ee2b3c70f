-- Sums of the nodes of whole columns.
use Rattle.std.proofs.Common.{◌≡◌, ℕ, ◌+◌, ◌-◌, ◌*◌, ◌<◌, List, length, get_or, replicate, subst, sym, ap, ◌∙◌, arith, bit_xor}
use Rattle.std.proofs.lemmas.List.{get_or-replicate}
use Rattle.std.proofs.Math.Nat.{mul_comm}
use Rattle.clay_field.specs.Field.{product}
use Rattle.clay_grid.specs.Shape.{Shape, row_count, column_count}
use Rattle.clay_model.specs.Sums.{sum_below}
use Rattle.clay_model.proofs.SumLaws.{sum_below_same}
use Rattle.code_laws.specs.Columns.{first_parity, HoldsPieces}
use Rattle.code_laws.proofs.Filled.{sum_below-add}
use Rattle.code_laws.proofs.Pieces.{place_below}
use Rattle.generator_matrix.specs.Generated.{factor_at}
use Rattle.generator_matrix.specs.SmallColumns.{AddsNodes}

-- row e of m rows has the sum of the nodes below count
pub record HoldsSums (m len : ℕ) (factors : List ℕ) (value : ℕ → ℕ → ℕ) (count : ℕ) (rows : List ℕ) : Type 0 where
  pub at : (e b : ℕ) → e < m → b < len → get_or rows (e * len + b) 0 ≡ sum_below count (λ i. product (factor_at factors m i e) (value i b))

module _ (m len : ℕ) (factors : List ℕ) (value : ℕ → ℕ → ℕ) where
  pub no_sums : (rows : List ℕ) → length rows ≡ m * len → rows ≡ replicate (length rows) 0 → HoldsSums m len factors value 0 rows
  no_sums rows long empty = record {
    at = λ e b he hb.
        ap (λ l. get_or l (e * len + b) 0) empty
        ∙ get_or-replicate (length rows) (e * len + b) 0 0 (subst (λ l. e * len + b < l) (sym long) (place_below e m len b he hb));
  }

  -- one column more, of the node first and the m - 1 behind it
  pub one_more_column : (u y first : ℕ) (column before after : List ℕ) → u ≡ m → first ≡ y * m
      → HoldsPieces len m (λ x b. value (y * m + x) b) column
      → AddsNodes u len (λ x e. factor_at factors u (first + x) e) (λ x b. get_or column (x * len + b) 0) before after
      → HoldsSums m len factors value (y * m) before → HoldsSums m len factors value ((y + 1) * m) after
  one_more_column u y first column before after units start held adds sums = record {
    at = λ e b he hb.
        let next : y * m + m ≡ (y + 1) * m = omega arith in
        let term : ℕ → ℕ = λ i. product (factor_at factors m i e) (value i b) in
        let here : AddsNodes m len (λ x e. factor_at factors m (y * m + x) e) (λ x b. get_or column (x * len + b) 0) before after =
        subst (λ n. AddsNodes m len (λ x e. factor_at factors m (n + x) e) (λ x b. get_or column (x * len + b) 0) before after) start
        (subst (λ n. AddsNodes n len (λ x e. factor_at factors n (first + x) e) (λ x b. get_or column (x * len + b) 0) before after) units adds) in
        here.at e b he hb
        ∙ (λ i. bit_xor (sums.at e b he hb i)
        (sum_below_same m (λ x. product (factor_at factors m (y * m + x) e) (get_or column (x * len + b) 0)) (λ x. term (y * m + x))
        (λ x hx. ap (product (factor_at factors m (y * m + x) e)) (held.at x b hx hb)) i))
        ∙ sym (sum_below-add (y * m) m term)
        ∙ ap (λ n. sum_below n term) next;
  }

all_but_one : (s t q : ℕ) → s + 1 ≡ t → s * q ≡ q * t - q
all_but_one s t q next =
    let whole : (s + 1) * q ≡ t * q = ap (λ n. n * q) next in
    let turn : t * q ≡ q * t = mul_comm t q in
    omega arith

-- the nodes of the columns before the last
pub columns_before : (g : Shape) (y : ℕ) → y + 1 ≡ column_count g → y * row_count g ≡ first_parity g
columns_before g y next = all_but_one y (column_count g) (row_count g) next
