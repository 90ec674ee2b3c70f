-- Layers by their numbers.
use Rattle.std.proofs.Common.{◌≡◌, ℕ, ◌↔◌, subst, ◌+◌, ◌-◌, ◌*◌, ◌/◌, ◌%◌, ◌^◌, ◌<◌, cond, List, [], get_or, set, sym, ap, ◌∙◌, arith}
use Rattle.clay_grid.specs.Shape.{Shape, row_count, column_count, layer_count}
use Rattle.clay_grid.specs.Layers.{digits_of, index_of, IsLayer}
use Rattle.clay_grid.proofs.LayerLaws.{IsLayer-digits_of, get_or-digits_of, index_of-digits_of, digits_of-index_of, index_of-lt, index_of-set, IsLayer-set}
use Rattle.clay_model.specs.Sums.{weighted_sum}
use Rattle.clay_model.specs.Coupling.{uncoupled, HasZeroSums}
use Rattle.clay_model.specs.Code.{is_virtual, chunk_of_node, coupled_value}

-- the weighted sum of power j in a layer
abbrev layer_sum : ℕ → ℕ → (ℕ → List ℕ → ℕ) → ℕ → List ℕ → ℕ
layer_sum q t c j z = weighted_sum (q * t) (λ i. uncoupled q c (i % q) (i / q) z) j

pub HasZeroSums-numbers : (q t m : ℕ) (c : ℕ → List ℕ → ℕ) → 0 < q
    → HasZeroSums q t m c ↔ ((n : ℕ) → n < q ^ t → (j : ℕ) → j < m → weighted_sum (q * t) (λ i. uncoupled q c (i % q) (i / q) (digits_of q t n)) j ≡ 0)
HasZeroSums-numbers q t m c rows = (
  (λ sums n h j hj. sums (digits_of q t n) (IsLayer-digits_of q t n rows) j hj),
  (λ each z layer j hj. subst (λ w. layer_sum q t c j w ≡ 0) (digits_of-index_of q t z rows layer) (each (index_of q z) (index_of-lt q t z layer) j hj)),
)

-- the number of the layer of a vertex's partner
pub index_of-partner : (q t x y : ℕ) (z : List ℕ) → IsLayer q t z → y < t
    → index_of q (set z y x) + get_or z y 0 * q ^ (t - 1 - y) ≡ index_of q z + x * q ^ (t - 1 - y)
index_of-partner q t x y z layer h =
    subst (λ n. index_of q (set z y x) + get_or z y 0 * q ^ (n - 1 - y) ≡ index_of q z + x * q ^ (n - 1 - y)) layer.long
    (index_of-set q z y x (subst (λ n. y < n) (sym layer.long) h))

-- the layer of a vertex's partner, of which the stride is that of the column's digit
pub set-digits_of : (q t n y x : ℕ) → n < q ^ t → y < t → x < q
    → set (digits_of q t n) y x ≡ digits_of q t (n + x * q ^ (t - 1 - y) - n / q ^ (t - 1 - y) % q * q ^ (t - 1 - y))
set-digits_of q t n y x below hy hx =
    let rows : 0 < q = omega arith in
    let z : List ℕ = digits_of q t n in
    let p : ℕ = q ^ (t - 1 - y) in
    let layer : IsLayer q t z = IsLayer-digits_of q t n rows in
    let digit : get_or z y 0 * p ≡ n / p % q * p = ap (λ d. d * p) (get_or-digits_of q t n y hy) in
    let own : index_of q z ≡ n = index_of-digits_of q t n rows below in
    let moved : index_of q (set z y x) + get_or z y 0 * p ≡ index_of q z + x * p = index_of-partner q t x y z layer hy in
    let to : ℕ = x * p in
    let from : ℕ = n / p % q * p in
    let number : index_of q (set z y x) ≡ n + to - from = omega (arith, moved, own, digit) in
    sym (digits_of-index_of q t (set z y x) rows (IsLayer-set q t z y x hx hy layer)) ∙ ap (digits_of q t) number

-- byte b of the subchunk of a layer's number
pub coupled_value-digits_of : (g : Shape) (chunks : List (List ℕ)) (b i n : ℕ) → 0 < row_count g → n < layer_count g
    → coupled_value g chunks b i (digits_of (row_count g) (column_count g) n) ≡ cond (is_virtual g i) 0 (get_or (get_or chunks (chunk_of_node g i) []) (n * g.width + b) 0)
coupled_value-digits_of g chunks b i n rows below =
    ap (λ v. cond (is_virtual g i) 0 (get_or (get_or chunks (chunk_of_node g i) []) (v * g.width + b) 0))
    (index_of-digits_of (row_count g) (column_count g) n rows below)
