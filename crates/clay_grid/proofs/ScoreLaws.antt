-- The score of a layer by its columns.
use Rattle.std.proofs.Common.{◌≡◌, ℕ, suc, subst, ◌+◌, ◌-◌, ◌*◌, ◌/◌, ◌%◌, ◌^◌, ◌<◌, ◌≤◌, Bool, true, false, cond, List, get_or, refl, sym, ap, ◌∙◌, arith}
use Rattle.std.specs.Int.{from_bool}
use Rattle.std.proofs.Math.Nat.{pow-suc, div-div-eq-div-mul}
use Rattle.clay_grid.specs.Shape.{Shape, row_count, column_count}
use Rattle.clay_grid.specs.Layers.{IsLayer, layer_of}
use Rattle.clay_grid.specs.Score.{count_below, score_of, score_at}
use Rattle.clay_grid.proofs.Counting.{count_below_columns, count_below-le}
use Rattle.clay_grid.proofs.LayerLaws.{IsLayer-digits_of, get_or-digits_of}

-- whether the node that the layer meets in column y is erased
abbrev pub meets_erased : ℕ → List Bool → List ℕ → ℕ → Bool
meets_erased q erased z y = get_or erased (y * q + get_or z y 0) false

pub score_of-columns : (g : Shape) (erased : List Bool) (z : List ℕ) → IsLayer (row_count g) (column_count g) z → score_of g erased z ≡ count_below (column_count g) (meets_erased (row_count g) erased z)
score_of-columns g erased z l = count_below_columns (row_count g) (column_count g) (λ i. get_or erased i false) (λ y. get_or z y 0) l.digits

pub score_at-columns : (g : Shape) (erased : List Bool) (z : ℕ) → 0 < row_count g → score_at g erased z ≡ count_below (column_count g) (meets_erased (row_count g) erased (layer_of g z))
score_at-columns g erased z rows = score_of-columns g erased (layer_of g z) (IsLayer-digits_of (row_count g) (column_count g) z rows)

pub score_at-le : (g : Shape) (erased : List Bool) (z : ℕ) → 0 < row_count g → score_at g erased z ≤ column_count g
score_at-le g erased z rows = subst (λ n. n ≤ column_count g) (sym (score_at-columns g erased z rows)) (count_below-le (column_count g) _)

-- ---- one column more of a loop from the last column to the first

pub digit_passed : (g : Shape) (z q n passed rest : ℕ) → q ≡ row_count g → n ≡ column_count g → passed < n → rest ≡ z / q ^ passed → rest % q ≡ get_or (layer_of g z) (n - 1 - passed) 0
digit_passed g z q n passed rest rows columns below rest_is =
    let place : column_count g - 1 - (n - 1 - passed) ≡ passed = omega arith in
    ap (λ r. r % q) rest_is
    ∙ ap (λ b. z / b ^ passed % b) rows
    ∙ ap (λ e. z / row_count g ^ e % row_count g) (sym place)
    ∙ sym (get_or-digits_of (row_count g) (column_count g) z (n - 1 - passed) (omega arith))

pub rest_passed : (z q passed rest : ℕ) → rest ≡ z / q ^ passed → rest / q ≡ z / q ^ (passed + 1)
rest_passed z q passed rest rest_is =
    let more : suc passed ≡ passed + 1 = omega arith in
    ap (λ r. r / q) rest_is ∙ div-div-eq-div-mul z (q ^ passed) q ∙ ap (λ p. z / p) (sym (pow-suc q passed) ∙ ap (λ e. q ^ e) more)

pub from_bool-cond : (b : Bool) → from_bool b ≡ cond b 1 0
from_bool-cond true = refl
from_bool-cond false = refl

pub one_at_most : (b : Bool) (v : ℕ) → v ≡ cond b 1 0 → v ≤ 1
one_at_most true v is = omega arith
one_at_most false v is = omega arith

-- one number more, which counts v
one_more : (a b i v : ℕ) (test : ℕ → Bool) → a ≡ suc b → b ≡ i → cond (test i) 1 0 ≡ v → count_below a test ≡ count_below b test + v
one_more a b i v test more same last =
    ap (λ k. count_below k test) more ∙ ap (λ k. count_below b test + k) (ap (λ k. cond (test k) 1 0) same ∙ last)

-- a column of which the node that the layer meets counts v
pub counted_more : (n passed s v total : ℕ) (test : ℕ → Bool) → passed < n → s + count_below (n - passed) test ≡ total → cond (test (n - 1 - passed)) 1 0 ≡ v → s + v + count_below (n - (passed + 1)) test ≡ total
counted_more n passed s v total test below counted column =
    let split = one_more (n - passed) (n - (passed + 1)) (n - 1 - passed) v test (omega arith) (omega arith) column in
    omega arith

pub score_done : (g : Shape) (erased : List Bool) (z q n passed s : ℕ) → q ≡ row_count g → n ≡ column_count g → 0 < row_count g → n ≤ passed
    → s + count_below (n - passed) (meets_erased q erased (layer_of g z)) ≡ count_below n (meets_erased q erased (layer_of g z)) → s ≡ score_at g erased z
score_done g erased z q n passed s rows columns some_rows all counted =
    let none : n - passed ≡ 0 = omega arith in
    let left : count_below (n - passed) (meets_erased q erased (layer_of g z)) ≡ 0 = ap (λ k. count_below k (meets_erased q erased (layer_of g z))) none in
    let here : s ≡ count_below n (meets_erased q erased (layer_of g z)) = omega arith in
    here ∙ (λ i. count_below (columns i) (meets_erased (rows i) erased (layer_of g z))) ∙ sym (score_at-columns g erased z some_rows)
