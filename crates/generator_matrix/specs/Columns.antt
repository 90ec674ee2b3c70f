-- Four sums in column form, and what a column of four known nodes adds to them.
use Rattle.std.specs.Prelude.{◌≡◌, ℕ, ◌+◌, ◌*◌, ◌<◌, List, length, get_or, bit_xor}
use Rattle.clay_field.specs.Field.{product}
use Rattle.generator_matrix.specs.Generated.{factor_at}
use Rattle.generator_matrix.specs.declared.column.ColumnFactors.{ColumnFactors}

-- what the factors of a node in four sums add up to: in all four to 1, in the second and fourth, in the third and fourth, and in the fourth
pub record AddUp (factors : List ℕ) (node odd high last : ℕ) : Type 0 where
  pub all : bit_xor (bit_xor (bit_xor (factor_at factors 4 node 0) (factor_at factors 4 node 1)) (factor_at factors 4 node 2)) (factor_at factors 4 node 3) ≡ 1
  pub odd_rows : bit_xor (factor_at factors 4 node 1) (factor_at factors 4 node 3) ≡ odd
  pub high_rows : bit_xor (factor_at factors 4 node 2) (factor_at factors 4 node 3) ≡ high
  pub last_row : factor_at factors 4 node 3 ≡ last

-- the four factors of each of the nodes 4 y to 4 y + 3 are those of a column
pub record AreColumn (factors : List ℕ) (y sigma tau rho kappa : ℕ) : Type 0 where
  pub first : AddUp factors (y * 4) sigma tau kappa
  pub second : AddUp factors (y * 4 + 1) (bit_xor 1 sigma) tau (bit_xor tau kappa)
  pub third : AddUp factors (y * 4 + 2) sigma (bit_xor 1 tau) (bit_xor rho kappa)
  pub fourth : AddUp factors (y * 4 + 3) (bit_xor 1 sigma) (bit_xor 1 tau) (bit_xor (bit_xor 1 (bit_xor tau rho)) kappa)

-- the same of factors that are kept for the column
abbrev pub IsColumn : List ℕ → ℕ → ColumnFactors → Type 0
IsColumn factors y f = AreColumn factors y f.sigma f.tau f.rho f.kappa

-- the columns of a matrix for m unknown nodes; none where it isn't made up of columns
pub record AreColumns (m : ℕ) (factors : List ℕ) (columns : List ColumnFactors) : Type 0 where
  pub four : 0 < length columns → m ≡ 4
  pub long : 0 < length columns → length factors ≡ length columns * 16
  pub each : (y : ℕ) (default : ColumnFactors) → y < length columns → IsColumn factors y (get_or columns y default)

-- the sum of two lists' bytes at k
abbrev pub both_of : List ℕ → List ℕ → ℕ → ℕ
both_of a b k = bit_xor (get_or a k 0) (get_or b k 0)

-- the sum of four lists' bytes at k
abbrev pub all_of : List ℕ → List ℕ → List ℕ → List ℕ → ℕ → ℕ
all_of a b c d k = bit_xor (bit_xor (get_or a k 0) (get_or c k 0)) (both_of b d k)

-- the bytes that a column's values make of the bytes that were there
abbrev pub all_added : List ℕ → List ℕ → List ℕ → List ℕ → List ℕ → ℕ → ℕ
all_added u0 u1 u2 u3 d k = bit_xor (get_or d k 0) (all_of u0 u1 u2 u3 k)

abbrev pub odd_added : ℕ → List ℕ → List ℕ → List ℕ → List ℕ → List ℕ → ℕ → ℕ
odd_added sigma u0 u1 u2 u3 d k = bit_xor (bit_xor (get_or d k 0) (both_of u1 u3 k)) (product sigma (all_of u0 u1 u2 u3 k))

abbrev pub high_added : ℕ → List ℕ → List ℕ → List ℕ → List ℕ → List ℕ → ℕ → ℕ
high_added tau u0 u1 u2 u3 d k = bit_xor (bit_xor (get_or d k 0) (both_of u2 u3 k)) (product tau (all_of u0 u1 u2 u3 k))

abbrev pub last_added : ℕ → ℕ → ℕ → List ℕ → List ℕ → List ℕ → List ℕ → List ℕ → ℕ → ℕ
last_added kappa tau rho u0 u1 u2 u3 d k =
    bit_xor
    (bit_xor (bit_xor (bit_xor (get_or d k 0) (get_or u3 k 0)) (product kappa (all_of u0 u1 u2 u3 k))) (product tau (both_of u1 u3 k)))
    (product rho (both_of u2 u3 k))

-- the byte of the first of four rows out of their column form
abbrev pub first_ended : List ℕ → List ℕ → List ℕ → List ℕ → ℕ → ℕ
first_ended d0 d1 d2 d3 k = bit_xor (bit_xor (get_or d0 k 0) (both_of d1 d3 k)) (get_or d2 k 0)

-- byte b of row x, of rows of len bytes
abbrev pub row_byte : ℕ → List ℕ → ℕ → ℕ → ℕ
row_byte len rows x b = get_or rows (x * len + b) 0

-- the sum of byte b of two rows, and of all four
abbrev pub both_rows : ℕ → List ℕ → ℕ → ℕ → ℕ → ℕ
both_rows len rows x v b = bit_xor (row_byte len rows x b) (row_byte len rows v b)

abbrev pub all_rows : ℕ → List ℕ → ℕ → ℕ
all_rows len rows b = bit_xor (both_rows len rows 0 2 b) (both_rows len rows 1 3 b)

-- what a column's four rows of values add to four rows
pub record AddsColumn (len : ℕ) (f : ColumnFactors) (values before after : List ℕ) : Type 0 where
  pub all : (b : ℕ) → b < len → row_byte len after 0 b ≡ bit_xor (row_byte len before 0 b) (all_rows len values b)
  pub odd : (b : ℕ) → b < len → row_byte len after 1 b
      ≡ bit_xor (bit_xor (row_byte len before 1 b) (both_rows len values 1 3 b)) (product f.sigma (all_rows len values b))
  pub high : (b : ℕ) → b < len → row_byte len after 2 b
      ≡ bit_xor (bit_xor (row_byte len before 2 b) (both_rows len values 2 3 b)) (product f.tau (all_rows len values b))
  pub last : (b : ℕ) → b < len → row_byte len after 3 b
      ≡ bit_xor
      (bit_xor (bit_xor (bit_xor (row_byte len before 3 b) (row_byte len values 3 b)) (product f.kappa (all_rows len values b))) (product f.tau (both_rows len values 1 3 b)))
      (product f.rho (both_rows len values 2 3 b))

-- four rows in column form hold, of four sums, all together, the second and fourth, the third and fourth, and the fourth
pub record IsColumnForm (len : ℕ) (sum : ℕ → ℕ → ℕ) (rows : List ℕ) : Type 0 where
  pub all : (b : ℕ) → b < len → row_byte len rows 0 b ≡ bit_xor (bit_xor (sum 0 b) (sum 2 b)) (bit_xor (sum 1 b) (sum 3 b))
  pub odd : (b : ℕ) → b < len → row_byte len rows 1 b ≡ bit_xor (sum 1 b) (sum 3 b)
  pub high : (b : ℕ) → b < len → row_byte len rows 2 b ≡ bit_xor (sum 2 b) (sum 3 b)
  pub last : (b : ℕ) → b < len → row_byte len rows 3 b ≡ sum 3 b

-- four rows out of their column form
pub record EndsColumn (len : ℕ) (before after : List ℕ) : Type 0 where
  pub first : (b : ℕ) → b < len → row_byte len after 0 b ≡ bit_xor (bit_xor (row_byte len before 0 b) (bit_xor (row_byte len before 1 b) (row_byte len before 3 b))) (row_byte len before 2 b)
  pub second : (b : ℕ) → b < len → row_byte len after 1 b ≡ bit_xor (row_byte len before 1 b) (row_byte len before 3 b)
  pub third : (b : ℕ) → b < len → row_byte len after 2 b ≡ bit_xor (row_byte len before 2 b) (row_byte len before 3 b)
  pub fourth : (b : ℕ) → b < len → row_byte len after 3 b ≡ row_byte len before 3 b
