-- What the nodes of a column add to the rows of as many unknown ones, and the form that this takes for two and for three.
use Rattle.std.specs.Prelude.{◌≡◌, ℕ, ◌+◌, ◌-◌, ◌*◌, ◌<◌, ◌⊎◌, List, get_or, bit_xor}
use Rattle.clay_field.specs.Field.{product}
use Rattle.clay_model.specs.Sums.{sum_below}
use Rattle.generator_matrix.specs.Generated.{factor_at}
use Rattle.generator_matrix.specs.Columns.{both_of}

-- to byte b of each of m rows of len bytes the values of m nodes are added, each times its factor
pub record AddsNodes (m len : ℕ) (factor value : ℕ → ℕ → ℕ) (before after : List ℕ) : Type 0 where
  pub at : (e b : ℕ) → e < m → b < len
      → get_or after (e * len + b) 0 ≡ bit_xor (get_or before (e * len + b) 0) (sum_below m (λ x. product (factor x e) (value x b)))

-- the factors of two nodes: each has c in the other's row, and one more in its own
pub record IsColumnOfTwo (factors : List ℕ) (c : ℕ) : Type 0 where
  pub first_own : factor_at factors 2 0 0 ≡ bit_xor 1 c
  pub first_other : factor_at factors 2 0 1 ≡ c
  pub second_other : factor_at factors 2 1 0 ≡ c
  pub second_own : factor_at factors 2 1 1 ≡ bit_xor 1 c

-- the byte of a row of two: its own node's value is added, and c times those of both
abbrev pub own_added : ℕ → List ℕ → List ℕ → List ℕ → List ℕ → ℕ → ℕ
own_added c own u0 u1 d k = bit_xor (bit_xor (get_or d k 0) (get_or own k 0)) (product c (both_of u0 u1 k))

-- the first or the last of three
abbrev pub IsEnd : ℕ → Type 0
IsEnd n = (n ≡ 0) ⊎ (n ≡ 2)

-- what the factors of a node in three rows add up to, of which one is the middle row
abbrev pub node_sum : List ℕ → ℕ → ℕ → ℕ → ℕ
node_sum factors node row last = bit_xor (bit_xor (factor_at factors 3 node row) (factor_at factors 3 node 1)) (factor_at factors 3 node last)

-- the factors of three nodes: in the middle row those of the middle node and of the near end differ by one, in the last row they are the same
pub record IsColumnOfThree (factors : List ℕ) (near last : ℕ) : Type 0 where
  pub near_end : IsEnd near
  pub last_end : IsEnd last
  pub near_sum : node_sum factors near (2 - last) last ≡ 1
  pub middle_sum : node_sum factors 1 (2 - last) last ≡ 1
  pub far_sum : node_sum factors (2 - near) (2 - last) last ≡ 1
  pub middle_row : factor_at factors 3 1 1 ≡ bit_xor 1 (factor_at factors 3 near 1)
  pub last_row : factor_at factors 3 1 last ≡ factor_at factors 3 near last

-- what three nodes add to the middle row, and to the last one
abbrev pub middle_part : ℕ → ℕ → List ℕ → List ℕ → List ℕ → ℕ → ℕ
middle_part sigma tau near middle far k = bit_xor (bit_xor (get_or middle k 0) (product sigma (both_of near middle k))) (product tau (get_or far k 0))

abbrev pub last_part : ℕ → ℕ → List ℕ → List ℕ → List ℕ → ℕ → ℕ
last_part kappa rho near middle far k = bit_xor (product kappa (both_of near middle k)) (product rho (get_or far k 0))

-- the bytes of the three rows
abbrev pub middle_added : ℕ → ℕ → List ℕ → List ℕ → List ℕ → List ℕ → ℕ → ℕ
middle_added sigma tau near middle far d k = bit_xor (get_or d k 0) (middle_part sigma tau near middle far k)

abbrev pub last_row_added : ℕ → ℕ → List ℕ → List ℕ → List ℕ → List ℕ → ℕ → ℕ
last_row_added kappa rho near middle far d k = bit_xor (get_or d k 0) (last_part kappa rho near middle far k)

abbrev pub row_added : ℕ → ℕ → ℕ → ℕ → List ℕ → List ℕ → List ℕ → List ℕ → ℕ → ℕ
row_added sigma tau kappa rho near middle far d k =
    bit_xor
    (bit_xor (bit_xor (bit_xor (get_or d k 0) (both_of near middle k)) (get_or far k 0)) (middle_part sigma tau near middle far k))
    (last_part kappa rho near middle far k)
