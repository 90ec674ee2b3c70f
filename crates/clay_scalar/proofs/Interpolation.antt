-- The values at points from the coefficients of the Lagrange polynomials.
use Rattle.std.proofs.Common.{◌≡◌, ℕ, zero, suc, ◌+◌, ◌*◌, ◌^◌, ◌<◌, List, length, get_or, refl, sym, ap, ◌∙◌, eqb, cond, bit_xor}
use Rattle.std.proofs.lemmas.Bool.{eq-eqb, ne_eqb}
use Rattle.clay_field.specs.Field.{product, power_of}
use Rattle.clay_field.proofs.FieldLaws.{product_comm, product_assoc, zero_product, one_product}
use Rattle.clay_model.specs.Sums.{sum_below}
use Rattle.clay_model.proofs.SumLaws.{sum_below_same, sum_below-xor, sum_below-product, sum_below-zero, product_swap}
use Rattle.clay_model.specs.Points.{AreDistinct, byte_of, HaveSums, SumsTellValues}
use Rattle.code_laws.specs.Lagrange.{value_at, IsInterpolation}
use Rattle.code_laws.proofs.PointSums.{sum_at, AreApart, same_values, solution}
use Rattle.code_laws.proofs.Polynomials.{sum_below-one}

sum_below-swap : (n m : ℕ) (h : ℕ → ℕ → ℕ) → sum_below n (λ j. sum_below m (h j)) ≡ sum_below m (λ i. sum_below n (λ j. h j i))
sum_below-swap zero m h = sym (sum_below-zero m (λ i. 0) (λ i l. refl))
sum_below-swap (suc n) m h =
    ap (λ x. bit_xor x (sum_below m (h n))) (sum_below-swap n m h)
    ∙ sym (sum_below-xor m (λ i. sum_below n (λ j. h j i)) (h n))

sum_below-product_left : (n c : ℕ) (f : ℕ → ℕ) → sum_below n (λ j. product (f j) c) ≡ product (sum_below n f) c
sum_below-product_left n c f =
    sum_below_same n (λ j. product (f j) c) (λ j. product c (f j)) (λ j h. product_comm (f j) c)
    ∙ sum_below-product n c f
    ∙ product_comm c (sum_below n f)

-- the coefficients of a Lagrange polynomial, summed over the sums of some values, give the value at its point
picked : (p : ℕ → ℕ) (n own : ℕ) (c f : ℕ → ℕ) → own < n → ((i : ℕ) → i < n → value_at n c (p i) ≡ cond (eqb i own) 1 0) → f own < 2 ^ 8
    → sum_below n (λ j. product (c j) (sum_at p n f j)) ≡ f own
picked p n own c f within lagrange byte =
    let term : ℕ → ℕ → ℕ = λ j i. product (product (power_of (p i) j) (c j)) (f i) in
    let each : (j : ℕ) → j < n → product (c j) (sum_at p n f j) ≡ sum_below n (term j) =
    λ j h. sym (sum_below-product n (c j) (λ i. product (power_of (p i) j) (f i)))
    ∙ sum_below_same n _ (term j) (λ i l. product_swap (c j) (power_of (p i) j) (f i) ∙ sym (product_assoc (power_of (p i) j) (c j) (f i))) in
    let weighed : (i : ℕ) → i < n → sum_below n (λ j. term j i) ≡ product (cond (eqb i own) 1 0) (f i) =
    λ i h. sum_below-product_left n (f i) (λ j. product (power_of (p i) j) (c j)) ∙ ap (λ v. product v (f i)) (lagrange i h) in
    sum_below_same n (λ j. product (c j) (sum_at p n f j)) (λ j. sum_below n (term j)) each
    ∙ sum_below-swap n n term
    ∙ sum_below_same n (λ i. sum_below n (λ j. term j i)) (λ i. product (cond (eqb i own) 1 0) (f i)) weighed
    ∙ sum_below-one n own (λ i. product (cond (eqb i own) 1 0) (f i)) within (λ i h other. ap (λ b. product (cond b 1 0) (f i)) (ne_eqb i own other) ∙ zero_product (f i))
    ∙ ap (λ b. product (cond b 1 0) (f own)) (eq-eqb own own refl)
    ∙ one_product (f own) byte

points_apart : (points : List ℕ) → AreDistinct points → ((e : ℕ) → get_or points e 0 < 2 ^ 8) → AreApart (λ e. get_or points e 0) (length points)
points_apart points distinct bytes = record {
  bytes = λ e h. bytes e;
  apart = distinct;
}

-- each value is the sum of the coefficients times the given sums
pub record AreCombined (points coefficients sums values : List ℕ) (w : ℕ) : Type 0 where
  pub each : (e b : ℕ) → e < length points → b < w → byte_of values w b e ≡ sum_below (length points) (λ j. product (byte_of coefficients (length points) j e) (byte_of sums w b j))

-- such values have the given sums
pub HaveSums-combined : (points coefficients sums values : List ℕ) (w : ℕ) → IsInterpolation points coefficients → ((k : ℕ) → get_or sums k 0 < 2 ^ 8)
    → AreCombined points coefficients sums values w → HaveSums points w values sums
HaveSums-combined points coefficients sums values w kept bytes combined j b hj hb =
    let n : ℕ = length points in
    let p : ℕ → ℕ = λ e. get_or points e 0 in
    let found = solution p n (byte_of sums w b) (points_apart points kept.distinct kept.bytes) (λ i. bytes (i * w + b)) in
    let same : (e : ℕ) → e < n → byte_of values w b e ≡ found.0 e =
    λ e h. combined.each e b h hb
    ∙ sum_below_same n _ (λ i. product (byte_of coefficients n i e) (sum_at p n found.0 i)) (λ i l. ap (product (byte_of coefficients n i e)) (sym (found.1.weighted i l)))
    ∙ picked p n e (λ i. byte_of coefficients n i e) found.0 h (kept.lagrange e h) (found.1.bytes e) in
    sum_below_same n (λ e. product (power_of (p e) j) (byte_of values w b e)) (λ e. product (power_of (p e) j) (found.0 e)) (λ e h. ap (product (power_of (p e) j)) (same e h))
    ∙ found.1.weighted j hj

pub sums_tell_values : SumsTellValues
sums_tell_values points f g distinct bytes fbytes gbytes sums e h =
    same_values (λ i. get_or points i 0) (length points) f g (points_apart points distinct bytes) fbytes gbytes sums e h
