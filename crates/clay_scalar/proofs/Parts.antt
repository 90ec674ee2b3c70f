-- Parts of w bytes, one after another in a list.
use Rattle.std.proofs.Common.{◌≡◌, ℕ, ◌+◌, ◌-◌, ◌*◌, ◌<◌, ◌≤◌, List, length, get_or, take, drop, sym, subst, ◌∙◌, ap, inl, inr, arith, rules, bit_xor}
use Rattle.std.proofs.Math.Nat.{mul_comm}
use Rattle.std.proofs.lemmas.Bool.{cases_eq}
use Rattle.std.proofs.lemmas.Nat.{mul-add-lt, row_fits}
use Rattle.std.proofs.lemmas.List.{length-take, length-drop, get_or-take, get_or-drop, places}
use borrow.Rule.Slice.PartMut.{put_mid}
use Rattle.clay_field.specs.Field.{product, power_of}
use Rattle.clay_model.specs.Sums.{sum_below}
use Rattle.clay_model.proofs.SumLaws.{sum_below_same}
use Rattle.clay_model.specs.Points.{byte_of}
use Rattle.code_laws.specs.Lagrange.{IsLagrange}

-- byte b of the part e
pub part_byte : (xs : List ℕ) (e w b : ℕ) → b < w → get_or (take ((e + 1) * w - e * w) (drop (e * w) xs)) b 0 ≡ byte_of xs w b e
part_byte xs e w b h =
    let long : (e + 1) * w - e * w ≡ w = omega arith in
    let within : b < (e + 1) * w - e * w = omega arith in
    get_or-take ((e + 1) * w - e * w) (drop (e * w) xs) b 0 within ∙ get_or-drop (e * w) xs b 0

-- the list after a write to the part e
abbrev pub with_part : List ℕ → ℕ → ℕ → List ℕ → List ℕ
with_part xs e w ys = put_mid (e * w) ((e + 1) * w - e * w) xs ys

pub get_or-with_part_below : (xs ys : List ℕ) (e w k : ℕ) → (e + 1) * w ≤ length xs → k < e * w → get_or (with_part xs e w ys) k 0 ≡ get_or xs k 0
get_or-with_part_below xs ys e w k fits h = search (rules, places)

pub get_or-with_part_above : (xs ys : List ℕ) (e w k : ℕ) → (e + 1) * w ≤ length xs → length ys ≡ (e + 1) * w - e * w → (e + 1) * w ≤ k → get_or (with_part xs e w ys) k 0 ≡ get_or xs k 0
get_or-with_part_above xs ys e w k fits long h = search (rules, places)

pub byte_of-with_part : (xs ys : List ℕ) (e w b : ℕ) → (e + 1) * w ≤ length xs → length ys ≡ (e + 1) * w - e * w → b < w → byte_of (with_part xs e w ys) w b e ≡ get_or ys b 0
byte_of-with_part xs ys e w b fits long h = search (rules, places)

-- a place of the part d lies below the part e
pub place_below : (d e w b : ℕ) → d < e → b < w → d * w + b < e * w
place_below d e w b h l = subst (λ n. d * w + b < n) (mul_comm w e) (mul-add-lt d w b e h l)

pub part_fits : (e w n m : ℕ) → e < n → m ≡ n * w → (e + 1) * w ≤ m
part_fits e w n m h long = let fits : e * w + w ≤ n * w = row_fits e w n w h (omega arith) in omega arith

pub length_of_part : (xs : List ℕ) (e w n : ℕ) → e < n → length xs ≡ n * w → length (take ((e + 1) * w - e * w) (drop (e * w) xs)) ≡ w
length_of_part xs e w n within long =
    let fits : (e + 1) * w ≤ length xs = part_fits e w n (length xs) within long in
    simp (length-take, length-drop) (omega arith)

-- ---- sums to which the values at a point are added, one power after another

pub record HasAdded (w point j : ℕ) (values before sums : List ℕ) : Type 0 where
  pub done : (i b : ℕ) → i < j → b < w → byte_of sums w b i ≡ bit_xor (byte_of before w b i) (product (power_of point i) (get_or values b 0))
  pub unchanged : (k : ℕ) → j * w ≤ k → get_or sums k 0 ≡ get_or before k 0

pub HasAdded-more : (w point j n power : ℕ) (values before sums part : List ℕ) → j < n → length sums ≡ n * w → length part ≡ (j + 1) * w - j * w → power ≡ power_of point j
    → ((b : ℕ) → b < length part → get_or part b 0 ≡ bit_xor (get_or (take ((j + 1) * w - j * w) (drop (j * w) sums)) b 0) (product power (get_or values b 0)))
    → HasAdded w point j values before sums → HasAdded w point (j + 1) values before (with_part sums j w part)
HasAdded-more w point j n power values before sums part within long part_long power_is part_is added =
    let fits : (j + 1) * w ≤ length sums = part_fits j w n (length sums) within long in
    record {
      done = λ i b h l. elim (cases_eq i j) [
        | inl same ↦
            ap (λ k. byte_of (with_part sums j w part) w b k) same
            ∙ byte_of-with_part sums part j w b fits part_long l
            ∙ part_is b (omega arith)
            ∙ (λ k. bit_xor ((part_byte sums j w b l ∙ added.unchanged (j * w + b) (omega arith)) k) (product (power_is k) (get_or values b 0)))
            ∙ ap (λ k. bit_xor (byte_of before w b k) (product (power_of point k) (get_or values b 0))) (sym same)
        | inr other ↦
            get_or-with_part_below sums part j w (i * w + b) fits (place_below i j w b (omega (arith, other)) l)
            ∙ added.done i b (omega (arith, other)) l
      ];
      unchanged = λ k h.
          get_or-with_part_above sums part j w k fits part_long h
          ∙ added.unchanged k (omega arith);
    }

-- ---- rows that are written one after another

IsLagrange-same : (points : List ℕ) (e : ℕ) (c d : ℕ → ℕ) → ((j : ℕ) → j < length points → d j ≡ c j) → IsLagrange points e c → IsLagrange points e d
IsLagrange-same points e c d same lagrange i h =
    sum_below_same (length points) _ (λ j. product (power_of (get_or points i 0) j) (c j)) (λ j l. ap (product (power_of (get_or points i 0) j)) (same j l))
    ∙ lagrange i h

pub record HasRows (points : List ℕ) (e : ℕ) (coefficients : List ℕ) : Type 0 where
  pub each : (d : ℕ) → d < e → IsLagrange points d (λ j. byte_of coefficients (length points) j d)

pub HasRows-more : (points : List ℕ) (e : ℕ) (coefficients row : List ℕ) → e < length points → length coefficients ≡ length points * length points → length row ≡ (e + 1) * length points - e * length points
    → IsLagrange points e (λ j. get_or row j 0) → HasRows points e coefficients → HasRows points (e + 1) (with_part coefficients e (length points) row)
HasRows-more points e coefficients row within long row_long lagrange rows =
    let n : ℕ = length points in
    let fits : (e + 1) * n ≤ length coefficients = part_fits e n n (length coefficients) within long in
    record {
      each = λ d h. elim (cases_eq d e) [
        | inl same ↦
            subst (λ k. IsLagrange points k (λ j. byte_of (with_part coefficients e n row) n j k)) (sym same)
            (IsLagrange-same points e (λ j. get_or row j 0) (λ j. byte_of (with_part coefficients e n row) n j e) (λ j l. byte_of-with_part coefficients row e n j fits row_long l) lagrange)
        | inr other ↦
            IsLagrange-same points d (λ j. byte_of coefficients n j d) (λ j. byte_of (with_part coefficients e n row) n j d)
            (λ j l. get_or-with_part_below coefficients row e n (d * n + j) fits (place_below d e n j (omega (arith, other)) l))
            (rows.each d (omega (arith, other)))
      ];
    }

-- ---- values that are combined one after another

pub record HasCombined (points coefficients sums : List ℕ) (w e : ℕ) (values : List ℕ) : Type 0 where
  pub each : (d b : ℕ) → d < e → b < w → byte_of values w b d ≡ sum_below (length points) (λ j. product (byte_of coefficients (length points) j d) (byte_of sums w b j))

pub HasCombined-more : (points coefficients sums : List ℕ) (w e n width : ℕ) (values row part : List ℕ) → n ≡ length points → width ≡ w → e < n → length values ≡ n * w → length part ≡ (e + 1) * w - e * w
    → row ≡ take ((e + 1) * n - e * n) (drop (e * n) coefficients) → length row ≡ n
    → ((b : ℕ) → b < length part → get_or part b 0 ≡ sum_below (length row) (λ j. product (get_or row j 0) (get_or sums (j * width + b) 0)))
    → HasCombined points coefficients sums w e values → HasCombined points coefficients sums w (e + 1) (with_part values e w part)
HasCombined-more points coefficients sums w e n width values row part count width_is within long part_long row_is row_long part_is before =
    let fits : (e + 1) * w ≤ length values = part_fits e w n (length values) within long in
    let sum_of : ℕ → ℕ → ℕ = λ d b. sum_below (length points) (λ j. product (byte_of coefficients (length points) j d) (byte_of sums w b j)) in
    record {
      each = λ d b h l. elim (cases_eq d e) [
        | inl same ↦
            ap (λ k. byte_of (with_part values e w part) w b k) same
            ∙ byte_of-with_part values part e w b fits part_long l
            ∙ part_is b (omega arith)
            ∙ sum_below_same (length row) _ (λ j. product (byte_of coefficients n j e) (byte_of sums w b j))
            (λ j g i. product ((ap (λ xs. get_or xs j 0) row_is ∙ part_byte coefficients e n j (subst (λ k. j < k) row_long g)) i) (get_or sums (j * width_is i + b) 0))
            ∙ ap (λ k. sum_below k (λ j. product (byte_of coefficients n j e) (byte_of sums w b j))) (row_long ∙ count)
            ∙ ap (λ k. sum_below (length points) (λ j. product (byte_of coefficients k j e) (byte_of sums w b j))) count
            ∙ ap (λ k. sum_of k b) (sym same)
        | inr other ↦
            get_or-with_part_below values part e w (d * w + b) fits (place_below d e w b (omega (arith, other)) l)
            ∙ before.each d b (omega (arith, other)) l
      ];
    }
