use Rattle.std.proofs.Common.{◌≡◌, ℕ, zero, suc, inl, inr, subst, ◌+◌, ◌-◌, ◌*◌, ◌/◌, ◌%◌, ◌^◌, ◌<◌, ◌≤◌, List, [], ◌∷◌, length, get_or, set, refl, sym, ap, ◌∙◌, arith}
use Rattle.std.proofs.lemmas.Nat.{mod_below, mul-add-lt, mod-mul-add, div-mul-add, div-add-mod'}
use Rattle.std.proofs.lemmas.Bool.{cases_eq}
use Rattle.std.proofs.Math.Nat.{mul_comm, mul-le-mul_right, pow-le-pow_right, div-mul-le_self, mod-le, pow-zero, mod-one, pow-suc, one-le-pow, mod-eq_of_lt, add-mul-div_right, add-mul-mod_self_right}
use Rattle.std.proofs.lemmas.List.{length-set, get_or-set_same, get_or-set_other, set-set, set-get_or}
use Rattle.clay_grid.specs.Shape.{Shape, row_count, column_count, layer_count}
use Rattle.clay_grid.specs.Layers.{digits_of, index_of, IsLayer, layer_of, PlacedVertex, vertex_at, partner_of}

pub length-digits_of : (q t n : ℕ) → length (digits_of q t n) ≡ t
unfolding digits_of
length-digits_of q zero n = refl
length-digits_of q (suc t) n = ap suc (length-digits_of q t n)

pub get_or-digits_of : (q t n y : ℕ) → y < t → get_or (digits_of q t n) y 0 ≡ n / q ^ (t - 1 - y) % q
unfolding digits_of
get_or-digits_of q zero n y h = absurd (omega arith)
get_or-digits_of q (suc t) n zero h = ap (λ e. n / q ^ e % q) (omega arith)
get_or-digits_of q (suc t) n (suc y) h = get_or-digits_of q t n y (omega arith) ∙ ap (λ e. n / q ^ e % q) (omega arith)

pub IsLayer-digits_of : (q t n : ℕ) → 0 < q → IsLayer q t (digits_of q t n)
IsLayer-digits_of q t n rows = record {
  long = length-digits_of q t n;
  digits = λ y h. subst (λ d. d < q) (sym (get_or-digits_of q t n y h)) (mod_below _ q rows);
}

tail_digits : (q d : ℕ) (ds : List ℕ) → ((y : ℕ) → y < length (d ∷ ds) → get_or (d ∷ ds) y 0 < q) → (y : ℕ) → y < length ds → get_or ds y 0 < q
tail_digits q d ds each y h = each (suc y) (omega arith)

index_below : (q : ℕ) (z : List ℕ) → ((y : ℕ) → y < length z → get_or z y 0 < q) → index_of q z < q ^ length z
index_below q [] each = omega (arith, pow-zero q)
index_below q (d ∷ ds) each =
    subst (λ n. index_of q (d ∷ ds) < n) (sym (pow-suc q (length ds)))
    (mul-add-lt d (q ^ length ds) (index_of q ds) q (each 0 (omega arith)) (index_below q ds (tail_digits q d ds each)))

pub index_of-lt : (q t : ℕ) (z : List ℕ) → IsLayer q t z → index_of q z < q ^ t
index_of-lt q t z l =
    subst (λ n. index_of q z < q ^ n) l.long (index_below q z (λ y h. l.digits y (subst (λ n. y < n) l.long h)))

split_digit : (n p q : ℕ) → 0 < p → 0 < q → n / p % q * p + n % p ≡ n % (p * q)
split_digit n p q hp hq =
    let a : ℕ = n / p / q in
    let b : ℕ = n / p % q in
    let r : ℕ = n % p in
    let outer : n / p * p + r ≡ n = div-add-mod' n p in
    let inner : a * q + b ≡ n / p = div-add-mod' (n / p) q in
    let below : b * p + r < p * q = mul-add-lt b p r q (mod_below (n / p) q hq) (mod_below n p hp) in
    let open_up : a * (p * q) + (b * p + r) ≡ (a * q + b) * p + r = omega arith in
    sym (mod-mul-add a (p * q) (b * p + r) below) ∙ ap (λ x. x % (p * q)) (open_up ∙ ap (λ x. x * p + r) inner ∙ outer)

index_of-digits_of_any : (q t n : ℕ) → 0 < q → index_of q (digits_of q t n) ≡ n % q ^ t
unfolding digits_of
index_of-digits_of_any q zero n rows = sym (ap (λ x. n % x) (pow-zero q) ∙ mod-one n)
index_of-digits_of_any q (suc t) n rows =
    (λ i. n / q ^ t % q * q ^ length-digits_of q t n i + index_of-digits_of_any q t n rows i)
    ∙ split_digit n (q ^ t) q (one-le-pow t q rows) rows
    ∙ ap (λ x. n % x) (sym (pow-suc q t))

pub index_of-digits_of : (q t n : ℕ) → 0 < q → n < q ^ t → index_of q (digits_of q t n) ≡ n
index_of-digits_of q t n rows h = index_of-digits_of_any q t n rows ∙ mod-eq_of_lt h

pub partner_of-partner_of : (v : PlacedVertex) → v.column < length v.layer → partner_of (partner_of v) ≡ v
partner_of-partner_of v h i = record {
  row = get_or-set_same v.layer v.column v.row 0 h i;
  column = v.column;
  layer = (set-set v.layer v.column v.row (get_or v.layer v.column 0) ∙ set-get_or v.layer v.column 0) i;
}

-- the lowest t digits of a number
digits_of-add : (q t a r : ℕ) → 0 < q → digits_of q t (a * q ^ t + r) ≡ digits_of q t r
unfolding digits_of
digits_of-add q zero a r rows = refl
digits_of-add q (suc t) a r rows =
    let whole : a * q ^ suc t + r ≡ a * q * q ^ t + r = ap (λ p. a * p + r) (pow-suc q t) ∙ omega arith in
    let turned : a * q * q ^ t + r ≡ r + a * q * q ^ t = omega arith in
    ap (λ n. n / q ^ t % q ∷ digits_of q t n) whole
    ∙ (λ i. ((ap (λ n. n / q ^ t) turned ∙ add-mul-div_right r (a * q) (one-le-pow t q rows)) i) % q ∷ digits_of-add q t (a * q) r rows i)
    ∙ ap (λ d. d ∷ digits_of q t r) (add-mul-mod_self_right (r / q ^ t) a q)

digits_of-index : (q : ℕ) (z : List ℕ) → 0 < q → ((y : ℕ) → y < length z → get_or z y 0 < q) → digits_of q (length z) (index_of q z) ≡ z
unfolding digits_of
digits_of-index q [] rows each = refl
digits_of-index q (d ∷ ds) rows each =
    let p : ℕ = q ^ length ds in
    let r : ℕ = index_of q ds in
    let small : r < p = index_below q ds (tail_digits q d ds each) in
    let first : (d * p + r) / p % q ≡ d = ap (λ n. n % q) (div-mul-add d p r small) ∙ mod-eq_of_lt (each 0 (omega arith)) in
    λ i. first i ∷ (digits_of-add q (length ds) d r rows ∙ digits_of-index q ds rows (tail_digits q d ds each)) i

pub digits_of-index_of : (q t : ℕ) (z : List ℕ) → 0 < q → IsLayer q t z → digits_of q t (index_of q z) ≡ z
digits_of-index_of q t z rows l =
    ap (λ n. digits_of q n (index_of q z)) (sym l.long)
    ∙ digits_of-index q z rows (λ y h. l.digits y (subst (λ n. y < n) l.long h))

-- a digit that is changed
pub index_of-set : (q : ℕ) (z : List ℕ) (y x : ℕ) → y < length z → index_of q (set z y x) + get_or z y 0 * q ^ (length z - 1 - y) ≡ index_of q z + x * q ^ (length z - 1 - y)
index_of-set q [] y x h = absurd (omega arith)
index_of-set q (d ∷ ds) zero x h =
    let e : length (d ∷ ds) - 1 - 0 ≡ length ds = omega arith in
    rw e (omega arith)
index_of-set q (d ∷ ds) (suc y) x h =
    let e : length (d ∷ ds) - 1 - suc y ≡ length ds - 1 - y = omega arith in
    let before = index_of-set q ds y x (omega arith) in
    let same : length (set ds y x) ≡ length ds = length-set ds y x in
    rw (e, same) (omega (arith, before))

pub IsLayer-set : (q t : ℕ) (z : List ℕ) (y x : ℕ) → x < q → y < t → IsLayer q t z → IsLayer q t (set z y x)
IsLayer-set q t z y x hx hy l = record {
  long = length-set z y x ∙ l.long;
  digits = λ v hv. elim (cases_eq v y) [
    | inl same ↦ subst (λ d. d < q) (sym (ap (λ u. get_or (set z y x) u 0) same ∙ get_or-set_same z y x 0 (subst (λ n. y < n) (sym l.long) hy))) hx
    | inr other ↦ subst (λ d. d < q) (sym (get_or-set_other z y v x 0 other)) (l.digits v hv)
  ];
}

-- what a digit counts
pub stride_column : (q t y : ℕ) → 0 < q → y < t → q * q ^ (t - 1 - y) ≤ q ^ t
stride_column q t y rows h =
    let power : q ^ suc (t - 1 - y) ≤ q ^ t = pow-le-pow_right rows (omega arith) in
    omega (arith, pow-suc q (t - 1 - y), mul_comm q (q ^ (t - 1 - y)))

-- the digits of the number with a digit exchanged
pub partner_number : (q t z y x s d : ℕ) → 0 < q → z < q ^ t → y < t → s ≡ q ^ (t - 1 - y) → d ≡ z / s % q → z - d * s + x * s ≡ index_of q (set (digits_of q t z) y x)
partner_number q t z y x s d rows hz hy stride digit =
    let long : length (digits_of q t z) ≡ t = length-digits_of q t z in
    let power : q ^ (length (digits_of q t z) - 1 - y) ≡ s = ap (λ n. q ^ (n - 1 - y)) long ∙ sym stride in
    let own : get_or (digits_of q t z) y 0 ≡ d = get_or-digits_of q t z y hy ∙ ap (λ p. z / p % q) (sym stride) ∙ sym digit in
    let exchanged = index_of-set q (digits_of q t z) y x (subst (λ n. y < n) (sym long) hy) in
    let number : index_of q (digits_of q t z) ≡ z = index_of-digits_of q t z rows hz in
    let left : index_of q (set (digits_of q t z) y x) + get_or (digits_of q t z) y 0 * q ^ (length (digits_of q t z) - 1 - y) ≡ index_of q (set (digits_of q t z) y x) + d * s =
    λ i. index_of q (set (digits_of q t z) y x) + own i * power i in
    let right : index_of q (digits_of q t z) + x * q ^ (length (digits_of q t z) - 1 - y) ≡ z + x * s = λ i. number i + x * power i in
    let moved : index_of q (set (digits_of q t z) y x) + d * s ≡ z + x * s = sym left ∙ exchanged ∙ right in
    let small : d ≤ z / s = subst (λ n. n ≤ z / s) (sym digit) (mod-le (z / s) q) in
    let within : d * s ≤ z / s * s = mul-le-mul_right s small in
    let under : d * s ≤ z = omega (arith, div-mul-le_self z s) in
    omega arith

pub partner_vertex : (g : Shape) (x y z s d : ℕ) → 0 < row_count g → x < row_count g → y < column_count g → z < layer_count g → s ≡ row_count g ^ (column_count g - 1 - y) → d ≡ z / s % row_count g
    → vertex_at g d y (z - d * s + x * s) ≡ partner_of (vertex_at g x y z)
partner_vertex g x y z s d rows hx hy hz stride digit =
    let number = partner_number (row_count g) (column_count g) z y x s d rows hz hy stride digit in
    let own : d ≡ get_or (layer_of g z) y 0 = digit ∙ sym (get_or-digits_of (row_count g) (column_count g) z y hy ∙ ap (λ p. z / p % row_count g) (sym stride)) in
    let layer : IsLayer (row_count g) (column_count g) (set (layer_of g z) y x) =
    IsLayer-set (row_count g) (column_count g) (layer_of g z) y x hx hy (IsLayer-digits_of (row_count g) (column_count g) z rows) in
    let digits : layer_of g (z - d * s + x * s) ≡ set (layer_of g z) y x = ap (layer_of g) number ∙ digits_of-index_of (row_count g) (column_count g) (set (layer_of g z) y x) rows layer in
    λ i. record { row = own i; column = y; layer = digits i }

pub partner_below : (g : Shape) (x y z s d : ℕ) → 0 < row_count g → x < row_count g → y < column_count g → z < layer_count g → s ≡ row_count g ^ (column_count g - 1 - y) → d ≡ z / s % row_count g
    → z - d * s + x * s < layer_count g
partner_below g x y z s d rows hx hy hz stride digit =
    subst (λ n. n < layer_count g) (sym (partner_number (row_count g) (column_count g) z y x s d rows hz hy stride digit))
    (index_of-lt (row_count g) (column_count g) _ (IsLayer-set (row_count g) (column_count g) (layer_of g z) y x hx hy (IsLayer-digits_of (row_count g) (column_count g) z rows)))
