-- Bytes cut into stripes, and joined.
use Rattle.std.proofs.Common.{◌≡◌, ℕ, suc, ◌+◌, ◌-◌, ◌*◌, ◌/◌, ◌<◌, ◌≤◌, List, [], ◌∷◌, ◌++◌, length, get_or, take, drop, min, inl, inr, refl, sym, ap, ◌∙◌, add-one, arith, Vec, Global}
use Rattle.std.specs.List.{concat}
use Rattle.std.proofs.lemmas.Bool.{cases_lt}
use Rattle.std.proofs.lemmas.List.{take_all, drop_all, append-nil, append_assoc, length-take, length-drop, length-append, take_at, drop_at, take-append-le, take_min, drop_min, drop-drop, map_more}
use Rattle.std.proofs.lemmas.Nat.{mul-le}
use Rattle.std.proofs.Math.Seq.{take-add}
use Rattle.std.proofs.Math.Nat.{add-div_right, div-eq_of_lt}
use Rattle.clay_model.proofs.Stripes.{concat-stripes_of}
use Rattle.clay_model.specs.Chunks.{contents}
use Rattle.code_laws.proofs.Lists.{concat_push}
use Rattle.clay_grid.specs.Shape.{Shape, layer_count, chunk_length, stripe_length}
use Rattle.clay_grid.specs.Limits.{IsGeometry}
use Rattle.clay_model.specs.Code.{padded, stripes_below, stripes_of}

-- how many stripes of s bytes n bytes need
abbrev pub stripes_for : ℕ → ℕ → ℕ
stripes_for s n = (n + s - 1) / s

no_stripes : (s : ℕ) → 0 < s → stripes_for s 0 ≡ 0
no_stripes s some = div-eq_of_lt (omega arith)

one_more_stripe : (s n : ℕ) → 0 < s → 0 < n → stripes_for s n ≡ suc (stripes_for s (n - s))
one_more_stripe s n some bytes =
    let first : n + s - 1 ≡ n - 1 + s = omega arith in
    ap (λ v. v / s) first ∙ add-div_right (n - 1) some ∙ add-one ((n - 1) / s) ∙ ap suc (elim (cases_lt n s) [
      | inl short ↦ div-eq_of_lt (omega arith) ∙ sym (div-eq_of_lt (omega arith))
      | inr long ↦ let rest : n - 1 ≡ n - s + s - 1 = omega arith in ap (λ v. v / s) rest
    ])

pub stripes_of_none : (g : Shape) → 0 < stripe_length g → stripes_of g [] ≡ []
stripes_of_none g some = ap (λ n. stripes_below (stripe_length g) n []) (no_stripes (stripe_length g) some)

-- the first stripe, and those of the rest
pub stripes_of_some : (g : Shape) (bytes : List ℕ) → 0 < stripe_length g → 0 < length bytes
    → stripes_of g bytes ≡ padded (stripe_length g) (take (stripe_length g) bytes) ∷ stripes_of g (drop (stripe_length g) bytes)
stripes_of_some g bytes some there =
    let s : ℕ = stripe_length g in
    ap (λ n. stripes_below s n bytes) (one_more_stripe s (length bytes) some there)
    ∙ ap (λ n. padded s (take s bytes) ∷ stripes_below s (stripes_for s n) (drop s bytes)) (sym (length-drop s bytes))

-- the front of joined lists
pub take-append : (n : ℕ) (xs ys : List ℕ) → take n (xs ++ ys) ≡ take n xs ++ take (n - length xs) ys
take-append n xs ys =
    elim (cases_lt n (length xs)) [
      | inl short ↦
          let none : n - length xs ≡ 0 = omega arith in
          take-append-le n xs ys (omega arith) ∙ sym (append-nil (take n xs)) ∙ ap (λ k. take n xs ++ take k ys) (sym none)
      | inr long ↦
          let parts : n ≡ length xs + (n - length xs) = omega arith in
          ap (λ k. take k (xs ++ ys)) parts
          ∙ take-add (length xs) (n - length xs) (xs ++ ys)
          ∙ (λ i. take_at xs ys (length xs) refl i ++ take (n - length xs) (drop_at xs ys (length xs) refl i))
          ∙ ap (λ l. l ++ take (n - length xs) ys) (sym (take_all n xs long))
    ]

pub joined_front : (g : Shape) (bytes : List ℕ) → 0 < stripe_length g → take (length bytes) (concat (stripes_of g bytes)) ≡ bytes
joined_front g bytes some = ap (take (length bytes)) (concat-stripes_of g bytes some) ∙ take_at bytes _ (length bytes) refl

pub joined_enough : (g : Shape) (bytes : List ℕ) → 0 < stripe_length g → length bytes ≤ length (concat (stripes_of g bytes))
joined_enough g bytes some =
    let whole = ap length (concat-stripes_of g bytes some) in
    omega (arith, whole, length-append {A = ℕ})

-- one stripe more is cut
pub one_more_cut : (g : Shape) (bytes : List ℕ) (at end : ℕ) (done : List (List ℕ)) (stripe : List ℕ) → 0 < stripe_length g → at < length bytes
    → end ≡ min (at + stripe_length g) (length bytes) → stripe ≡ padded (stripe_length g) (take (end - at) (drop at bytes))
    → done ++ stripes_of g (drop at bytes) ≡ stripes_of g bytes → (done ++ stripe ∷ []) ++ stripes_of g (drop end bytes) ≡ stripes_of g bytes
one_more_cut g bytes at end done stripe some there end_is stripe_is before =
    let s : ℕ = stripe_length g in
    let rest : List ℕ = drop at bytes in
    let long : length rest ≡ length bytes - at = length-drop at bytes in
    let width : end - at ≡ min s (length rest) = omega (arith, end_is, long) in
    let first : stripe ≡ padded s (take s rest) = stripe_is ∙ ap (λ n. padded s (take n rest)) width ∙ ap (padded s) (take_min s rest) in
    let later : drop end bytes ≡ drop s rest = ap (λ n. drop n bytes) end_is ∙ drop_min (at + s) bytes ∙ sym (drop-drop s at bytes) in
    append_assoc done (stripe ∷ []) (stripes_of g (drop end bytes))
    ∙ ap (λ l. done ++ l) ((λ i. first i ∷ stripes_of g (later i)) ∙ sym (stripes_of_some g rest some (omega (arith, long))))
    ∙ before

-- all is cut
pub all_cut : (g : Shape) (bytes : List ℕ) (at : ℕ) (done : List (List ℕ)) → 0 < stripe_length g → length bytes ≤ at
    → done ++ stripes_of g (drop at bytes) ≡ stripes_of g bytes → done ≡ stripes_of g bytes
all_cut g bytes at done some end before =
    sym (append-nil done) ∙ ap (λ l. done ++ l) (sym (ap (stripes_of g) (drop_all at bytes end) ∙ stripes_of_none g some)) ∙ before

-- one stripe more is joined
pub one_more_joined : (len i n : ℕ) (vs : List (Vec ℕ Global)) (v : Vec ℕ Global) (bytes : List ℕ) → i < length vs → v ≡ get_or vs i v
    → bytes ≡ take len (concat (contents (take i vs))) → n ≡ min (len - length bytes) (length v.items)
    → bytes ++ take n v.items ≡ take len (concat (contents (take (i + 1) vs)))
one_more_joined len i n vs v bytes h item before n_is =
    let front : List ℕ = concat (contents (take i vs)) in
    let taken : length bytes ≡ min len (length front) = ap length before ∙ length-take len front in
    let left : len - length bytes ≡ len - length front = omega (arith, taken) in
    ap (λ l. bytes ++ l) (ap (λ k. take k v.items) n_is ∙ take_min (len - length bytes) v.items)
    ∙ (λ k. before k ++ take (left k) v.items)
    ∙ sym (take-append len front v.items)
    ∙ ap (take len) (sym (concat_push (contents (take i vs)) v.items))
    ∙ ap (λ l. take len (concat l)) (ap (λ (w : Vec ℕ Global). contents (take i vs) ++ w.items ∷ []) item ∙ sym (map_more (λ (w : Vec ℕ Global). w.items) vs i v h))

pub stripe_positive : (g : Shape) → IsGeometry g → 0 < stripe_length g
stripe_positive g geometry =
    let chunk : 1 * 1 ≤ layer_count g * g.width = mul-le 1 1 (layer_count g) g.width (omega (arith, geometry.some_layers, geometry.limits.parity_chunks.0)) (omega (arith, geometry.limits.width.0)) in
    let stripe : 1 * 1 ≤ g.data_count * chunk_length g = mul-le 1 1 g.data_count (chunk_length g) (omega (arith, geometry.limits.data_chunks)) chunk in
    omega arith
