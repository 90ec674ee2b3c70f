-- What threads made, taken out of the results.
use Rattle.std.proofs.Common.{◌≡◌, ℕ, zero, suc, ◌+◌, ◌<◌, List, [], ◌∷◌, ◌++◌, map, length, get_or, take, drop, IfOk, Ok, Err, Vec, Global, sym, subst, ap, ◌∙◌, arith}
use Rattle.std.specs.List.{AllZip, range_with_len}
use Rattle.std.proofs.lemmas.List.FromFn.{get_or-range_with_len, length-range_with_len}
use Rattle.std.proofs.lemmas.Slice.Zip.{AllZip-long}
use Rattle.std.specs.declared.result.Result.{Result}
use Rattle.std.specs.declared.alloc.AllocError.{AllocError}
use Rattle.std.proofs.lemmas.List as lists
use Rattle.clay_model.specs.Chunks.{contents}
use Rattle.clay_parity.proofs.ChunkLists.{contents_at}

vec_at : (vs : List (Vec ℕ Global)) (i : ℕ) → i < length vs → Vec ℕ Global
vec_at [] i h = absurd (omega arith)
vec_at (v ∷ vs) zero h = v
vec_at (v ∷ vs) (suc i) h = vec_at vs i (omega arith)

-- what holds of each result holds of each chunk
pub made_each : (P : ℕ → List ℕ → Type 0) (results : List (Result (Vec ℕ Global) AllocError)) (chunks : List (Vec ℕ Global)) → results ≡ map Ok chunks
    → ((i : ℕ) (d : Result (Vec ℕ Global) AllocError) → i < length chunks → IfOk (get_or results i d) (λ v. P i v.items))
    → (i : ℕ) → i < length chunks → P i (get_or (contents chunks) i [])
made_each P results chunks are each i h =
    let v : Vec ℕ Global = vec_at chunks i h in
    let here : get_or results i (Ok v) ≡ Ok (get_or chunks i v) = ap (λ l. get_or l i (Ok v)) are ∙ lists.get_or-map Ok chunks i v (Ok v) h in
    let met : P i (get_or chunks i v).items = subst (λ r. IfOk r (λ w. P i w.items)) here (each i (Ok v) h) in
    subst (P i) (sym (contents_at chunks i v h)) met

pub made_count : (results : List (Result (Vec ℕ Global) AllocError)) (chunks : List (Vec ℕ Global)) → results ≡ map Ok chunks → length chunks ≡ length results
made_count results chunks are = sym (ap length are ∙ lists.length-map chunks Ok)

-- a list that is written whole
pub written_all : {A : Type 0} (len : ℕ) (xs ys : List A) → len ≡ length xs → length ys ≡ length xs → take len (ys ++ drop (length ys) xs) ≡ ys
written_all len xs ys whole long =
    ap (λ l. take len (ys ++ l)) (lists.drop_all (length ys) xs (omega arith))
    ∙ ap (take len) (lists.append-nil ys)
    ∙ lists.take_all len ys (omega arith)

-- two facts of what was made
pub if_ok_both : {A E : Type 0} (r : Result A E) (P Q R : A → Type 0) → IfOk r P → IfOk r Q → ((v : A) → P v → Q v → R v) → IfOk r R
if_ok_both (Ok v) P Q R p q h = h v p q
if_ok_both (Err e) P Q R p q h = tt

zip_at : {Y : Type 0} (R : ℕ → Y → Type 0) (xs : List ℕ) (ys : List Y) (i : ℕ) (d : Y) → AllZip R xs ys → i < length xs → R (get_or xs i 0) (get_or ys i d)
zip_at R [] ys i d h below = absurd (omega (arith, below))
zip_at R (x ∷ xs) [] i d h below = absurd h
zip_at R (x ∷ xs) (y ∷ ys) zero d h below = h.0
zip_at R (x ∷ xs) (y ∷ ys) (suc i) d h below = zip_at R xs ys i d h.1 (omega (arith, below))

-- what a chain over the numbers below n gives for each of them
pub given_at : {Y : Type 0} (R : ℕ → Y → Type 0) (n : ℕ) (xs : List ℕ) (ys : List Y) (i : ℕ) (d : Y) → xs ≡ range_with_len 0 n → AllZip R xs ys → i < n → R i (get_or ys i d)
given_at R n xs ys i d is h below =
    let long : length xs ≡ n = ap length is ∙ length-range_with_len 0 n in
    let entry : get_or xs i 0 ≡ i = ap (λ l. get_or l i 0) is ∙ get_or-range_with_len 0 n i 0 below ∙ zero_more i in
    subst (λ v. R v (get_or ys i d)) entry (zip_at R xs ys i d h (subst (λ m. i < m) (sym long) below))
  where
    zero_more : (i : ℕ) → 0 + i ≡ i
    zero_more i = omega arith

pub given_count : {Y : Type 0} (R : ℕ → Y → Type 0) (n : ℕ) (xs : List ℕ) (ys : List Y) → xs ≡ range_with_len 0 n → AllZip R xs ys → length ys ≡ n
given_count R n xs ys is h = AllZip-long R xs ys h ∙ ap length is ∙ length-range_with_len 0 n
