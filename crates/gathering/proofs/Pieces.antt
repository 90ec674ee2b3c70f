-- Bytes of a stripe from its chunks, and of a chunk from its layers.
use Rattle.std.proofs.Common.{◌≡◌, ℕ, zero, suc, ◌+◌, ◌*◌, ◌-◌, ◌/◌, ◌%◌, ◌<◌, ◌≤◌, min, max, nat_lt, Bool, true, false, cond, List, [], ◌∷◌, ◌++◌, length, take, drop, filter, get_or, refl, sym, ap, subst, ◌∙◌, ◌⊎◌, inl, inr, length-take, length-drop, arith}
use Rattle.std.specs.List.{range_with_len, concat}
use Rattle.std.proofs.lemmas.Bool.{cases_lt, lt-ltb, le-ltb}
use Rattle.std.proofs.lemmas.List.{take_at, drop_at, drop-drop, drop-take, take-take, take-append-le, append-nil}
use Rattle.std.proofs.lemmas.Nat.{div-add-mod', mod_below, div_below, mul-le}
use Rattle.clay_grid.specs.Shape.{Shape, layer_count, chunk_length}
use Rattle.clay_grid.specs.Repair.{layers_in_range}
use Rattle.version_seal.specs.Chunk.{subchunks_at}

-- ---- bytes side by side
take_nil : (n : ℕ) → take {A = ℕ} n [] ≡ []
take_nil zero = refl
take_nil (suc n) = refl

beside : (n m : ℕ) (bytes : List ℕ) → take n bytes ++ take m (drop n bytes) ≡ take (n + m) bytes
beside zero m bytes = ap (λ k. take k bytes) (none m)
  where
    none : (m : ℕ) → m ≡ 0 + m
    none m = omega arith
beside (suc n) m [] = take_nil m ∙ sym (take_nil (suc n + m))
beside (suc n) m (byte ∷ bytes) = ap (λ l. byte ∷ l) (beside n m bytes) ∙ ap (λ k. take k (byte ∷ bytes)) (more n m)
  where
    more : (n m : ℕ) → suc (n + m) ≡ suc n + m
    more n m = omega arith

-- of two pieces the second begins where the first ends, or the first has nothing
pub joined : (start middle end : ℕ) (bytes : List ℕ) → start ≤ middle → middle ≤ end
    → take (middle - start) (drop start bytes) ++ take (end - middle) (drop middle bytes) ≡ take (end - start) (drop start bytes)
joined start middle end bytes low high =
    let at : start + (middle - start) ≡ middle = omega (arith, low) in
    let sum : middle - start + (end - middle) ≡ end - start = omega (arith, low, high) in
    ap (λ n. take (middle - start) (drop start bytes) ++ take (end - middle) (drop n bytes)) (sym at)
    ∙ ap (λ l. take (middle - start) (drop start bytes) ++ take (end - middle) l) (sym (drop-drop (middle - start) start bytes))
    ∙ beside (middle - start) (end - middle) (drop start bytes)
    ∙ ap (λ n. take n (drop start bytes)) sum

-- of a range's bytes those up to a chunk and those in it
pub range_step : (start end first next : ℕ) (bytes : List ℕ) → start < end → first ≤ next
    → take (max start (min end first) - start) (drop start bytes) ++ take (min end next - max start first) (drop (max start first) bytes)
    ≡ take (max start (min end next) - start) (drop start bytes)
range_step start end first next bytes some rises = by (cases_lt (min end next) (max start first))
  where
    by : (min end next < max start first) ⊎ (max start first ≤ min end next)
        → take (max start (min end first) - start) (drop start bytes) ++ take (min end next - max start first) (drop (max start first) bytes)
        ≡ take (max start (min end next) - start) (drop start bytes)
    by (inl none) =
        let empty : min end next - max start first ≡ 0 = omega (arith, none) in
        let same : max start (min end first) ≡ max start (min end next) = omega (arith, none, some, rises) in
        ap (λ n. take (max start (min end first) - start) (drop start bytes) ++ take n (drop (max start first) bytes)) empty
        ∙ append-nil (take (max start (min end first) - start) (drop start bytes))
        ∙ ap (λ n. take (n - start) (drop start bytes)) same
    by (inr meets) =
        let here : max start (min end first) ≡ max start first = omega (arith, meets, some, rises) in
        let last : max start (min end next) ≡ min end next = omega (arith, meets) in
        ap (λ n. take (n - start) (drop start bytes) ++ take (min end next - max start first) (drop (max start first) bytes)) here
        ∙ joined start (max start first) (min end next) bytes (omega arith) meets
        ∙ ap (λ n. take (n - start) (drop start bytes)) (sym last)

-- ---- chunks of a stripe
pub chunk_at : (long : ℕ) (chunks : List (List ℕ)) (i : ℕ) → i < length chunks → ((c : ℕ) → c < length chunks → length (get_or chunks c []) ≡ long)
    → get_or chunks i [] ≡ take long (drop (i * long) (concat chunks))
chunk_at long [] i h lengths = absurd (omega (arith, h))
chunk_at long (chunk ∷ chunks) zero h lengths =
    sym (take_at chunk (concat chunks) long (lengths 0 (omega arith)))
    ∙ ap (λ n. take long (drop n (chunk ++ concat chunks))) (none long)
  where
    none : (long : ℕ) → 0 ≡ 0 * long
    none long = omega arith
chunk_at long (chunk ∷ chunks) (suc i) h lengths =
    chunk_at long chunks i (omega (arith, h)) (λ c below. lengths (suc c) (omega (arith, below)))
    ∙ ap (λ l. take long (drop (i * long) l)) (sym (drop_at chunk (concat chunks) long (lengths 0 (omega arith))))
    ∙ ap (take long) (drop-drop (i * long) long (chunk ++ concat chunks))
    ∙ ap (λ n. take long (drop n (chunk ++ concat chunks))) (more i long)
  where
    more : (i long : ℕ) → long + i * long ≡ suc i * long
    more i long = omega arith

-- bytes of a chunk are bytes of the stripe
pub within_chunk : (long from to start : ℕ) (bytes : List ℕ) → from ≤ to → to ≤ long
    → take (to - from) (drop from (take long (drop start bytes))) ≡ take (to - from) (drop (start + from) bytes)
within_chunk long from to start bytes low high =
    let all : long ≡ from + (long - from) = omega (arith, low, high) in
    ap (λ n. take (to - from) (drop from (take n (drop start bytes)))) all
    ∙ ap (take (to - from)) (drop-take from (long - from) (drop start bytes))
    ∙ take-take (to - from) (long - from) (drop from (drop start bytes)) (omega (arith, low, high))
    ∙ ap (take (to - from)) (drop-drop from start bytes)

-- what stands behind a list
over : (first rest : List ℕ) (n k : ℕ) → length first ≡ n → take (n + k) (first ++ rest) ≡ first ++ take k rest
over first rest n k e = sym (beside n k (first ++ rest)) ∙ (λ i. take_at first rest n e i ++ take k (drop_at first rest n e i))

-- a layer's subchunk, and what comes of the layers after it
layer_then_rest : (width z to : ℕ) (bytes later : List ℕ) → length (take width (drop (z * width) bytes)) ≡ width → z * width < to
    → take (to - (z + 1) * width) later ≡ take (to - (z + 1) * width) (drop ((z + 1) * width) bytes)
    → take (to - z * width) (take width (drop (z * width) bytes) ++ later) ≡ take (to - z * width) (drop (z * width) bytes)
layer_then_rest width z to bytes later long more rest = by (cases_lt ((z + 1) * width) to)
  where
    first : List ℕ
    first = take width (drop (z * width) bytes)

    row : (z + 1) * width ≡ z * width + width
    row = omega arith

    by : ((z + 1) * width < to) ⊎ (to ≤ (z + 1) * width)
        → take (to - z * width) (take width (drop (z * width) bytes) ++ later) ≡ take (to - z * width) (drop (z * width) bytes)
    by (inl past) =
        let k : ℕ = to - (z + 1) * width in
        let sum : to - z * width ≡ width + k = omega (arith, past, row) in
        ap (λ n. take n (first ++ later)) sum
        ∙ over first later width k long
        ∙ ap (λ l. first ++ l) (rest ∙ ap (λ n. take k (drop n bytes)) row ∙ ap (take k) (sym (drop-drop width (z * width) bytes)))
        ∙ beside width k (drop (z * width) bytes)
        ∙ ap (λ n. take n (drop (z * width) bytes)) (sym sum)
    by (inr within) =
        take-append-le (to - z * width) first later (omega (arith, within, row, long))
        ∙ take-take (to - z * width) width (drop (z * width) bytes) (omega (arith, within, row))

nothing_left : (to at : ℕ) (xs ys : List ℕ) → to ≤ at → take (to - at) xs ≡ take (to - at) ys
nothing_left to at xs ys h = ap (λ n. take n xs) none ∙ sym (ap (λ n. take n ys) none)
  where
    none : to - at ≡ 0
    none = omega (arith, h)

-- ---- layers of a chunk
module _ (width a e : ℕ) (bytes : List ℕ) where
  abbrev pub meets : ℕ → Bool
  meets z = nat_lt (max a (z * width)) (min e ((z + 1) * width))

  abbrev pub from_layers : ℕ → ℕ → List ℕ
  from_layers z n = subchunks_at width bytes (filter meets (range_with_len z n))

  one_layer : (z n : ℕ) → meets z ≡ true → from_layers z (suc n) ≡ take width (drop (z * width) bytes) ++ from_layers (z + 1) n
  one_layer z n h = ap (λ b. subchunks_at width bytes (cond b (z ∷ filter meets (range_with_len (z + 1) n)) (filter meets (range_with_len (z + 1) n)))) h

  no_layer : (z n : ℕ) → meets z ≡ false → from_layers z (suc n) ≡ from_layers (z + 1) n
  no_layer z n h = ap (λ b. subchunks_at width bytes (cond b (z ∷ filter meets (range_with_len (z + 1) n)) (filter meets (range_with_len (z + 1) n)))) h

  -- layers before the first wanted byte have none
  skipped : (n z : ℕ) → (z + n) * width ≤ a → (m : ℕ) → from_layers z (n + m) ≡ from_layers (z + n) m
  skipped zero z h m = (λ i. from_layers (first i) (count i))
    where
      first : z ≡ z + 0
      first = omega arith

      count : 0 + m ≡ m
      count = omega arith
  skipped (suc n) z h m =
      ap (from_layers z) (counted n m)
      ∙ no_layer z (n + m) (le-ltb (max a (z * width)) (min e ((z + 1) * width)) (before z n h))
      ∙ skipped n (z + 1) (subst (λ k. k * width ≤ a) (moved z n) h) m
      ∙ ap (λ k. from_layers k m) (sym (moved z n))
    where
      counted : (n m : ℕ) → suc n + m ≡ suc (n + m)
      counted n m = omega arith

      moved : (z n : ℕ) → z + suc n ≡ z + 1 + n
      moved z n = omega arith

      before : (z n : ℕ) → (z + suc n) * width ≤ a → min e ((z + 1) * width) ≤ max a (z * width)
      before z n h =
          let grows : (z + 1) * width ≤ (z + suc n) * width = mul-le (z + 1) width (z + suc n) width (omega arith) (omega arith) in
          omega (arith, h, grows)

  -- a layer, and those after it
  with_layer : 0 < width → (n z to : ℕ) → a < (z + 1) * width → a < e → to ≤ e → (z + suc n) * width ≤ length bytes
      → take (to - (z + 1) * width) (from_layers (z + 1) n) ≡ take (to - (z + 1) * width) (drop ((z + 1) * width) bytes)
      → (z * width < to) ⊎ (to ≤ z * width) → take (to - z * width) (from_layers z (suc n)) ≡ take (to - z * width) (drop (z * width) bytes)
  with_layer wide n z to low some high within rest (inl more) =
      let row : (z + 1) * width ≡ z * width + width = omega arith in
      let grows : (z + 1) * width ≤ (z + suc n) * width = mul-le (z + 1) width (z + suc n) width (omega arith) (omega arith) in
      let long : length (take width (drop (z * width) bytes)) ≡ width = omega (arith, length-take width (drop (z * width) bytes), length-drop (z * width) bytes, within, grows, row) in
      let meets_it : max a (z * width) < min e ((z + 1) * width) = met (z * width) ((z + 1) * width) to low some high more (omega (arith, row, wide)) in
      ap (take (to - z * width)) (one_layer z n (lt-ltb (max a (z * width)) (min e ((z + 1) * width)) meets_it))
      ∙ layer_then_rest width z to bytes (from_layers (z + 1) n) long more rest
    where
      met : (at next to : ℕ) → a < next → a < e → to ≤ e → at < to → at < next → max a at < min e next
      met at next to low some high more wide = omega (arith, low, some, high, more, wide)
  with_layer wide n z to low some high within rest (inr done) = nothing_left to (z * width) (from_layers z (suc n)) (drop (z * width) bytes) done

  -- from a layer on in which wanted bytes stand, up to where they end
  wanted : 0 < width → (n z to : ℕ) → a < (z + 1) * width → a < e → to ≤ e → to ≤ (z + n) * width → (z + n) * width ≤ length bytes
      → take (to - z * width) (from_layers z n) ≡ take (to - z * width) (drop (z * width) bytes)
  wanted wide zero z to low some high all within = nothing_left to (z * width) (from_layers z 0) (drop (z * width) bytes) (subst (λ k. to ≤ k * width) (same z) all)
    where
      same : (z : ℕ) → z + 0 ≡ z
      same z = omega arith
  wanted wide (suc n) z to low some high all within =
      with_layer wide n z to low some high within
      (wanted wide n (z + 1) to (omega (arith, low, row_on)) some high (subst (λ k. to ≤ k * width) (moved z n) all) (subst (λ k. k * width ≤ length bytes) (moved z n) within))
      (cases_lt (z * width) to)
    where
      moved : (z n : ℕ) → z + suc n ≡ z + 1 + n
      moved z n = omega arith

      row_on : (z + 1 + 1) * width ≡ (z + 1) * width + width
      row_on = omega arith

-- of a chunk's layers with wanted bytes, those bytes
pub record AreThere (from to skip : ℕ) (bytes part : List ℕ) : Type 0 where
  pub room : skip + (to - from) ≤ length part
  pub same : take (to - from) (drop skip part) ≡ take (to - from) (drop from bytes)

pub layer_bytes : (g : Shape) (a e to : ℕ) (bytes : List ℕ) → 0 < g.width → length bytes ≡ chunk_length g → a < to → to ≤ e → to ≤ chunk_length g
    → AreThere a to (a % g.width) bytes (subchunks_at g.width bytes (layers_in_range g a e))
layer_bytes g a e to bytes wide long some high within =
    let lo : ℕ = a / g.width in
    let r : ℕ = a % g.width in
    let is : lo * g.width + r ≡ a = div-add-mod' a g.width in
    let small : r < g.width = mod_below a g.width wide in
    let inside : lo < layer_count g = div_below a g.width (layer_count g) wide (omega (arith, some, within)) in
    let rest : ℕ = layer_count g - lo in
    let all : lo + rest ≡ layer_count g = omega (arith, inside) in
    let row : (lo + 1) * g.width ≡ lo * g.width + g.width = omega arith in
    let f : List ℕ = from_layers g.width a e bytes lo rest in
    let part : List ℕ = subchunks_at g.width bytes (layers_in_range g a e) in
    let part_is : part ≡ f =
    ap (from_layers g.width a e bytes 0) (sym all)
    ∙ skipped g.width a e bytes lo 0 (subst (λ k. k * g.width ≤ a) (from_none lo) (omega (arith, is))) rest
    ∙ ap (λ k. from_layers g.width a e bytes k rest) (sym (from_none lo))
    in
    let end : take (to - lo * g.width) f ≡ take (to - lo * g.width) (drop (lo * g.width) bytes) =
    wanted g.width a e bytes wide rest lo to (omega (arith, is, small, row)) (omega (arith, some, high)) high
    (subst (λ k. to ≤ k * g.width) (sym all) within)
    (subst (λ k. k * g.width ≤ length bytes) (sym all) (omega (arith, long)))
    in
    let sum : to - lo * g.width ≡ r + (to - a) = omega (arith, is, some) in
    let reach : to - lo * g.width ≤ length f =
    reaches (to - lo * g.width) f (drop (lo * g.width) bytes) end (omega (arith, length-drop (lo * g.width) bytes, long, within))
    in
    record {
      room = subst (λ l. r + (to - a) ≤ length l) (sym part_is) (omega (arith, reach, sum));
      same =
          ap (λ l. take (to - a) (drop r l)) part_is
          ∙ sym (drop-take r (to - a) f)
          ∙ ap (λ n. drop r (take n f)) (sym sum)
          ∙ ap (drop r) end
          ∙ ap (λ n. drop r (take n (drop (lo * g.width) bytes))) sum
          ∙ drop-take r (to - a) (drop (lo * g.width) bytes)
          ∙ ap (take (to - a)) (drop-drop r (lo * g.width) bytes)
          ∙ ap (λ n. take (to - a) (drop n bytes)) is;
    }
  where
    from_none : (lo : ℕ) → lo ≡ 0 + lo
    from_none lo = omega arith

    reaches : (n : ℕ) (xs ys : List ℕ) → take n xs ≡ take n ys → n ≤ length ys → n ≤ length xs
    reaches n xs ys e h = omega (arith, h, ap length e, length-take n xs, length-take n ys)
