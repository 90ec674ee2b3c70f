-- Chunks of which the last are the parity chunks of the first.
use Rattle.std.proofs.Common.{slice_range, ◌≡◌, ℕ, suc, ◌+◌, ◌-◌, ◌*◌, ◌<◌, List, [], ◌∷◌, ◌++◌, length, get_or, take, drop, All, refl, sym, subst, ap, ◌∙◌, inl, inr, arith}
use Rattle.std.specs.List.{concat}
use Rattle.std.proofs.lemmas.Bool.{cases_lt}
use Rattle.std.proofs.lemmas.List.{take_at, drop_at, length-take-le, get_or-take, get_or-append_right, ext_get_or}
use Rattle.std.proofs.lemmas.List.FromFn.{length-map-range_with_len}
use Rattle.clay_grid.specs.Shape.{Shape, chunk_count, chunk_length}
use Rattle.clay_model.specs.Code.{Codes}
use Rattle.clay_parity.specs.Parity.{data_pieces}

-- lists of pieces of one length are equal if they are equal when they are joined
same_pieces : (n : ℕ) (xs ys : List (List ℕ)) → length xs ≡ length ys → ((c : ℕ) → c < length xs → length (get_or xs c []) ≡ n)
    → ((c : ℕ) → c < length ys → length (get_or ys c []) ≡ n) → concat xs ≡ concat ys → xs ≡ ys
same_pieces n [] [] count lx ly e = refl
same_pieces n [] (y ∷ ys) count lx ly e = absurd (omega arith)
same_pieces n (x ∷ xs) [] count lx ly e = absurd (omega arith)
same_pieces n (x ∷ xs) (y ∷ ys) count lx ly e =
    let hx : length x ≡ n = lx 0 (omega arith) in
    let hy : length y ≡ n = ly 0 (omega arith) in
    let first : x ≡ y = sym (take_at x (concat xs) n hx) ∙ ap (take n) e ∙ take_at y (concat ys) n hy in
    let behind : concat xs ≡ concat ys = sym (drop_at x (concat xs) n hx) ∙ ap (drop n) e ∙ drop_at y (concat ys) n hy in
    let rest = same_pieces n xs ys (omega arith) (λ c h. lx (suc c) (omega arith)) (λ c h. ly (suc c) (omega arith)) behind in
    λ i. first i ∷ rest i

-- chunks with the data chunks and the parity chunks of a stripe's codeword are the codeword
pub same_word : (g : Shape) (stripe : List ℕ) (chunks word : List (List ℕ)) → Codes g stripe word
    → length chunks ≡ chunk_count g → All (λ c. length c ≡ chunk_length g) chunks
    → stripe ≡ concat (take g.data_count chunks)
    → ((i : ℕ) → i < g.parity_count → get_or chunks (g.data_count + i) [] ≡ get_or word (g.data_count + i) [])
    → chunks ≡ word
same_word g stripe chunks word codes count lengths joined behind =
    let k : ℕ = g.data_count in
    let lc : length (take k chunks) ≡ k = length-take-le k chunks (omega (arith, count)) in
    let lw : length (take k word) ≡ k = length-take-le k word (omega (arith, codes.codeword.count)) in
    let front : take k chunks ≡ take k word =
    same_pieces (chunk_length g) (take k chunks) (take k word) (lc ∙ sym lw)
    (λ c h. let early : c < k = subst (λ n. c < n) lc h in
    ap length (get_or-take k chunks c [] early) ∙ lengths c [] (omega (arith, count, early)))
    (λ c h. let early : c < k = subst (λ n. c < n) lw h in
    ap length (get_or-take k word c [] early) ∙ codes.codeword.lengths c (omega (arith, early)))
    (sym joined ∙ sym codes.joined) in
    ext_get_or [] chunks word (count ∙ sym codes.codeword.count) (λ c h.
    elim (cases_lt c k) [
      | inl early ↦ sym (get_or-take k chunks c [] early) ∙ ap (λ l. get_or l c []) front ∙ get_or-take k word c [] early
      | inr late ↦
          let place : k + (c - k) ≡ c = omega (arith, late) in
          subst (λ p. get_or chunks p [] ≡ get_or word p []) place (behind (c - k) (omega (arith, late, h, count)))
    ])

-- behind the data pieces stand the parity chunks
pub behind_data : (g : Shape) (stripe : List ℕ) (parity : List (List ℕ)) (i : ℕ) → get_or (data_pieces g stripe ++ parity) (g.data_count + i) [] ≡ get_or parity i []
behind_data g stripe parity i =
    let piece : ℕ → List ℕ = λ c. slice_range stripe (c * chunk_length g) ((c + 1) * chunk_length g) in
    get_or-append_right (data_pieces g stripe) parity g.data_count (g.data_count + i) [] (length-map-range_with_len piece 0 g.data_count) (omega arith)
    ∙ ap (λ v. get_or parity v []) {x = g.data_count + i - g.data_count} {y = i} (omega arith)
