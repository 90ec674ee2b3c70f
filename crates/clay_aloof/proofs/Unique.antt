-- Two codewords that agree on all but as many chunks as there are parity chunks are equal.
use Rattle.std.proofs.Common.{◌≡◌, ℕ, zero, suc, subst, ◌+◌, ◌*◌, ◌/◌, ◌%◌, ◌^◌, ◌<◌, ◌≤◌, Bool, true, false, cond, not, nat_lt, ◌&&◌, List, [], ◌∷◌, ◌++◌, length, get_or, take, refl, sym, ap, ◌∙◌, inl, inr, arith}
use Rattle.std.specs.List.{concat}
use Rattle.std.proofs.lemmas.Bool.{cases_lt, cases_Bool, lt-ltb, le-ltb, true≢false}
use Rattle.std.proofs.lemmas.Nat.{mod_below, div_below, div-add-mod'}
use Rattle.std.proofs.lemmas.List.{ext_get_or, take_at, append_cancel_left}
use Rattle.clay_grid.specs.Shape.{column_count, node_count, layer_count, chunk_length}
use Rattle.clay_grid.specs.Layers.{layer_of, index_of}
use Rattle.clay_grid.specs.Score.{count_below}
use Rattle.clay_grid.proofs.Counting.{count_below_same, count_below_false, count_below_true, count_below-add}
use Rattle.clay_grid.proofs.LayerLaws.{IsLayer-digits_of}
use Rattle.clay_model.proofs.Unique.{same_codes, row_of}
use Rattle.clay_aloof.specs.Shape.{AloofShape, all_chunks, rows_of, grid_of, node_of, is_virtual_node, chunk_at}
use Rattle.clay_aloof.specs.Limits.{IsAloof}
use Rattle.clay_aloof.specs.Code.{coupled_value, IsCodeword, Codes, AgreesBut}
use Rattle.clay_aloof.proofs.Layer.{some_rows}
use Rattle.clay_aloof.proofs.Nodes.{node_back, node_real, node_inside, coupled_byte, coupled_real, coupled_virtual}
use Rattle.clay_aloof.proofs.Unknown.{nodes_counted}

-- the nodes of the chunks that are erased
erased_node : AloofShape → (ℕ → Bool) → ℕ → Bool
erased_node a erased i = not (is_virtual_node a i) && erased (chunk_at a i)

same_value : (a : AloofShape) (erased : ℕ → Bool) (chunks others : List (List ℕ)) → IsAloof a → AgreesBut a erased chunks others → (b i : ℕ) (z : List ℕ) → i < node_count (grid_of a)
    → erased_node a erased i ≡ false → coupled_value a chunks b i z ≡ coupled_value a others b i z
unfolding erased_node
same_value a erased chunks others aloof agree b i z inside kept =
    elim (cases_Bool (is_virtual_node a i)) [
      | inl virtual ↦ coupled_virtual a chunks b i z virtual ∙ sym (coupled_virtual a others b i z virtual)
      | inr real ↦
          let there : erased (chunk_at a i) ≡ false = sym (ap (λ v. not v && erased (chunk_at a i)) real) ∙ kept in
          let same : get_or chunks (chunk_at a i) [] ≡ get_or others (chunk_at a i) [] = agree.same (chunk_at a i) (node_back a i aloof inside real).0 there in
          (λ k. cond (is_virtual_node a i) 0 (get_or (same k) (index_of (rows_of a) z * a.width + b) 0))
    ]

pub same_codewords : (a : AloofShape) (erased : ℕ → Bool) (chunks others : List (List ℕ)) → IsAloof a → IsCodeword a chunks → IsCodeword a others → AgreesBut a erased chunks others → chunks ≡ others
unfolding erased_node
same_codewords a erased chunks others aloof one two agree =
    let q : ℕ = rows_of a in
    let t : ℕ = column_count (grid_of a) in
    let w : ℕ = a.width in
    let rows : 0 < q = some_rows (grid_of a) aloof.grid in
    let wide : 0 < w = (let some = aloof.limits.width.0 in omega arith) in
    let small : q * t ≤ 2 ^ 8 = (let few = aloof.grid.nodes in omega arith) in
    let few : count_below (q * t) (erased_node a erased) ≤ a.parity_count = subst (λ n. n ≤ a.parity_count) (sym (nodes_counted a erased aloof)) agree.few in
    ext_get_or [] chunks others (one.count ∙ sym two.count) (λ c hc.
    let within : c < all_chunks a = subst (λ n. c < n) one.count hc in
    let i : ℕ = node_of a c in
    let inside : i < node_count (grid_of a) = node_inside a c aloof within in
    let long : length (get_or chunks c []) ≡ chunk_length (grid_of a) = one.lengths c within in
    ext_get_or 0 (get_or chunks c []) (get_or others c []) (long ∙ sym (two.lengths c within)) (λ p hp.
    let place : p < chunk_length (grid_of a) = subst (λ n. p < n) long hp in
    let n : ℕ = p / w in
    let b : ℕ = p % w in
    let z : List ℕ = layer_of (grid_of a) n in
    let below : n < layer_count (grid_of a) = div_below p w (layer_count (grid_of a)) wide place in
    let hb : b < w = mod_below p w wide in
    let is : n * w + b ≡ p = div-add-mod' p w in
    let own : i / q * q + i % q ≡ i = div-add-mod' i q in
    let equal = same_codes q t a.parity_count (erased_node a erased) (coupled_value a chunks b) (coupled_value a others b) rows small few
    (coupled_byte a chunks one.bytes b) (coupled_byte a others two.bytes b) (one.sums b hb) (two.sums b hb)
    (λ j v h l kept. same_value a erased chunks others aloof agree b j v h kept)
    (i % q) (i / q) z (mod_below i q rows) (row_of q t i rows inside) (IsLayer-digits_of q t n rows) in
    ap (λ v. get_or (get_or chunks c []) v 0) (sym is)
    ∙ sym (coupled_real a chunks c i n b rows below (node_real a c i refl))
    ∙ ap (λ v. coupled_value a chunks b v z) (sym own)
    ∙ equal
    ∙ ap (λ v. coupled_value a others b v z) own
    ∙ coupled_real a others c i n b rows below (node_real a c i refl)
    ∙ ap (λ v. get_or (get_or others c []) v 0) is))

-- chunks of one length that are equal when they are joined
joined_same : (len k : ℕ) (xs ys : List (List ℕ)) → k ≤ length xs → k ≤ length ys → ((c : ℕ) → c < k → length (get_or xs c []) ≡ len) → ((c : ℕ) → c < k → length (get_or ys c []) ≡ len)
    → concat (take k xs) ≡ concat (take k ys) → (c : ℕ) → c < k → get_or xs c [] ≡ get_or ys c []
joined_same len zero xs ys hx hy lx ly e c h = absurd (omega arith)
joined_same len (suc k) [] ys hx hy lx ly e c h = absurd (omega arith)
joined_same len (suc k) (x ∷ xs) [] hx hy lx ly e c h = absurd (omega arith)
joined_same len (suc k) (x ∷ xs) (y ∷ ys) hx hy lx ly e c h =
    let first : x ≡ y = sym (take_at x (concat (take k xs)) len (lx 0 (omega arith))) ∙ ap (take len) e ∙ take_at y (concat (take k ys)) len (ly 0 (omega arith)) in
    let rest : concat (take k xs) ≡ concat (take k ys) = append_cancel_left x (concat (take k xs)) (concat (take k ys)) (e ∙ ap (λ v. v ++ concat (take k ys)) (sym first)) in
    at c h first (joined_same len k xs ys (omega arith) (omega arith) (λ d l. lx (suc d) (omega arith)) (λ d l. ly (suc d) (omega arith)) rest)
  where
    at : (c : ℕ) → c < suc k → x ≡ y → ((d : ℕ) → d < k → get_or xs d [] ≡ get_or ys d []) → get_or (x ∷ xs) c [] ≡ get_or (y ∷ ys) c []
    at zero h first rest = first
    at (suc d) h first rest = rest d (omega arith)

-- a stripe has one codeword
pub same_of_stripe : (a : AloofShape) (stripe : List ℕ) (chunks others : List (List ℕ)) → IsAloof a → Codes a stripe chunks → Codes a stripe others → chunks ≡ others
same_of_stripe a stripe chunks others aloof one two =
    let k : ℕ = a.data_count in
    let m : ℕ = a.parity_count in
    let parity : ℕ → Bool = λ c. not (nat_lt c k) in
    let early : count_below k parity ≡ 0 = count_below_same k parity (λ c. false) (λ c h. ap not (lt-ltb c k h)) ∙ count_below_false k in
    let late : count_below m (λ c. parity (k + c)) ≡ m = count_below_same m (λ c. parity (k + c)) (λ c. true) (λ c h. ap not (le-ltb (k + c) k (omega arith))) ∙ count_below_true m in
    let counted : count_below (all_chunks a) parity ≡ m = count_below-add k m parity ∙ (λ i. early i + late i) ∙ omega arith in
    same_codewords a parity chunks others aloof one.codeword two.codeword (record {
      few = subst (λ n. n ≤ m) (sym counted) (omega arith);
      same = λ c h kept. elim (cases_lt c k) [
        | inl front ↦ joined_same (chunk_length (grid_of a)) k chunks others (subst (λ n. k ≤ n) (sym one.codeword.count) (omega arith)) (subst (λ n. k ≤ n) (sym two.codeword.count) (omega arith))
            (λ d l. one.codeword.lengths d (omega arith)) (λ d l. two.codeword.lengths d (omega arith)) (one.joined ∙ sym two.joined) c front
        | inr past ↦ absurd (true≢false (sym (ap not (le-ltb c k past)) ∙ kept))
      ];
    })
