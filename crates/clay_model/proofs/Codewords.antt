-- Two codewords that agree on all but as many chunks as there are parity chunks are equal.
use Rattle.std.proofs.Common.{◌≡◌, ℕ, suc, subst, ◌+◌, ◌-◌, ◌*◌, ◌/◌, ◌%◌, ◌^◌, ◌<◌, ◌≤◌, Bool, true, false, cond, not, nat_lt, ◌&&◌, List, [], ◌∷◌, ◌++◌, length, get_or, take, drop, Option, Some, None, is_none, refl, sym, ap, ◌∙◌, inl, inr, arith, lit<}
use Rattle.std.specs.List.{concat}
use Rattle.std.proofs.lemmas.Bool.{cases_lt, cases_Bool, cond_both, cond-true, cond-false, lt-ltb, le-ltb, true≢false}
use Rattle.std.proofs.lemmas.Nat.{mod_below, div_below, div-add-mod'}
use Rattle.std.proofs.lemmas.List.{ext_get_or, length-take-le, get_or-take}
use Rattle.std.proofs.Math.Nat.{mul_comm}
use Rattle.clay_grid.specs.Shape.{Shape, chunk_count, row_count, column_count, node_count, virtual_count, layer_count, chunk_length}
use Rattle.clay_grid.specs.Limits.{IsGeometry}
use Rattle.clay_grid.specs.Layers.{digits_of, index_of}
use Rattle.clay_grid.proofs.LayerLaws.{IsLayer-digits_of, index_of-digits_of}
use Rattle.clay_model.specs.Code.{is_virtual, chunk_of_node, coupled_value, IsCodeword, Codes, AgreesWith, AgreesBut, HasDistinctNodes}
use Rattle.clay_grid.specs.Score.{count_below}
use Rattle.clay_grid.proofs.Counting.{count_below_same, count_below_false, count_below_true, count_below-add}
use Rattle.clay_model.proofs.Unique.{same_codes}

-- the chunks fit the grid
pub chunks_fit : (g : Shape) → 0 < g.parity_count → chunk_count g ≤ node_count g
chunks_fit g rows =
    let q : ℕ = row_count g in
    let s : ℕ = chunk_count g + q - 1 in
    let whole : s / q * q + s % q ≡ s = div-add-mod' s q in
    let rest : s % q < q = mod_below s q rows in
    let turned : q * (s / q) ≡ s / q * q = mul_comm q (s / q) in
    omega arith

-- a node that stands for a chunk
pub record IsNodeOf (g : Shape) (c i : ℕ) : Type 0 where
  pub below : i < node_count g
  pub real : is_virtual g i ≡ false
  pub chunk : chunk_of_node g i ≡ c

pub node_for : (g : Shape) (c : ℕ) → 0 < g.parity_count → c < chunk_count g → (i : ℕ) × IsNodeOf g c i
node_for g c rows h =
    let fit : chunk_count g ≤ node_count g = chunks_fit g rows in
    elim (cases_lt c g.data_count) [
      | inl early ↦ (
        c,
        record {
          below = omega arith;
          real = ap (λ v. not v && nat_lt c (g.data_count + virtual_count g)) (lt-ltb c g.data_count early);
          chunk = cond-true (nat_lt c g.data_count) c (c - virtual_count g) (lt-ltb c g.data_count early);
        },
      )
      | inr parity ↦
          let i : ℕ = c + virtual_count g in
          let past : g.data_count ≤ i = omega arith in
          let beyond : g.data_count + virtual_count g ≤ i = omega arith in (
            i,
            record {
              below = omega arith;
              real = (λ k. not (le-ltb i g.data_count past k) && le-ltb i (g.data_count + virtual_count g) beyond k);
              chunk = cond-false (nat_lt i g.data_count) i (i - virtual_count g) (le-ltb i g.data_count past) ∙ omega arith;
            },
          )
    ]

coupled_byte : (g : Shape) (chunks : List (List ℕ)) → IsCodeword g chunks → (b i : ℕ) (z : List ℕ) → coupled_value g chunks b i z < 2 ^ 8
coupled_byte g chunks w b i z =
    cond_both (is_virtual g i) 0 (get_or (get_or chunks (chunk_of_node g i) []) (index_of (row_count g) z * g.width + b) 0) (λ v. v < 2 ^ 8)
    (λ e. lit< tt) (λ e. w.bytes (chunk_of_node g i) (index_of (row_count g) z * g.width + b))

-- what is read of a chunk, as a coupled value
coupled_at : (g : Shape) (chunks : List (List ℕ)) (c i p : ℕ) → 0 < g.parity_count → 0 < g.width → IsNodeOf g c i → p < chunk_length g
    → coupled_value g chunks (p % g.width) i (digits_of (row_count g) (column_count g) (p / g.width)) ≡ get_or (get_or chunks c []) p 0
coupled_at g chunks c i p rows wide node h =
    let z : List ℕ = digits_of (row_count g) (column_count g) (p / g.width) in
    let layer : p / g.width < layer_count g = div_below p g.width (layer_count g) wide h in
    let number : index_of (row_count g) z ≡ p / g.width = index_of-digits_of (row_count g) (column_count g) (p / g.width) rows layer in
    cond-false (is_virtual g i) 0 (get_or (get_or chunks (chunk_of_node g i) []) (index_of (row_count g) z * g.width + p % g.width) 0) node.real
    ∙ (λ k. get_or (get_or chunks (node.chunk k) []) (number k * g.width + p % g.width) 0)
    ∙ ap (λ v. get_or (get_or chunks c []) v 0) (div-add-mod' p g.width)

-- the same for the nodes: those that are not erased and not virtual have the same chunk
record AgreesAtNodes (g : Shape) (erased : ℕ → Bool) (a b : List (List ℕ)) : Type 0 where
  few : count_below (node_count g) erased ≤ g.parity_count
  same : (i : ℕ) → i < node_count g → is_virtual g i ≡ false → erased i ≡ false → get_or a (chunk_of_node g i) [] ≡ get_or b (chunk_of_node g i) []

same_coupled : (g : Shape) (erased : ℕ → Bool) (a b : List (List ℕ)) → AgreesAtNodes g erased a b → (v i : ℕ) (z : List ℕ) → i < node_count g → erased i ≡ false → coupled_value g a v i z ≡ coupled_value g b v i z
same_coupled g erased a b agree v i z h here =
    let place : ℕ = index_of (row_count g) z * g.width + v in
    elim (cases_Bool (is_virtual g i)) [
      | inl none ↦ cond-true (is_virtual g i) 0 (get_or (get_or a (chunk_of_node g i) []) place 0) none ∙ sym (cond-true (is_virtual g i) 0 (get_or (get_or b (chunk_of_node g i) []) place 0) none)
      | inr real ↦ ap (λ chunk. cond (is_virtual g i) 0 (get_or chunk place 0)) (agree.same i h real here)
    ]

same_at_nodes : (g : Shape) (erased : ℕ → Bool) (a b : List (List ℕ)) → HasDistinctNodes g → IsCodeword g a → IsCodeword g b → AgreesAtNodes g erased a b → a ≡ b
same_at_nodes g erased a b shape wa wb agree =
    let rows : 0 < g.parity_count = shape.parity in
    let wide : 0 < g.width = shape.subchunk in
    let q : ℕ = row_count g in
    let t : ℕ = column_count g in
    ext_get_or [] a b (wa.count ∙ sym wb.count) (λ c hc.
    let within : c < chunk_count g = subst (λ n. c < n) wa.count hc in
    let found = node_for g c rows within in
    let i : ℕ = found.0 in
    let la : length (get_or a c []) ≡ chunk_length g = wa.lengths c within in
    ext_get_or 0 (get_or a c []) (get_or b c []) (la ∙ sym (wb.lengths c within)) (λ p hp.
    let place : p < chunk_length g = subst (λ n. p < n) la hp in
    let z : List ℕ = digits_of q t (p / g.width) in
    let column : i / q < t = div_below i q t rows (subst (λ n. i < n) (mul_comm q t) found.1.below) in
    let equal = same_codes q t g.parity_count erased (coupled_value g a (p % g.width)) (coupled_value g b (p % g.width)) rows shape.nodes agree.few
    (coupled_byte g a wa (p % g.width)) (coupled_byte g b wb (p % g.width))
    (wa.sums (p % g.width) (mod_below p g.width wide)) (wb.sums (p % g.width) (mod_below p g.width wide))
    (λ n w h l here. same_coupled g erased a b agree (p % g.width) n w h here)
    (i % q) (i / q) z (mod_below i q rows) column (IsLayer-digits_of q t (p / g.width) rows) in
    sym (coupled_at g a c i p rows wide found.1 place)
    ∙ ap (λ n. coupled_value g a (p % g.width) n z) (sym (div-add-mod' i q))
    ∙ equal
    ∙ ap (λ n. coupled_value g b (p % g.width) n z) (div-add-mod' i q)
    ∙ coupled_at g b c i p rows wide found.1 place))

-- ---- from chunks to nodes

-- the nodes of the chunks that are erased
erased_nodes : Shape → (ℕ → Bool) → ℕ → Bool
erased_nodes g erased i = not (is_virtual g i) && erased (chunk_of_node g i)

data_node : (g : Shape) (erased : ℕ → Bool) (i : ℕ) → i < g.data_count → erased_nodes g erased i ≡ erased i
unfolding erased_nodes
data_node g erased i h =
    let early : nat_lt i g.data_count ≡ true = lt-ltb i g.data_count h in
    rw early refl

virtual_node : (g : Shape) (erased : ℕ → Bool) (i : ℕ) → i < virtual_count g → erased_nodes g erased (g.data_count + i) ≡ false
unfolding erased_nodes
virtual_node g erased i h =
    let past : nat_lt (g.data_count + i) g.data_count ≡ false = le-ltb (g.data_count + i) g.data_count (omega arith) in
    let within : nat_lt (g.data_count + i) (g.data_count + virtual_count g) ≡ true = lt-ltb (g.data_count + i) (g.data_count + virtual_count g) (omega arith) in
    rw (past, within) refl

parity_node : (g : Shape) (erased : ℕ → Bool) (i : ℕ) → erased_nodes g erased (g.data_count + virtual_count g + i) ≡ erased (g.data_count + i)
unfolding erased_nodes
parity_node g erased i =
    let node : ℕ = g.data_count + virtual_count g + i in
    let past : nat_lt node g.data_count ≡ false = le-ltb node g.data_count (omega arith) in
    let beyond : nat_lt node (g.data_count + virtual_count g) ≡ false = le-ltb node (g.data_count + virtual_count g) (omega arith) in
    let chunk : node - virtual_count g ≡ g.data_count + i = omega arith in
    rw (past, beyond) (ap erased chunk)

-- as many nodes as chunks are erased
count_nodes : (g : Shape) (erased : ℕ → Bool) → 0 < g.parity_count → count_below (node_count g) (erased_nodes g erased) ≡ count_below (chunk_count g) erased
count_nodes g erased rows =
    let k : ℕ = g.data_count in
    let v : ℕ = virtual_count g in
    let m : ℕ = g.parity_count in
    let fit : chunk_count g ≤ node_count g = chunks_fit g rows in
    let all : node_count g ≡ k + v + m = omega arith in
    ap (λ n. count_below n (erased_nodes g erased)) all
    ∙ count_below-add (k + v) m (erased_nodes g erased)
    ∙ ap (λ n. n + count_below m (λ i. erased_nodes g erased (k + v + i)))
    (count_below-add k v (erased_nodes g erased)
    ∙ ap (λ n. count_below k (erased_nodes g erased) + n) (count_below_same v (λ i. erased_nodes g erased (k + i)) (λ i. false) (virtual_node g erased) ∙ count_below_false v)
    ∙ omega arith
    ∙ count_below_same k (erased_nodes g erased) erased (data_node g erased))
    ∙ ap (λ n. count_below k erased + n) (count_below_same m (λ i. erased_nodes g erased (k + v + i)) (λ i. erased (k + i)) (λ i h. parity_node g erased i))
    ∙ sym (count_below-add k m erased)

chunk_below : (g : Shape) (i : ℕ) → 0 < g.parity_count → i < node_count g → is_virtual g i ≡ false → chunk_of_node g i < chunk_count g
chunk_below g i rows h real =
    let fit : chunk_count g ≤ node_count g = chunks_fit g rows in
    elim (cases_lt i g.data_count) [
      | inl early ↦ subst (λ c. c < chunk_count g) (sym (cond-true (nat_lt i g.data_count) i (i - virtual_count g) (lt-ltb i g.data_count early))) (omega arith)
      | inr past ↦ subst (λ c. c < chunk_count g) (sym (cond-false (nat_lt i g.data_count) i (i - virtual_count g) (le-ltb i g.data_count past))) (omega arith)
    ]

agrees_at_nodes : (g : Shape) (erased : ℕ → Bool) (a b : List (List ℕ)) → 0 < g.parity_count → AgreesBut g erased a b → AgreesAtNodes g (erased_nodes g erased) a b
unfolding erased_nodes
agrees_at_nodes g erased a b rows agree = record {
  few = subst (λ n. n ≤ g.parity_count) (sym (count_nodes g erased rows)) agree.few;
  same = λ i h real here. agree.same (chunk_of_node g i) (chunk_below g i rows h real) (sym (ap (λ v. not v && erased (chunk_of_node g i)) real) ∙ here);
}

-- Two codewords that agree on all but as many chunks as there are parity chunks are equal.
pub same_codewords : (g : Shape) (erased : ℕ → Bool) (a b : List (List ℕ)) → HasDistinctNodes g → IsCodeword g a → IsCodeword g b → AgreesBut g erased a b → a ≡ b
same_codewords g erased a b shape wa wb agree = same_at_nodes g (erased_nodes g erased) a b shape wa wb (agrees_at_nodes g erased a b shape.parity agree)

-- ---- the codeword of a stripe

append_parts : (x y r s : List ℕ) → length x ≡ length y → x ++ r ≡ y ++ s → (x ≡ y) × (r ≡ s)
append_parts [] [] r s long e = (refl, e)
append_parts [] (b ∷ y) r s long e = absurd (omega arith)
append_parts (a ∷ x) [] r s long e = absurd (omega arith)
append_parts (a ∷ x) (b ∷ y) r s long e =
    let rest = append_parts x y r s (omega arith) (ap (drop 1) e) in
    ((λ i. get_or (e i) 0 a ∷ rest.0 i), rest.1)

-- lists of lists of the same lengths are equal if they are equal when they are joined
same_parts : (xs ys : List (List ℕ)) → length xs ≡ length ys → ((c : ℕ) → c < length xs → length (get_or xs c []) ≡ length (get_or ys c [])) → concat xs ≡ concat ys → xs ≡ ys
same_parts [] [] count lengths e = refl
same_parts [] (y ∷ ys) count lengths e = absurd (omega arith)
same_parts (x ∷ xs) [] count lengths e = absurd (omega arith)
same_parts (x ∷ xs) (y ∷ ys) count lengths e =
    let parts = append_parts x y (concat xs) (concat ys) (lengths 0 (omega arith)) e in
    let rest = same_parts xs ys (omega arith) (λ c h. lengths (suc c) (omega arith)) parts.1 in
    λ i. parts.0 i ∷ rest i

same_data : (g : Shape) (stripe : List ℕ) (a b : List (List ℕ)) → Codes g stripe a → Codes g stripe b → take g.data_count a ≡ take g.data_count b
same_data g stripe a b ca cb =
    let k : ℕ = g.data_count in
    let la : length (take k a) ≡ k = length-take-le k a (subst (λ n. k ≤ n) (sym ca.codeword.count) (omega arith)) in
    let lb : length (take k b) ≡ k = length-take-le k b (subst (λ n. k ≤ n) (sym cb.codeword.count) (omega arith)) in
    same_parts (take k a) (take k b) (la ∙ sym lb) (λ c h.
    let early : c < k = subst (λ n. c < n) la h in
    let within : c < chunk_count g = omega arith in
    ap length (get_or-take k a c [] early) ∙ ca.codeword.lengths c within
    ∙ sym (ap length (get_or-take k b c [] early) ∙ cb.codeword.lengths c within))
    (ca.joined ∙ sym cb.joined)

-- A stripe has one codeword: its data chunks are those of the stripe.
pub same_of_stripe : (g : Shape) (stripe : List ℕ) (a b : List (List ℕ)) → HasDistinctNodes g → Codes g stripe a → Codes g stripe b → a ≡ b
same_of_stripe g stripe a b shape ca cb =
    let k : ℕ = g.data_count in
    let m : ℕ = g.parity_count in
    let erased : ℕ → Bool = λ c. not (nat_lt c k) in
    let together : take k a ≡ take k b = same_data g stripe a b ca cb in
    let none_early : count_below k erased ≡ 0 =
    count_below_same k erased (λ c. false) (λ c h. ap not (lt-ltb c k h)) ∙ count_below_false k in
    let all_late : count_below m (λ c. erased (k + c)) ≡ m =
    count_below_same m (λ c. erased (k + c)) (λ c. true) (λ c h. ap not (le-ltb (k + c) k (omega arith))) ∙ count_below_true m in
    let counted : count_below (chunk_count g) erased ≡ m =
    count_below-add k m erased
    ∙ (λ i. none_early i + all_late i)
    ∙ omega arith in
    same_codewords g erased a b shape ca.codeword cb.codeword (record {
      few = subst (λ n. n ≤ m) (sym counted) (omega arith);
      same = λ c h here.
          elim (cases_lt c k) [
            | inl early ↦ sym (get_or-take k a c [] early) ∙ ap (λ l. get_or l c []) together ∙ get_or-take k b c [] early
            | inr past ↦ absurd (true≢false (sym (ap not (le-ltb c k past)) ∙ here))
          ];
    })

-- ---- the codeword that agrees with what is left

both_agree : (present : List (Option (List ℕ))) (a b : List (List ℕ)) → AgreesWith present a → AgreesWith present b
    → (c : ℕ) (entry : Option (List ℕ)) → get_or present c None ≡ entry → is_none entry ≡ false → get_or a c [] ≡ get_or b c []
both_agree present a b aa ab c None e here = absurd (true≢false here)
both_agree present a b aa ab c (Some chunk) e here = aa c chunk e ∙ sym (ab c chunk e)

-- Of the codewords that agree with chunks of which no more are missing than there are parity chunks, there is one at most.
pub same_agreeing : (g : Shape) (present : List (Option (List ℕ))) (a b : List (List ℕ)) → HasDistinctNodes g → count_below (chunk_count g) (λ c. is_none (get_or present c None)) ≤ g.parity_count
    → IsCodeword g a → IsCodeword g b → AgreesWith present a → AgreesWith present b → a ≡ b
same_agreeing g present a b shape few wa wb aa ab =
    same_codewords g (λ c. is_none (get_or present c None)) a b shape wa wb (record {
      few = few;
      same = λ c h here. both_agree present a b aa ab c (get_or present c None) refl here;
    })

-- ---- the shape of a geometry

pub distinct_nodes : (g : Shape) → IsGeometry g → HasDistinctNodes g
distinct_nodes g geometry = record {
  parity = omega (arith, geometry.limits.parity_chunks.0);
  subchunk = omega (arith, geometry.limits.width.0);
  nodes = omega (arith, geometry.nodes);
}
