-- The step of one layer: what is solved from the sums of the present values is what any codeword that agrees has at the erased nodes.
-- The invariant over the layers is that for every codeword that agrees, the layers done hold its uncoupled values. So the answer is that
-- codeword, wherever there is one, with no argument that it is the only one. The partner's layer of a lower score is among those done,
-- since layers come by rising score. The checked form encodes the answer's stripe and compares.
use Rattle.std.proofs.Common.{◌≡◌, ◌≢◌, ℕ, subst, ◌+◌, ◌*◌, ◌/◌, ◌%◌, ◌^◌, ◌<◌, ◌≤◌, ◌⊎◌, Bool, true, false, List, length, get_or, Option, Vec, Global, sym, ap, ◌∙◌, inl, inr, arith, lit<, [], take, drop}
use Rattle.std.proofs.lemmas.Bool.{cases_eq, cases_lt, cases_Bool, cond-true, cond-false, cond_both, true≢false}
use Rattle.clay_field.specs.Field.{product, power_of}
use Rattle.clay_grid.specs.Shape.{Shape, row_count, column_count, node_count, layer_count}
use Rattle.clay_grid.specs.Layers.{layer_of, index_of}
use Rattle.clay_grid.specs.Limits.{IsGeometry}
use Rattle.clay_grid.specs.Score.{score_at, IsByScore}
use Rattle.clay_grid.proofs.LayerLaws.{IsLayer-digits_of}
use Rattle.clay_model.specs.Sums.{weighted_sum, present_value}
use Rattle.clay_model.specs.Code.{IsCodeword, is_virtual, chunk_of_node, coupled_value}
use Rattle.clay_model.proofs.SumLaws.{sum_below_same}
use Rattle.clay_model.proofs.Unique.{uncoupled_byte as uncoupled_below}
use Rattle.clay_model.specs.Points.{sum_over, byte_of, HaveSums}
use Rattle.clay_model.specs.Erased.{erased_below, present}
use Rattle.code_laws.proofs.ErasedNodes.{erased_values_solved}
use Rattle.std.proofs.lemmas.List.{get_or-take, get_or-drop}
use Rattle.code_laws.proofs.Pieces.{put_mid_before, put_mid_within, put_mid_past, place_below, piece_fits}
use borrow.Rule.Slice.PartMut.{put_mid}
use Rattle.clay_model.specs.Left.{Completes}
use Rattle.code_laws.specs.Solved.{uncoupled_byte, coupled_byte, IsCoupled, IsUncoupled, HoldsPresent, HoldsLayer, HoldsLower, HoldsSubchunks}

pub coupled_below : (g : Shape) (word : List (List ℕ)) → IsCodeword g word → (b i : ℕ) (z : List ℕ) → coupled_value g word b i z < 2 ^ 8
coupled_below g word w b i z =
    cond_both (is_virtual g i) 0 (get_or (get_or word (chunk_of_node g i) []) (index_of (row_count g) z * g.width + b) 0) (λ v. v < 2 ^ 8)
    (λ e. lit< tt) (λ e. w.bytes (chunk_of_node g i) (index_of (row_count g) z * g.width + b))

-- the layer that is solved: its pieces ys
pub solved_layer : (g : Shape) (have : List (Option (Vec ℕ Global))) (erased : List Bool) (points : List ℕ) → IsGeometry g → length points ≤ g.parity_count → points ≡ erased_below erased (node_count g)
    → (n : ℕ) (layer sums ys : List ℕ) → HoldsPresent g have erased n (node_count g) layer
    → ((j b : ℕ) → j < length points → b < g.width → byte_of sums g.width b j ≡ weighted_sum (node_count g) (present_value layer erased g.width b) j)
    → HaveSums points g.width ys sums
    → ((p : ℕ) → p < length points * g.width → get_or ys p 0 < 2 ^ 8)
    → (word : List (List ℕ)) → Completes g have word → (e b : ℕ) → e < length points → b < g.width
    → byte_of ys g.width b e ≡ uncoupled_byte g word b (get_or points e 0) n
solved_layer g have erased points geometry few same n layer sums ys holds summed solved bytes word fits e b he hb =
    let rows : 0 < row_count g = let some = geometry.limits.parity_chunks.0 in omega arith in
    let small : node_count g ≤ 2 ^ 8 = let most = geometry.nodes in omega arith in
    let all : ℕ = node_count g in
    let f : ℕ → ℕ = λ i. uncoupled_byte g word b i n in
    let found : ℕ → ℕ = byte_of ys g.width b in
    let count : (v : ℕ) → v < length (erased_below erased all) → v < length points = λ v h. subst (λ l. v < length l) (sym same) h in
    let value : (i : ℕ) → i < all → present_value layer erased g.width b i ≡ present erased f i =
    λ i h. elim (cases_Bool (get_or erased i false)) [
      | inl gone ↦ cond-true (get_or erased i false) 0 (get_or layer (i * g.width + b) 0) gone ∙ sym (cond-true (get_or erased i false) 0 (f i) gone)
      | inr there ↦
          cond-false (get_or erased i false) 0 (get_or layer (i * g.width + b) 0) there
          ∙ holds.at word fits i b h there hb
          ∙ sym (cond-false (get_or erased i false) 0 (f i) there)
    ] in
    erased_values_solved all erased f found small
    (λ i h. uncoupled_below (row_count g) (coupled_value g word b) (coupled_below g word fits.codeword b) (i % row_count g) (i / row_count g) (layer_of g n))
    (λ v h. bytes (v * g.width + b) (place_below v (length points) g.width b (count v h) hb))
    (λ j h. fits.codeword.sums b hb (layer_of g n) (IsLayer-digits_of (row_count g) (column_count g) n rows) j (let low = count j h in omega arith))
    (λ j h.
    ap (λ l. sum_over l found j) (sym same)
    ∙ solved j b (count j h) hb
    ∙ summed j b (count j h) hb
    ∙ sum_below_same all (λ i. product (power_of i j) (present_value layer erased g.width b i)) (λ i. product (power_of i j) (present erased f i))
    (λ i l. ap (product (power_of i j)) (value i l)))
    e (subst (λ l. e < length l) same he)
    ∙ ap (λ l. f (get_or l e 0)) (sym same)

-- a layer of lower score stands earlier in the order
pub lower_earlier : (g : Shape) (erased : List Bool) (layers : List ℕ) → IsByScore g erased layers → (i p : ℕ) → i < length layers → p < layer_count g
    → score_at g erased p < score_at g erased (get_or layers i 0) → (k : ℕ) × (k < i) × (get_or layers k 0 ≡ p)
lower_earlier g erased layers order i p hi hp less =
    let found = order.each_layer p hp in
    let k : ℕ = found.0 in
    let within : k < length layers = found.1 in
    let is : get_or layers k 0 ≡ p = found.2 in
    let lower : score_at g erased (get_or layers k 0) < score_at g erased (get_or layers i 0) = subst (λ v. score_at g erased v < score_at g erased (get_or layers i 0)) (sym is) less in
    elim (cases_lt k i) [
      | inl early ↦ (k, early, is)
      | inr late ↦ elim (cases_eq k i) [
        | inl here ↦ absurd (let h : score_at g erased (get_or layers i 0) < score_at g erased (get_or layers i 0) = subst (λ v. score_at g erased (get_or layers v 0) < score_at g erased (get_or layers i 0)) here lower in omega arith)
        | inr other ↦ absurd (not_before (score_at g erased (get_or layers k 0)) (score_at g erased (get_or layers i 0)) (get_or layers i 0) (get_or layers k 0) lower (order.rising i k (omega arith) within))
      ]
    ]
  where
    not_before : (s t v w : ℕ) → s < t → (t < s) ⊎ ((t ≡ s) × (v < w)) → ⊥
    not_before s t v w less (inl h) = omega arith
    not_before s t v w less (inr h) = let same : t ≡ s = h.0 in omega arith

-- the layers below score of the next one are solved
pub lower_solved : (g : Shape) (have : List (Option (Vec ℕ Global))) (erased : List Bool) (points layers solved : List ℕ) → IsByScore g erased layers → (i : ℕ) → i < length layers
    → ((k : ℕ) → k < i → HoldsLayer g have points (get_or layers k 0) solved) → HoldsLower g have erased points (get_or layers i 0) solved
lower_solved g have erased points layers solved order i hi done p hp less =
    let found = lower_earlier g erased layers order i p hi hp less in
    subst (λ v. HoldsLayer g have points v solved) found.2 (done found.0 found.1)

-- all layers are solved
pub every_layer : (g : Shape) (have : List (Option (Vec ℕ Global))) (erased : List Bool) (points layers solved : List ℕ) → IsByScore g erased layers
    → ((k : ℕ) → k < length layers → HoldsLayer g have points (get_or layers k 0) solved) → (n : ℕ) → n < layer_count g → HoldsLayer g have points n solved
every_layer g have erased points layers solved order done n h =
    let found = order.each_layer n h in
    subst (λ v. HoldsLayer g have points v solved) found.2 (done found.0 found.1)

-- two entries of the order are different layers
pub other_layer : (g : Shape) (erased : List Bool) (layers : List ℕ) → IsByScore g erased layers → (k i : ℕ) → k < i → i < length layers → get_or layers k 0 ≢ get_or layers i 0
other_layer g erased layers order k i h hi same = differ (score_at g erased (get_or layers k 0)) (score_at g erased (get_or layers i 0)) (get_or layers k 0) (get_or layers i 0) same (ap (score_at g erased) same) (order.rising k i h hi)
  where
    differ : (s t v w : ℕ) → v ≡ w → s ≡ t → (s < t) ⊎ ((s ≡ t) × (v < w)) → ⊥
    differ s t v w e f (inl h) = omega arith
    differ s t v w e f (inr h) = let less : v < w = h.1 in omega arith

-- ---- the layer that is written

-- the place of byte b of piece e in layer n
place_is : (n c e w b : ℕ) → (n * c + e) * w + b ≡ n * (c * w) + (e * w + b)
place_is n c e w b = omega arith

pub layer_written : (g : Shape) (have : List (Option (Vec ℕ Global))) (erased : List Bool) (points : List ℕ) → IsGeometry g → length points ≤ g.parity_count → points ≡ erased_below erased (node_count g)
    → (n k : ℕ) (layer sums solved ys : List ℕ) → n < layer_count g → k ≡ length points * g.width → length solved ≡ layer_count g * (length points * g.width) → length ys ≡ length points * g.width
    → HoldsPresent g have erased n (node_count g) layer
    → ((j b : ℕ) → j < length points → b < g.width → byte_of sums g.width b j ≡ weighted_sum (node_count g) (present_value layer erased g.width b) j)
    → HaveSums points g.width ys sums
    → ((p : ℕ) → get_or (put_mid (n * (length points * g.width)) k solved ys) p 0 < 2 ^ 8)
    → HoldsLayer g have points n (put_mid (n * (length points * g.width)) k solved ys)
layer_written g have erased points geometry few same n k layer sums solved ys below width long ys_long holds summed have_sums bytes =
    let part : ℕ = length points * g.width in
    let new : List ℕ = put_mid (n * part) k solved ys in
    let fits : n * part + part ≤ layer_count g * part = piece_fits n (layer_count g) part below in
    let start : n * part ≤ length solved = omega arith in
    let within : (p : ℕ) → p < part → get_or new (n * part + p) 0 ≡ get_or ys p 0 =
    λ p h. put_mid_within (n * part) k solved ys p start (subst (λ v. p < v) (sym ys_long) h) in
    record {
      at = λ word fitting e b he hb.
          ap (λ p. get_or new p 0) (place_is n (length points) e g.width b)
          ∙ within (e * g.width + b) (place_below e (length points) g.width b he hb)
          ∙ solved_layer g have erased points geometry few same n layer sums ys holds summed have_sums
          (λ p h. subst (λ v. v < 2 ^ 8) (within p h) (bytes (n * part + p))) word fitting e b he hb;
    }

pub layer_kept : (g : Shape) (have : List (Option (Vec ℕ Global))) (points : List ℕ) (n k p : ℕ) (solved ys : List ℕ) → n < layer_count g → p ≢ n → k ≡ length points * g.width
    → length solved ≡ layer_count g * (length points * g.width) → length ys ≡ length points * g.width
    → HoldsLayer g have points p solved → HoldsLayer g have points p (put_mid (n * (length points * g.width)) k solved ys)
layer_kept g have points n k p solved ys below other width long ys_long holds =
    let part : ℕ = length points * g.width in
    let fits : n * part + part ≤ layer_count g * part = piece_fits n (layer_count g) part below in
    let start : n * part ≤ length solved = omega arith in
    record {
      at = λ word fitting e b he hb.
          let byte : e * g.width + b < part = place_below e (length points) g.width b he hb in
          let place : ℕ = p * part + (e * g.width + b) in
          let is : (p * length points + e) * g.width + b ≡ place = place_is p (length points) e g.width b in
          let kept : get_or (put_mid (n * part) k solved ys) place 0 ≡ get_or solved place 0 =
          elim (cases_lt p n) [
            | inl early ↦ put_mid_before (n * part) k solved ys place start (place_below p n part (e * g.width + b) early byte)
            | inr late ↦
                let after : n * part + part ≤ p * part = piece_fits n p part (omega (arith, late, other)) in
                put_mid_past (n * part) k solved ys place (omega arith) (ys_long ∙ sym width) (omega arith)
          ] in
          ap (λ v. get_or (put_mid (n * part) k solved ys) v 0) is ∙ kept ∙ ap (λ v. get_or solved v 0) (sym is) ∙ holds.at word fitting e b he hb;
    }

-- the same at places that are equal to these
pub layer_kept_at : (g : Shape) (have : List (Option (Vec ℕ Global))) (points : List ℕ) (n at k p : ℕ) (solved ys : List ℕ) → n < layer_count g → p ≢ n → at ≡ n * (length points * g.width) → k ≡ length points * g.width
    → length solved ≡ layer_count g * (length points * g.width) → length ys ≡ length points * g.width
    → HoldsLayer g have points p solved → HoldsLayer g have points p (put_mid at k solved ys)
layer_kept_at g have points n at k p solved ys below other at_is width long ys_long holds =
    subst (λ a. HoldsLayer g have points p (put_mid a k solved ys)) (sym at_is) (layer_kept g have points n k p solved ys below other width long ys_long holds)

-- the piece of an erased node
pub solved_part : (g : Shape) (have : List (Option (Vec ℕ Global))) (points solved : List ℕ) (i n e at k : ℕ) → HoldsLayer g have points n solved → e < length points → get_or points e 0 ≡ i
    → at ≡ (n * length points + e) * g.width → k ≡ g.width → IsUncoupled g have i n (take k (drop at solved))
solved_part g have points solved i n e at k holds within point at_is width = record {
  at = λ word fits b hb.
      get_or-take k (drop at solved) b 0 (subst (λ w. b < w) (sym width) hb)
      ∙ get_or-drop at solved b 0
      ∙ ap (λ p. get_or solved (p + b) 0) at_is
      ∙ holds.at word fits e b within hb
      ∙ ap (λ v. uncoupled_byte g word b v n) point;
}

-- ---- the nodes of a layer, and the subchunks of a chunk, one after another

pub no_present : (g : Shape) (have : List (Option (Vec ℕ Global))) (erased : List Bool) (n : ℕ) (layer : List ℕ) → HoldsPresent g have erased n 0 layer
no_present g have erased n layer = record { at = λ word fits i b hi here hb. absurd (omega arith) }

pub present_more : (g : Shape) (have : List (Option (Vec ℕ Global))) (erased : List Bool) (n node k : ℕ) (layer out : List ℕ) → node * g.width ≤ length layer → length out ≡ g.width
    → HoldsPresent g have erased n node layer → IsUncoupled g have node n out → HoldsPresent g have erased n (node + 1) (put_mid (node * g.width) k layer out)
present_more g have erased n node k layer out start long before new = record {
  at = λ word fits i b hi here hb. elim (cases_eq i node) [
    | inl same ↦
        ap (λ v. get_or (put_mid (node * g.width) k layer out) (v * g.width + b) 0) same
        ∙ put_mid_within (node * g.width) k layer out b start (subst (λ v. b < v) (sym long) hb)
        ∙ new.at word fits b hb
        ∙ ap (λ v. uncoupled_byte g word b v n) (sym same)
    | inr other ↦
        let below : i < node = omega (arith, other) in
        put_mid_before (node * g.width) k layer out (i * g.width + b) start (place_below i node g.width b below hb)
        ∙ before.at word fits i b below here hb
  ];
}

pub present_skipped : (g : Shape) (have : List (Option (Vec ℕ Global))) (erased : List Bool) (n node : ℕ) (layer : List ℕ) → get_or erased node false ≡ true
    → HoldsPresent g have erased n node layer → HoldsPresent g have erased n (node + 1) layer
present_skipped g have erased n node layer gone before = record {
  at = λ word fits i b hi here hb. elim (cases_eq i node) [
    | inl same ↦ let both : true ≡ false = sym gone ∙ ap (λ v. get_or erased v false) (sym same) ∙ here in absurd (true≢false both)
    | inr other ↦ before.at word fits i b (omega (arith, other)) here hb
  ];
}

pub subchunk_more : (g : Shape) (have : List (Option (Vec ℕ Global))) (i n k : ℕ) (chunk out : List ℕ) → n * g.width ≤ length chunk → length out ≡ g.width
    → HoldsSubchunks g have i n chunk → IsCoupled g have i n out → HoldsSubchunks g have i (n + 1) (put_mid (n * g.width) k chunk out)
subchunk_more g have i n k chunk out start long before new = record {
  at = λ word fits v b hv hb. elim (cases_eq v n) [
    | inl same ↦
        ap (λ u. get_or (put_mid (n * g.width) k chunk out) (u * g.width + b) 0) same
        ∙ put_mid_within (n * g.width) k chunk out b start (subst (λ u. b < u) (sym long) hb)
        ∙ new.at word fits b hb
        ∙ ap (λ u. coupled_byte g word b i u) (sym same)
    | inr other ↦
        let below : v < n = omega (arith, other) in
        put_mid_before (n * g.width) k chunk out (v * g.width + b) start (place_below v n g.width b below hb)
        ∙ before.at word fits v b below hb
  ];
}
