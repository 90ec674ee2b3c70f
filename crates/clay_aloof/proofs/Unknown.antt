-- How many nodes a repair solves.
use Rattle.std.proofs.Common.{◌≡◌, ℕ, zero, suc, subst, ◌+◌, ◌-◌, ◌*◌, ◌/◌, ◌<◌, ◌≤◌, Bool, true, false, cond, not, eqb, ◌&&◌, ◌||◌, ◌⊎◌, ◌%◌, List, [], ◌∷◌, ◌++◌, length, get_or, Option, None, Some, is_none, is_some, refl, sym, ap, ◌∙◌, inl, inr, arith}
use Rattle.std.proofs.lemmas.Bool.{cases_eq, eq-eqb, ne_eqb}
use Rattle.std.proofs.lemmas.Nat.{div_below}
use Rattle.std.proofs.lemmas.List.{get_or_push, get_or_append_left}
use Rattle.std.proofs.Math.Nat.{mul_comm, mod-eq_of_lt}
use Rattle.clay_grid.specs.Shape.{node_count, virtual_count, column_count}
use Rattle.clay_grid.specs.Score.{count_below}
use Rattle.clay_grid.proofs.Counting.{count_below_same, count_below_false, count_below-add, count_below_digit, count_below_one}
use Rattle.clay_model.proofs.Unique.{row_of}
use Rattle.clay_model.specs.Erased.{erased_below}
use Rattle.code_laws.proofs.Nodes.{length-erased_below}
use Rattle.clay_aloof.specs.Shape.{AloofShape, all_chunks, rows_of, grid_of, node_of, chunk_at, is_virtual_node}
use Rattle.clay_aloof.specs.Limits.{IsAloof}
use Rattle.clay_aloof.specs.Pieces.{PiecesFit}
use Rattle.clay_aloof.specs.Rebuilt.{is_missing_node, is_unknown}
use Rattle.clay_aloof.proofs.Layer.{some_rows}
use Rattle.clay_aloof.proofs.Parts.{column_known}
use Rattle.clay_aloof.proofs.Nodes.{IsNodeOf, nodes_are, node_real, node_virtual, node_early, node_late, node_inside}

-- of the numbers below r * s, those whose quotient by s is x
count_below_row : (s r x : ℕ) → 0 < s → x < r → count_below (r * s) (λ i. eqb (i / s) x) ≡ s
count_below_row s r x some h =
    let once : r * s ≡ 1 * (r * s) = omega arith in
    let own : (i : ℕ) → i < r * s → i / s % r ≡ i / s =
    λ i below. let quotient : i / s < r = div_below i s r some below in mod-eq_of_lt {n = i / s} {m = r} quotient in
    count_below_same (r * s) (λ i. eqb (i / s) x) (λ i. eqb (i / s % r) x) (λ i below. ap (λ d. eqb d x) (sym (own i below)))
    ∙ ap (λ n. count_below n (λ i. eqb (i / s % r) x)) once
    ∙ count_below_digit r s x 1 some h
    ∙ omega arith

-- one flag more
pub flags_more : (before : List Bool) (x : Bool) (n : ℕ) (test : ℕ → Bool) → length before ≡ n → ((i : ℕ) → i < n → get_or before i false ≡ test i) → x ≡ test n
    → (i : ℕ) → i < n + 1 → get_or (before ++ x ∷ []) i false ≡ test i
flags_more before x n test long each last i h =
    elim (cases_eq i n) [
      | inl same ↦ get_or_push before x false i (long ∙ sym same) ∙ last ∙ ap test (sym same)
      | inr other ↦
          let below : i < n = omega (arith, other) in
          get_or_append_left before (x ∷ []) false i (subst (λ v. i < v) (sym long) below) ∙ each i below
    ]

-- of two tests
pub count_either : (n : ℕ) (f g : ℕ → Bool) → count_below n (λ i. f i || g i) + count_below n (λ i. f i && g i) ≡ count_below n f + count_below n g
count_either zero f g = refl
count_either (suc n) f g =
    let rest = count_either n f g in
    let last : cond (f n || g n) 1 0 + cond (f n && g n) 1 0 ≡ cond (f n) 1 0 + cond (g n) 1 0 = one (f n) (g n) in
    joined (count_below n (λ i. f i || g i)) (count_below n (λ i. f i && g i)) (count_below n f) (count_below n g) (cond (f n || g n) 1 0) (cond (f n && g n) 1 0) (cond (f n) 1 0) (cond (g n) 1 0) rest last
  where
    one : (a b : Bool) → cond (a || b) 1 0 + cond (a && b) 1 0 ≡ cond a 1 0 + cond b 1 0
    one true true = refl
    one true false = refl
    one false true = refl
    one false false = refl

    joined : (a b c d e f g h : ℕ) → a + b ≡ c + d → e + f ≡ g + h → a + e + (b + f) ≡ c + g + (d + h)
    joined a b c d e f g h p q = omega arith

count_both : (n : ℕ) (f g : ℕ → Bool) → ((i : ℕ) → g i ≡ not (f i)) → count_below n f + count_below n g ≡ n
count_both zero f g each = refl
count_both (suc n) f g each =
    let rest = count_both n f g each in
    let last : cond (f n) 1 0 + cond (g n) 1 0 ≡ 1 = ap (λ b. cond (f n) 1 0 + cond b 1 0) (each n) ∙ one (f n) in
    joined (count_below n f) (count_below n g) (cond (f n) 1 0) (cond (g n) 1 0) n rest last
  where
    one : (a : Bool) → cond a 1 0 + cond (not a) 1 0 ≡ 1
    one true = refl
    one false = refl

    joined : (a b c d n : ℕ) → a + b ≡ n → c + d ≡ 1 → a + c + (b + d) ≡ suc n
    joined a b c d n p q = omega arith

pub missing_real : (a : AloofShape) (have : List (Option (List ℕ))) (c i : ℕ) → IsNodeOf a c i → is_missing_node a have i ≡ is_none (get_or have c None)
missing_real a have c i node = λ k. not (node.real k) && is_none (get_or have (node.chunk k) None)

-- as many nodes as chunks pass a test of their chunks
pub nodes_counted : (a : AloofShape) (test : ℕ → Bool) → IsAloof a → count_below (node_count (grid_of a)) (λ i. not (is_virtual_node a i) && test (chunk_at a i)) ≡ count_below (all_chunks a) test
nodes_counted a test aloof =
    let k : ℕ = a.data_count in
    let m : ℕ = a.parity_count in
    let v : ℕ = virtual_count (grid_of a) in
    let f : ℕ → Bool = λ i. not (is_virtual_node a i) && test (chunk_at a i) in
    let real : (c i : ℕ) → IsNodeOf a c i → f i ≡ test c = λ c i node. (λ j. not (node.real j) && test (node.chunk j)) in
    let all : node_count (grid_of a) ≡ k + v + m = nodes_are a aloof ∙ turned k m v in
    let front : count_below k f ≡ count_below k test = count_below_same k f test (λ i h. real i i (node_real a i i (node_early a i h))) in
    let middle : count_below v (λ i. f (k + i)) ≡ 0 =
    count_below_same v (λ i. f (k + i)) (λ i. false)
    (λ i h. ap (λ b. not b && test (chunk_at a (k + i))) (node_virtual a (k + i) (omega arith) (beside k v i h)))
    ∙ count_below_false v in
    let back : count_below m (λ i. f (k + v + i)) ≡ count_below m (λ i. test (k + i)) =
    count_below_same m (λ i. f (k + v + i)) (λ i. test (k + i))
    (λ i h. real (k + i) (k + v + i) (node_real a (k + i) (k + v + i) (node_late a (k + i) (omega arith) ∙ moved k i v))) in
    ap (λ n. count_below n f) all
    ∙ count_below-add (k + v) m f
    ∙ (λ j. (count_below-add k v f ∙ (λ l. front l + middle l) ∙ plain (count_below k test)) j + back j)
    ∙ sym (count_below-add k m test)
  where
    turned : (k m v : ℕ) → k + m + v ≡ k + v + m
    turned k m v = omega arith

    beside : (k v i : ℕ) → i < v → k + i < k + v
    beside k v i h = omega arith

    moved : (k i v : ℕ) → k + i + v ≡ k + v + i
    moved k i v = omega arith

    plain : (a : ℕ) → a + 0 ≡ a
    plain a = omega arith

-- as many nodes are missing as chunks
pub missing_counted : (a : AloofShape) (have : List (Option (List ℕ))) → IsAloof a
    → count_below (node_count (grid_of a)) (is_missing_node a have) ≡ count_below (all_chunks a) (λ c. is_none (get_or have c None))
missing_counted a have aloof = nodes_counted a (λ c. is_none (get_or have c None)) aloof

none_is : (o : Option (List ℕ)) → is_none o ≡ not (is_some o)
none_is o = elim o as (λ p. is_none p ≡ not (is_some p)) [ Some v ↦ refl | None ↦ refl ]

missing_not : (a : AloofShape) (have : List (Option (List ℕ))) (i : ℕ) → (is_virtual_node a i ≡ true) ⊎ (is_none (get_or have (chunk_at a i) None) ≡ false) → is_missing_node a have i ≡ false
missing_not a have i known =
    elim known [
      | inl virtual ↦ ap (λ b. not b && is_none (get_or have (chunk_at a i) None)) virtual
      | inr there ↦ ap (λ b. not (is_virtual_node a i) && b) there ∙ and_false (not (is_virtual_node a i))
    ]
  where
    and_false : (b : Bool) → (b && false) ≡ false
    and_false true = refl
    and_false false = refl

-- of the lost node's column its chunk alone is missing
lost_alone : (a : AloofShape) (lost : ℕ) (have : List (Option (List ℕ))) → IsAloof a → lost < all_chunks a → PiecesFit a lost have → (i : ℕ) → i < node_count (grid_of a)
    → (eqb (i / rows_of a) (node_of a lost / rows_of a) && is_missing_node a have i) ≡ (eqb (i / rows_of a) (node_of a lost / rows_of a) && eqb (node_of a lost) i)
lost_alone a lost have aloof within fit i h =
    let node : ℕ = node_of a lost in
    elim (cases_eq (i / rows_of a) (node / rows_of a)) [
      | inl column ↦ elim (cases_eq node i) [
        | inl same ↦
            let gone : is_missing_node a have i ≡ true = missing_real a have lost i (node_real a lost i same) ∙ ap is_none fit.none in
            ap (λ b. eqb (i / rows_of a) (node / rows_of a) && b) (gone ∙ sym (eq-eqb node i same))
        | inr other ↦
            let there : is_missing_node a have i ≡ false = missing_not a have i (column_known a lost have i aloof fit h column (λ e. other (sym e))) in
            ap (λ b. eqb (i / rows_of a) (node / rows_of a) && b) (there ∙ sym (ne_eqb node i other))
      ]
      | inr other ↦
          let out : eqb (i / rows_of a) (node / rows_of a) ≡ false = ne_eqb (i / rows_of a) (node / rows_of a) other in
          (λ k. out k && is_missing_node a have i) ∙ sym (λ k. out k && eqb node i)
    ]

-- as many chunks are missing as are no helpers
pub missing_chunks : (a : AloofShape) (lost : ℕ) (have : List (Option (List ℕ))) → PiecesFit a lost have → a.helper_count + count_below (all_chunks a) (λ c. is_none (get_or have c None)) ≡ all_chunks a
missing_chunks a lost have fit =
    ap (λ n. n + count_below (all_chunks a) (λ c. is_none (get_or have c None))) (sym fit.helpers)
    ∙ count_both (all_chunks a) (λ c. is_some (get_or have c None)) (λ c. is_none (get_or have c None)) (λ c. none_is (get_or have c None))

-- as many nodes are solved as there are parity chunks
pub unknown_counted : (a : AloofShape) (lost : ℕ) (have : List (Option (List ℕ))) (erased : List Bool) → IsAloof a → lost < all_chunks a → PiecesFit a lost have
    → ((i : ℕ) → i < node_count (grid_of a) → get_or erased i false ≡ is_unknown a lost have i) → length (erased_below erased (node_count (grid_of a))) ≡ a.parity_count
unknown_counted a lost have erased aloof within fit each =
    let n : ℕ = node_count (grid_of a) in
    let q : ℕ = rows_of a in
    let node : ℕ = node_of a lost in
    let inside : node < n = node_inside a lost aloof within in
    let y : ℕ = node / q in
    let f : ℕ → Bool = λ i. eqb (i / q) y in
    let g : ℕ → Bool = is_missing_node a have in
    let column : y < column_count (grid_of a) = row_of q (column_count (grid_of a)) node (some_rows (grid_of a) aloof.grid) inside in
    let turned : n ≡ column_count (grid_of a) * q = mul_comm q (column_count (grid_of a)) in
    let in_column : count_below n f ≡ q = ap (λ v. count_below v f) turned ∙ count_below_row q (column_count (grid_of a)) y (some_rows (grid_of a) aloof.grid) column in
    let missing : count_below n g ≡ count_below (all_chunks a) (λ c. is_none (get_or have c None)) = missing_counted a have aloof in
    let both : count_below n (λ i. f i && g i) ≡ 1 =
    count_below_same n (λ i. f i && g i) (λ i. f i && eqb node i) (lost_alone a lost have aloof within fit)
    ∙ count_below_one n node f inside
    ∙ ap (λ b. cond b 1 0) (eq-eqb y y refl) in
    let either : count_below n (λ i. f i || g i) + count_below n (λ i. f i && g i) ≡ count_below n f + count_below n g = count_either n f g in
    let counted : length (erased_below erased n) ≡ count_below n (λ i. f i || g i) =
    length-erased_below erased n ∙ count_below_same n (λ i. get_or erased i false) (λ i. f i || g i) each in
    counted
    ∙ whole (count_below n (λ i. f i || g i)) (count_below n (λ i. f i && g i)) (count_below n f) (count_below n g) (count_below (all_chunks a) (λ c. is_none (get_or have c None)))
    a.data_count a.parity_count a.helper_count either both in_column missing (missing_chunks a lost have fit) aloof.limits.helpers.0
  where
    whole : (e b f g u k m d : ℕ) → e + b ≡ f + g → b ≡ 1 → f ≡ d + 1 - k → g ≡ u → d + u ≡ k + m → k < d → e ≡ m
    whole e b f g u k m d either both column missing rest low = omega arith

pub few_unknown : (a : AloofShape) (lost : ℕ) (have : List (Option (List ℕ))) (erased : List Bool) → IsAloof a → lost < all_chunks a → PiecesFit a lost have
    → ((i : ℕ) → i < node_count (grid_of a) → get_or erased i false ≡ is_unknown a lost have i) → length (erased_below erased (node_count (grid_of a))) ≤ a.parity_count
few_unknown a lost have erased aloof within fit each = let whole = unknown_counted a lost have erased aloof within fit each in omega arith
