-- The nodes that are filled up in the layers that are not given: those of the missing chunks, and as many others that there are m.
use Rattle.std.proofs.Common.{◌≡◌, ◌≢◌, ℕ, zero, suc, subst, ◌+◌, ◌-◌, ◌<◌, ◌≤◌, Bool, true, false, cond, not, eqb, ◌&&◌, ◌||◌, List, [], ◌∷◌, ◌++◌, length, get_or, Option, None, is_none, refl, sym, ap, ◌∙◌, inl, inr, arith}
use Rattle.std.proofs.lemmas.Bool.{cases_eq, cases_lt, cases_Bool, eq-eqb, ne_eqb, true≢false}
use Rattle.std.proofs.lemmas.List.{length_push, get_or_push, get_or_append_left, get_or_past}
use Rattle.clay_grid.specs.Shape.{node_count}
use Rattle.clay_grid.specs.Score.{count_below}
use Rattle.clay_grid.proofs.Counting.{count_below_same, count_below_false, count_below_true, count_below_one}
use Rattle.clay_model.proofs.SumLaws.{one_if}
use Rattle.clay_model.specs.Erased.{erased_below}
use Rattle.code_laws.proofs.Nodes.{length-erased_below}
use Rattle.clay_aloof.specs.Shape.{AloofShape, all_chunks, grid_of, node_of, is_virtual_node, chunk_at}
use Rattle.clay_aloof.specs.Limits.{IsAloof}
use Rattle.clay_aloof.specs.Pieces.{PiecesFit}
use Rattle.clay_aloof.specs.Rebuilt.{is_missing_node}
use Rattle.clay_aloof.proofs.Nodes.{node_real, node_inside}
use Rattle.clay_aloof.proofs.Unknown.{count_either, nodes_counted, missing_counted, missing_chunks}

-- ---- between two tests of which one follows from the other there is one that as many numbers pass as is wanted

count_more : (n : ℕ) (f g : ℕ → Bool) → ((i : ℕ) → i < n → f i ≡ true → g i ≡ true) → count_below n f ≤ count_below n g
count_more zero f g each = omega arith
count_more (suc n) f g each =
    let rest : count_below n f ≤ count_below n g = count_more n f g (λ i h. each i (omega arith)) in
    elim (cases_Bool (f n)) [
      | inl passes ↦
          let low : one_if (f n) ≡ 1 = ap one_if passes in
          let high : one_if (g n) ≡ 1 = ap one_if (each n (omega arith) passes) in
          omega arith
      | inr fails ↦ let low : one_if (f n) ≡ 0 = ap one_if fails in omega arith
    ]

record IsChosen (n m : ℕ) (f g : ℕ → Bool) (h : List Bool) : Type 0 where
  long : length h ≡ n
  counted : count_below n (λ i. get_or h i false) ≡ m
  above : (i : ℕ) → i < n → f i ≡ true → get_or h i false ≡ true
  within : (i : ℕ) → i < n → get_or h i false ≡ true → g i ≡ true

chosen_more : (n m k : ℕ) (f g : ℕ → Bool) (h : List Bool) (b : Bool) → IsChosen n m f g h → (f n ≡ true → b ≡ true) → (b ≡ true → g n ≡ true) → m + cond b 1 0 ≡ k → IsChosen (suc n) k f g (h ++ b ∷ [])
chosen_more n m k f g h b before above within count =
    let early : (i : ℕ) → i < n → get_or (h ++ b ∷ []) i false ≡ get_or h i false =
    λ i l. get_or_append_left h (b ∷ []) false i (subst (λ v. i < v) (sym before.long) l) in
    let last : (i : ℕ) → i ≡ n → get_or (h ++ b ∷ []) i false ≡ b = λ i same. get_or_push h b false i (before.long ∙ sym same) in
    let counted : count_below n (λ i. get_or (h ++ b ∷ []) i false) ≡ m = count_below_same n _ (λ i. get_or h i false) early ∙ before.counted in
    record {
      long = length_push h b ∙ ap (λ v. v + 1) before.long ∙ omega arith;
      counted = (λ j. counted j + cond (last n refl j) 1 0) ∙ count;
      above = λ i l passes. elim (cases_eq i n) [
        | inl same ↦ last i same ∙ above (ap f (sym same) ∙ passes)
        | inr other ↦ let below : i < n = omega (arith, other) in early i below ∙ before.above i below passes
      ];
      within = λ i l passes. elim (cases_eq i n) [
        | inl same ↦ ap g same ∙ within (sym (last i same) ∙ passes)
        | inr other ↦ let below : i < n = omega (arith, other) in before.within i below (sym (early i below) ∙ passes)
      ];
    }

chosen : (n m : ℕ) (f g : ℕ → Bool) → ((i : ℕ) → i < n → f i ≡ true → g i ≡ true) → count_below n f ≤ m → m ≤ count_below n g → (h : List Bool) × IsChosen n m f g h
chosen zero m f g each low high =
    let none : 0 ≡ m = omega arith in
    ([], record { long = refl; counted = none; above = λ i h e. absurd (omega arith); within = λ i h e. absurd (omega arith) })
chosen (suc n) m f g each low high =
    let earlier : (i : ℕ) → i < n → f i ≡ true → g i ≡ true = λ i h. each i (omega arith) in
    let more : count_below n f ≤ count_below n g = count_more n f g earlier in
    elim (cases_Bool (f n)) [
      | inl passes ↦
          let too : g n ≡ true = each n (omega arith) passes in
          let one : one_if (f n) ≡ 1 = ap one_if passes in
          let other : one_if (g n) ≡ 1 = ap one_if too in
          let rest = chosen n (m - 1) f g earlier (omega arith) (omega arith) in
          let whole : m - 1 + 1 ≡ m = omega arith in
          (rest.0 ++ true ∷ [], chosen_more n (m - 1) m f g rest.0 true rest.1 (λ e. refl) (λ e. too) whole)
      | inr fails ↦
          let none : one_if (f n) ≡ 0 = ap one_if fails in
          elim (cases_Bool (g n)) [
            | inl free ↦
                let one : one_if (g n) ≡ 1 = ap one_if free in
                elim (cases_lt (count_below n f) m) [
                  | inl wanted ↦
                      let rest = chosen n (m - 1) f g earlier (omega arith) (omega arith) in
                      let whole : m - 1 + 1 ≡ m = omega arith in
                      (rest.0 ++ true ∷ [], chosen_more n (m - 1) m f g rest.0 true rest.1 (λ e. refl) (λ e. free) whole)
                  | inr enough ↦
                      let rest = chosen n m f g earlier (omega arith) (omega arith) in
                      let whole : m + 0 ≡ m = omega arith in
                      (rest.0 ++ false ∷ [], chosen_more n m m f g rest.0 false rest.1 (λ e. sym fails ∙ e) (λ e. absurd (true≢false (sym e))) whole)
                ]
            | inr barred ↦
                let no_more : one_if (g n) ≡ 0 = ap one_if barred in
                let rest = chosen n m f g earlier (omega arith) (omega arith) in
                let whole : m + 0 ≡ m = omega arith in
                (rest.0 ++ false ∷ [], chosen_more n m m f g rest.0 false rest.1 (λ e. sym fails ∙ e) (λ e. absurd (true≢false (sym e))) whole)
          ]
    ]

-- ---- the nodes

-- m nodes, among them those of all missing chunks, none of them virtual or the lost one
pub record AreFilled (a : AloofShape) (lost : ℕ) (have : List (Option (List ℕ))) (filled : List Bool) : Type 0 where
  pub counted : length (erased_below filled (node_count (grid_of a))) ≡ a.parity_count
  pub lost_kept : get_or filled (node_of a lost) false ≡ false
  pub virtual_kept : (i : ℕ) → is_virtual_node a i ≡ true → get_or filled i false ≡ false
  pub missing : (i : ℕ) → i < node_count (grid_of a) → i ≢ node_of a lost → get_or filled i false ≡ false → is_missing_node a have i ≡ false

-- whether a node stands for a chunk
is_real : AloofShape → ℕ → Bool
is_real a i = not (is_virtual_node a i) && true

not_lost : AloofShape → ℕ → (ℕ → Bool) → ℕ → Bool
not_lost a lost f i = f i && not (eqb (node_of a lost) i)

and_both : (a b : Bool) → (a && b) ≡ true → (a ≡ true) × (b ≡ true)
and_both true true e = (refl, refl)
and_both true false e = absurd (true≢false (sym e))
and_both false b e = absurd (true≢false (sym e))

-- as many nodes are real as there are chunks
real_counted : (a : AloofShape) → IsAloof a → count_below (node_count (grid_of a)) (is_real a) ≡ all_chunks a
unfolding is_real
real_counted a aloof = nodes_counted a (λ c. true) aloof ∙ count_below_true (all_chunks a)

-- the others but the lost one
others_counted : (a : AloofShape) (lost : ℕ) → IsAloof a → lost < all_chunks a → count_below (node_count (grid_of a)) (not_lost a lost (is_real a)) + 1 ≡ all_chunks a
unfolding is_real not_lost
others_counted a lost aloof within =
    let n : ℕ = node_count (grid_of a) in
    let node : ℕ = node_of a lost in
    let real : ℕ → Bool = is_real a in
    let f : ℕ → Bool = λ i. real i && not (eqb node i) in
    let g : ℕ → Bool = λ i. real i && eqb node i in
    let whole : count_below n (λ i. f i || g i) ≡ all_chunks a =
    count_below_same n (λ i. f i || g i) real (λ i h. split (real i) (eqb node i)) ∙ real_counted a aloof in
    let none : count_below n (λ i. f i && g i) ≡ 0 =
    count_below_same n (λ i. f i && g i) (λ i. false) (λ i h. never (real i) (eqb node i)) ∙ count_below_false n in
    let one : count_below n g ≡ 1 =
    count_below_one n node real (node_inside a lost aloof within)
    ∙ ap (λ b. cond b 1 0) (ap (λ b. not b && true) (node_real a lost node refl).real) in
    let either : count_below n (λ i. f i || g i) + count_below n (λ i. f i && g i) ≡ count_below n f + count_below n g = count_either n f g in
    joined (count_below n f) (count_below n g) (count_below n (λ i. f i || g i)) (count_below n (λ i. f i && g i)) (all_chunks a) whole none one either
  where
    split : (a b : Bool) → ((a && not b) || (a && b)) ≡ a
    split true true = refl
    split true false = refl
    split false b = refl

    never : (a b : Bool) → ((a && not b) && (a && b)) ≡ false
    never true true = refl
    never true false = refl
    never false b = refl

    joined : (f g e b n : ℕ) → e ≡ n → b ≡ 0 → g ≡ 1 → e + b ≡ f + g → f + 1 ≡ n
    joined f g e b n whole none one either = omega arith

pub filled_nodes : (a : AloofShape) (lost : ℕ) (have : List (Option (List ℕ))) → IsAloof a → lost < all_chunks a → PiecesFit a lost have → (filled : List Bool) × AreFilled a lost have filled
unfolding is_real not_lost
filled_nodes a lost have aloof within fit =
    let n : ℕ = node_count (grid_of a) in
    let node : ℕ = node_of a lost in
    let gone : ℕ → Bool = not_lost a lost (is_missing_node a have) in
    let free : ℕ → Bool = not_lost a lost (is_real a) in
    let each : (i : ℕ) → i < n → gone i ≡ true → free i ≡ true = λ i h e.
    let both = and_both (is_missing_node a have i) (not (eqb node i)) e in
    let parts = and_both (not (is_virtual_node a i)) (is_none (get_or have (chunk_at a i) None)) both.0 in
    (λ k. (parts.0 k && true) && both.1 k) in
    let missing : count_below n (is_missing_node a have) ≡ count_below (all_chunks a) (λ c. is_none (get_or have c None)) = missing_counted a have aloof in
    let fewer : count_below n gone ≤ count_below n (is_missing_node a have) =
    count_more n gone (is_missing_node a have) (λ i h e. (and_both (is_missing_node a have i) (not (eqb node i)) e).0) in
    let helpers = missing_chunks a lost have fit in
    let low : count_below n gone ≤ a.parity_count =
    few (count_below n gone) (count_below n (is_missing_node a have)) (count_below (all_chunks a) (λ c. is_none (get_or have c None))) a.data_count a.parity_count a.helper_count fewer missing helpers aloof.limits.helpers.0 in
    let high : a.parity_count ≤ count_below n free = many (count_below n free) a.data_count a.parity_count (others_counted a lost aloof within) aloof.limits.data_chunks in
    let made = chosen n a.parity_count gone free each low high in
    let h : List Bool = made.0 in
    let is : IsChosen n a.parity_count gone free h = made.1 in (
      h,
      record {
        counted = length-erased_below h n ∙ is.counted;
        lost_kept = elim (cases_Bool (get_or h node false)) [
          | inl there ↦
              let passes : free node ≡ true = is.within node (node_inside a lost aloof within) there in
              let own : not (eqb node node) ≡ false = ap not (eq-eqb node node refl) in
              absurd (true≢false (sym (and_both (is_real a node) (not (eqb node node)) passes).1 ∙ own))
          | inr kept ↦ kept
        ];
        virtual_kept = λ i virtual. elim (cases_Bool (get_or h i false)) [
          | inl there ↦ elim (cases_lt i n) [
            | inl inside ↦
                let passes : free i ≡ true = is.within i inside there in
                let real : (not (is_virtual_node a i) && true) ≡ true = (and_both (is_real a i) (not (eqb node i)) passes).0 in
                absurd (true≢false (sym real ∙ ap (λ b. not b && true) virtual))
            | inr past ↦ absurd (true≢false (sym there ∙ get_or_past h i false (subst (λ l. l ≤ i) (sym is.long) past)))
          ]
          | inr kept ↦ kept
        ];
        missing = λ i inside other kept. elim (cases_Bool (is_missing_node a have i)) [
          | inl lack ↦
              let passes : gone i ≡ true = (λ k. lack k && not (ne_eqb node i (λ e. other (sym e)) k)) in
              absurd (true≢false (sym (is.above i inside passes) ∙ kept))
          | inr there ↦ there
        ];
      },
    )
  where
    few : (f g u k m d : ℕ) → f ≤ g → g ≡ u → d + u ≡ k + m → k < d → f ≤ m
    few f g u k m d less same rest low = omega arith

    many : (f k m : ℕ) → f + 1 ≡ k + m → 2 ≤ k → m ≤ f
    many f k m whole low = omega arith
