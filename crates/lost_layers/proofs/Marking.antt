-- The nodes that count as unknown: no more than sums tell.
use Rattle.std.proofs.Common.{◌≡◌, ℕ, suc, subst, ◌+◌, ◌<◌, ◌≤◌, Bool, true, false, cond, eqb, ltb, List, [], ◌∷◌, ◌++◌, length, get_or, set, fold, filter, sym, ap, ◌∙◌, inl, inr, arith}
use Rattle.std.specs.List.{range_with_len}
use Rattle.std.proofs.lemmas.Bool.{cases_eq, cases_lt, eq-eqb, ne_eqb, lt-ltb, le-ltb, cond-true, cond-false}
use Rattle.std.proofs.lemmas.List.{append-nil, length-set, get_or-set_same, get_or-set_other}
use Rattle.std.proofs.lemmas.List.Sums.{fold-append}
use Rattle.clay_grid.specs.Shape.{Shape, node_count}
use Rattle.clay_grid.specs.Score.{count_below}
use Rattle.clay_grid.proofs.Counting.{count_below_false}
use Rattle.clay_grid.proofs.Rising.{Lists-filter, filter_more}
use Rattle.lost_layers.proofs.PieceLaws.{count_below_pairs, count_below_at_most}
use Rattle.lost_layers.specs.declared.run.LostRun.{LostRun}
use Rattle.lost_layers.specs.Unknown.{is_chosen, chosen, with_node, unknown_from}
use Rattle.lost_layers.specs.declared.unknown.Choice.{Choice}
use Rattle.lost_layers.specs.declared.unknown.Choice.TheVariants.{OwnColumn, MetColumns, Paired}

-- marks for the nodes, which stay where there were marks before, and are no more than sums tell
pub record AreMore (g : Shape) (before marks : List Bool) : Type 0 where
  pub len : length marks ≡ node_count g
  pub kept : (i : ℕ) → get_or before i false ≡ true → get_or marks i false ≡ true
  pub few : count_below (node_count g) (λ i. get_or marks i false) ≤ g.parity_count

more_itself : (g : Shape) (a b : List Bool) → AreMore g a b → AreMore g b b
more_itself g a b more = record { len = more.len; kept = λ i h. h; few = more.few }

more_twice : (g : Shape) (a b c : List Bool) → AreMore g a b → AreMore g b c → AreMore g a c
more_twice g a b c first second = record { len = second.len; kept = λ i h. second.kept i (first.kept i h); few = second.few }

one_at_most : (b : Bool) → cond true 1 0 + cond false 1 0 ≤ cond b 1 0 + cond true 1 0
one_at_most true = omega arith
one_at_most false = omega arith

same_at_most : (b : Bool) (a : Bool) → a ≡ b → cond a 1 0 + cond false 1 0 ≤ cond b 1 0 + cond false 1 0
same_at_most b a same = subst (λ v. cond v 1 0 + cond false 1 0 ≤ cond b 1 0 + cond false 1 0) (sym same) (omega arith)

marked : (g : Shape) (marks : List Bool) (node : ℕ) → AreMore g marks marks → node < node_count g → count_below (node_count g) (λ i. get_or marks i false) < g.parity_count → AreMore g marks (set marks node true)
marked g marks node more inside room =
    let n : ℕ = node_count g in
    let within : node < length marks = subst (λ v. node < v) (sym more.len) inside in
    let at : get_or (set marks node true) node false ≡ true = get_or-set_same marks node true false within in
    let pairs = count_below_pairs n (λ i. get_or (set marks node true) i false) (λ i. false) (λ i. get_or marks i false) (λ i. eqb node i) (λ i h. elim (cases_eq i node) [
      | inl same ↦
          let own : get_or (set marks node true) i false ≡ true = ap (λ v. get_or (set marks node true) v false) same ∙ at in
          subst (λ b. cond (get_or (set marks node true) i false) 1 0 + cond false 1 0 ≤ cond (get_or marks i false) 1 0 + cond b 1 0) (sym (eq-eqb node i (sym same)))
          (subst (λ b. cond b 1 0 + cond false 1 0 ≤ cond (get_or marks i false) 1 0 + cond true 1 0) (sym own) (one_at_most (get_or marks i false)))
      | inr other ↦
          subst (λ b. cond (get_or (set marks node true) i false) 1 0 + cond false 1 0 ≤ cond (get_or marks i false) 1 0 + cond b 1 0) (sym (ne_eqb node i (λ e. other (sym e))))
          (same_at_most (get_or marks i false) (get_or (set marks node true) i false) (get_or-set_other marks node i true false other))
    ]) in
    let one = count_below_at_most n node in
    let none = count_below_false n in
    record {
      len = length-set marks node true ∙ more.len;
      kept = λ i h. elim (cases_eq i node) [
        | inl same ↦ ap (λ v. get_or (set marks node true) v false) same ∙ at
        | inr other ↦ get_or-set_other marks node i true false other ∙ h
      ];
      few = omega (arith, pairs, one, none, room);
    }

-- ---- marks one after another

more_with : (g : Shape) (before marks : List Bool) (i : ℕ) → i < node_count g → AreMore g before marks → AreMore g before (with_node g marks i)
more_with g before marks i inside more =
    let count : ℕ = count_below (node_count g) (λ j. get_or marks j false) in
    elim (cases_lt count g.parity_count) [
      | inl room ↦
          subst (AreMore g before) (sym (cond-true (ltb count g.parity_count) (set marks i true) marks (lt-ltb count g.parity_count room)))
          (more_twice g before marks (set marks i true) more (marked g marks i (more_itself g before marks more) inside room))
      | inr full ↦ subst (AreMore g before) (sym (cond-false (ltb count g.parity_count) (set marks i true) marks (le-ltb count g.parity_count full))) more
    ]

more_fold : (g : Shape) (before marks : List Bool) (xs : List ℕ) → ((i : ℕ) → i < length xs → get_or xs i 0 < node_count g) → AreMore g before marks → AreMore g before (fold (with_node g) marks xs)
more_fold g before marks [] each more = more
more_fold g before marks (x ∷ xs) each more =
    more_fold g before (with_node g marks x) xs (λ i h. each (suc i) (omega arith)) (more_with g before marks x (each 0 (omega arith)) more)

pub in_turn : (g : Shape) (marks : List Bool) (xs ys zs : List ℕ)
    → fold (with_node g) marks (xs ++ (ys ++ zs)) ≡ fold (with_node g) (fold (with_node g) (fold (with_node g) marks xs) ys) zs
in_turn g marks xs ys zs =
    fold-append (with_node g) marks xs (ys ++ zs) ∙ fold-append (with_node g) (fold (with_node g) marks xs) ys zs

pub unknown_more : (g : Shape) (run : LostRun) (missing : List Bool) → AreMore g missing missing → AreMore g missing (unknown_from g run missing)
unknown_more g run missing few =
    let inside : (choice : Choice) (i : ℕ) → i < length (chosen g run missing choice) → get_or (chosen g run missing choice) i 0 < node_count g =
    λ choice i h. ((Lists-filter (is_chosen g run missing choice) (node_count g)).only i h).0 in
    let all : List ℕ = chosen g run missing MetColumns ++ chosen g run missing Paired in
    let own : List Bool = fold (with_node g) missing (chosen g run missing OwnColumn) in
    subst (AreMore g missing) (sym (in_turn g missing (chosen g run missing OwnColumn) (chosen g run missing MetColumns) (chosen g run missing Paired)))
    (more_fold g missing (fold (with_node g) own (chosen g run missing MetColumns)) (chosen g run missing Paired) (inside Paired)
    (more_fold g missing own (chosen g run missing MetColumns) (inside MetColumns)
    (more_fold g missing missing (chosen g run missing OwnColumn) (inside OwnColumn) few)))

-- the loop over the nodes of a choice
pub marked_more : (g : Shape) (test : ℕ → Bool) (before marks : List Bool) (n : ℕ) → marks ≡ fold (with_node g) before (filter test (range_with_len 0 n)) → test n ≡ true
    → with_node g marks n ≡ fold (with_node g) before (filter test (range_with_len 0 (n + 1)))
marked_more g test before marks n is passed =
    let front : List ℕ = filter test (range_with_len 0 n) in
    ap (λ l. with_node g l n) is
    ∙ sym (fold-append (with_node g) before front (n ∷ []))
    ∙ ap (λ b. fold (with_node g) before (front ++ cond b (n ∷ []) [])) (sym passed)
    ∙ ap (fold (with_node g) before) (sym (filter_more test n))

pub marked_same : (g : Shape) (test : ℕ → Bool) (before marks : List Bool) (n : ℕ) → marks ≡ fold (with_node g) before (filter test (range_with_len 0 n)) → test n ≡ false
    → marks ≡ fold (with_node g) before (filter test (range_with_len 0 (n + 1)))
marked_same g test before marks n is failed =
    let front : List ℕ = filter test (range_with_len 0 n) in
    is
    ∙ ap (fold (with_node g) before) (sym (append-nil front))
    ∙ ap (λ b. fold (with_node g) before (front ++ cond b (n ∷ []) [])) (sym failed)
    ∙ ap (fold (with_node g) before) (sym (filter_more test n))
