-- How many subchunks are read for one layer, where no node is virtual.
use Rattle.std.proofs.Common.{◌≡◌, ℕ, zero, suc, subst, ◌+◌, ◌*◌, ◌/◌, ◌%◌, ◌<◌, ◌≤◌, Bool, true, false, cond, not, ◌||◌, nat_lt, eqb, ltb, length, get_or, flat_map, refl, sym, ap, ◌∙◌, inl, inr, arith}
use Rattle.std.specs.List.{range_with_len}
use Rattle.std.proofs.lemmas.Bool.{cases_eq, cases_lt, eq-eqb, ne_eqb, lt-ltb, le-ltb, cond-true, cond_both}
use Rattle.std.proofs.lemmas.List.{length-map}
use Rattle.std.proofs.Math.Nat.{mul_comm}
use Rattle.std.proofs.lemmas.Nat.{div-mul-add, mod-mul-add}
use Rattle.clay_grid.specs.Shape.{Shape, chunk_count, row_count, column_count, node_count, virtual_count, layer_count, node_of_chunk}
use Rattle.clay_grid.specs.Layers.{layer_of}
use Rattle.clay_grid.specs.Limits.{IsGeometry}
use Rattle.clay_grid.specs.Score.{count_below}
use Rattle.clay_grid.proofs.Counting.{count_below_same, count_below-add}
use Rattle.clay_model.proofs.SumLaws.{one_if}
use Rattle.clay_model.proofs.Unique.{node_below}
use Rattle.code_laws.proofs.Column.{node_inside}
use Rattle.lost_layers.specs.LostLayers.{IsLostRun, unpaired_node, lost_node, lost_column, is_unpaired}
use Rattle.lost_layers.specs.LostPieces.{is_piece, piece_at, lost_layers_of, pieces_of_chunk, lost_pieces_of}
use Rattle.lost_layers.specs.declared.run.LostRun.{LostRun}
use Rattle.lost_layers.proofs.PieceLaws.{some_rows, digit_below, count_below_point}
use Rattle.lost_layers.proofs.PieceSteps.{length-chunk_more, length-lost_layers}
use Rattle.lost_layers.proofs.RepairBounds.{none_of_lost}
use Rattle.lost_layers.proofs.NodeCounts.{is_known, is_known_or_lost, paired_count, unpaired_count}
use Rattle.lost_layers.proofs.KnownNodes.{unpaired_known, known_count, known_or_lost_count}

-- ---- all pieces

abbrev value_if : Bool → ℕ → ℕ
value_if passes n = cond passes n 0

abbrev total : Shape → LostRun → ℕ → ℕ
total g run n = length (flat_map (pieces_of_chunk g run) (range_with_len 0 n))

module _ (g : Shape) (run : LostRun) (geometry : IsGeometry g) (fits : IsLostRun g run) (lone : run.to ≡ suc run.from) (real : virtual_count g ≡ 0) where
  rows_here : 0 < row_count g
  rows_here = some_rows g geometry

  node_here : lost_node g run < node_count g
  node_here = node_inside g run.lost geometry fits.chunk

  total_more : (n : ℕ) → total g run (n + 1) ≡ total g run n + count_below (layer_count g) (is_piece g run n)
  total_more n =
      let own : length (pieces_of_chunk g run n) ≡ count_below (layer_count g) (is_piece g run n) =
      length-map (lost_layers_of g run n) (piece_at n) ∙ length-lost_layers g run n n (sym (node_is n)) in
      length-chunk_more (pieces_of_chunk g run) n ∙ ap (λ v. total g run n + v) own
    where
      node_is : (n : ℕ) → node_of_chunk g n ≡ n
      node_is n = cond_both (nat_lt n g.data_count) n (n + virtual_count g) (λ v. v ≡ n) (λ e. refl) (λ e. omega (arith, real))

  -- what the unpaired node of a column adds
  unpaired_adds : (v : ℕ) → v < column_count g
      → count_below (layer_count g) (is_piece g run (unpaired_node g v run.from)) + 1
      ≡ one_if (is_known g run (unpaired_node g v run.from)) + count_below (row_count g) (λ d. is_known_or_lost g run (v * row_count g + d))
  unpaired_adds v hv =
      let q : ℕ = row_count g in
      let z : ℕ = run.from in
      let d : ℕ = get_or (layer_of g z) v 0 in
      let u : ℕ = unpaired_node g v z in
      let node : ℕ = lost_node g run in
      let small : d < q = digit_below g rows_here z v hv in
      let column : u / q ≡ v = div-mul-add v q d small in
      let row : u % q ≡ d = mod-mul-add v q d small in
      let below : u < node_count g = node_below q (column_count g) d v small hv in
      elim (cases_eq u node) [
        | inl same ↦
            let none : count_below (layer_count g) (is_piece g run u) ≡ 0 =
            ap (λ i. count_below (layer_count g) (is_piece g run i)) same ∙ sym (length-lost_layers g run run.lost node refl) ∙ none_of_lost g run in
            let hidden : (i : ℕ) → i / q ≡ v → is_known g run i ≡ false =
            λ i there.
            let y_is : lost_column g run ≡ v = ap (λ n. n / q) (sym same) ∙ column in
            let alone : is_unpaired g run z ≡ true = eq-eqb (get_or (layer_of g z) (lost_column g run) 0) (node % q) (ap (λ y. get_or (layer_of g z) y 0) y_is ∙ sym row ∙ ap (λ n. n % q) same) in
            ap not (cond-true (is_unpaired g run z) (eqb (i / q) (lost_column g run)) _ alone ∙ eq-eqb (i / q) (lost_column g run) (there ∙ sym y_is)) in
            let own : one_if (is_known g run u) ≡ 0 = ap one_if (hidden u column) in
            let one : count_below q (λ x. is_known_or_lost g run (v * q + x)) ≡ 1 =
            count_below_same q (λ x. is_known_or_lost g run (v * q + x)) (λ x. eqb d x)
            (λ x h. ap (λ b. b || eqb (v * q + x) node) (hidden (v * q + x) (div-mul-add v q x h)) ∙ placed v q d x node same) ∙ count_below_point q d small in
            omega (arith, none, own, one)
        | inr other ↦
            let counted = unpaired_count g run geometry fits lone u below other (ap (λ y. get_or (layer_of g z) y 0) column ∙ sym row) in
            let there : count_below q (λ x. is_known_or_lost g run (u / q * q + x)) ≡ count_below q (λ x. is_known_or_lost g run (v * q + x)) =
            ap (λ y. count_below q (λ x. is_known_or_lost g run (y * q + x))) column in
            let own : one_if (is_known g run u) ≡ 1 = ap one_if (unpaired_known g run geometry fits v hv other) in
            omega (arith, counted, there, own)
      ]
    where
      placed : (v q d x node : ℕ) → v * q + d ≡ node → eqb (v * q + x) node ≡ eqb d x
      placed v q d x node same = elim (cases_eq d x) [
        | inl here ↦ eq-eqb (v * q + x) node (omega (arith, same, here)) ∙ sym (eq-eqb d x here)
        | inr other ↦ ne_eqb (v * q + x) node (λ e. other (omega (arith, same, e))) ∙ sym (ne_eqb d x other)
      ]

  -- the nodes below x of a column
  column_adds : (v x : ℕ) → v < column_count g → x ≤ row_count g
      → total g run (v * row_count g + x) + one_if (ltb (get_or (layer_of g run.from) v 0) x)
      ≡ total g run (v * row_count g) + count_below x (λ i. is_known g run (v * row_count g + i))
      + value_if (ltb (get_or (layer_of g run.from) v 0) x) (count_below (row_count g) (λ d. is_known_or_lost g run (v * row_count g + d)))
  column_adds v zero hv hx =
      let d : ℕ = get_or (layer_of g run.from) v 0 in
      let none : ltb d 0 ≡ false = le-ltb d 0 (omega arith) in
      let at : v * row_count g + 0 ≡ v * row_count g = omega arith in
      let start : total g run (v * row_count g + 0) ≡ total g run (v * row_count g) = ap (total g run) at in
      let no_one : one_if (ltb d 0) ≡ 0 = ap one_if none in
      let no_value : value_if (ltb d 0) (count_below (row_count g) (λ d. is_known_or_lost g run (v * row_count g + d))) ≡ 0 =
      ap (λ b. value_if b (count_below (row_count g) (λ d. is_known_or_lost g run (v * row_count g + d)))) none in
      omega (arith, start, no_one, no_value)
  column_adds v (suc x) hv hx =
      let q : ℕ = row_count g in
      let d : ℕ = get_or (layer_of g run.from) v 0 in
      let i : ℕ = v * q + x in
      let good : ℕ = count_below q (λ d. is_known_or_lost g run (v * q + d)) in
      let less : x < q = omega arith in
      let rest = column_adds v x hv (omega arith) in
      let next : v * q + suc x ≡ i + 1 = omega arith in
      let more : total g run (v * q + suc x) ≡ total g run i + count_below (layer_count g) (is_piece g run i) = ap (total g run) next ∙ total_more i in
      elim (cases_eq d x) [
        | inl same ↦
            let low : ltb d x ≡ false = le-ltb d x (omega (arith, same)) in
            let high : ltb d (suc x) ≡ true = lt-ltb d (suc x) (omega (arith, same)) in
            let adds : count_below (layer_count g) (is_piece g run i) + 1 ≡ one_if (is_known g run i) + good =
            subst (λ y. count_below (layer_count g) (is_piece g run (v * q + y)) + 1 ≡ one_if (is_known g run (v * q + y)) + good) same (unpaired_adds v hv) in
            let rest_is : total g run i + one_if false ≡ total g run (v * q) + count_below x (λ i. is_known g run (v * q + i)) + value_if false good =
            subst (λ b. total g run i + one_if b ≡ total g run (v * q) + count_below x (λ i. is_known g run (v * q + i)) + value_if b good) low rest in
            let yes_one : one_if (ltb d (suc x)) ≡ 1 = ap one_if high in
            let yes_value : value_if (ltb d (suc x)) good ≡ good = ap (λ b. value_if b good) high in
            omega (arith, more, adds, rest_is, yes_one, yes_value)
        | inr other ↦
            let still : ltb d (suc x) ≡ ltb d x = elim (cases_lt d x) [
              | inl below ↦ lt-ltb d (suc x) (omega arith) ∙ sym (lt-ltb d x below)
              | inr above ↦ le-ltb d (suc x) (omega (arith, above, other)) ∙ sym (le-ltb d x above)
            ] in
            let column : i / q ≡ v = div-mul-add v q x less in
            let row : i % q ≡ x = mod-mul-add v q x less in
            let own = paired_count g run geometry fits lone i (node_below q (column_count g) x v less hv)
            (λ e. other (ap (λ y. get_or (layer_of g run.from) y 0) (sym column) ∙ e ∙ row)) in
            let still_one : one_if (ltb d (suc x)) ≡ one_if (ltb d x) = ap one_if still in
            let still_value : value_if (ltb d (suc x)) good ≡ value_if (ltb d x) good = ap (λ b. value_if b good) still in
            omega (arith, more, own, rest, still_one, still_value)
      ]

  columns_add : (k : ℕ) → k ≤ column_count g → total g run (k * row_count g) + k ≡ count_below (k * row_count g) (is_known g run) + count_below (k * row_count g) (is_known_or_lost g run)
  columns_add zero h =
      let none : 0 * row_count g ≡ 0 = omega arith in
      ap (λ n. total g run n + 0) none ∙ sym (ap (λ n. count_below n (is_known g run) + count_below n (is_known_or_lost g run)) none)
  columns_add (suc k) h =
      let q : ℕ = row_count g in
      let rest = columns_add k (omega arith) in
      let next : suc k * q ≡ k * q + q = omega arith in
      let d : ℕ = get_or (layer_of g run.from) k 0 in
      let good : ℕ = count_below q (λ d. is_known_or_lost g run (k * q + d)) in
      let passed : ltb d q ≡ true = lt-ltb d q (digit_below g rows_here run.from k (omega arith)) in
      let whole = column_adds k q (omega arith) (omega arith) in
      let whole_is : total g run (k * q + q) + one_if true ≡ total g run (k * q) + count_below q (λ i. is_known g run (k * q + i)) + value_if true good =
      subst (λ b. total g run (k * q + q) + one_if b ≡ total g run (k * q) + count_below q (λ i. is_known g run (k * q + i)) + value_if b good) passed whole in
      let known = count_below-add (k * q) q (is_known g run) in
      let both = count_below-add (k * q) q (is_known_or_lost g run) in
      let at : total g run (suc k * q) ≡ total g run (k * q + q) = ap (total g run) next in
      let known_at : count_below (suc k * q) (is_known g run) ≡ count_below (k * q + q) (is_known g run) = ap (λ n. count_below n (is_known g run)) next in
      let both_at : count_below (suc k * q) (is_known_or_lost g run) ≡ count_below (k * q + q) (is_known_or_lost g run) = ap (λ n. count_below n (is_known_or_lost g run)) next in
      omega (arith, at, known_at, both_at, rest, whole_is, known, both)

  pub one_layer_count : length (lost_pieces_of g run) + column_count g ≡ 2 * g.data_count + 1
  one_layer_count =
      let q : ℕ = row_count g in
      let t : ℕ = column_count g in
      let few = geometry.chunks in
      let all : t * q ≡ chunk_count g = mul_comm t q ∙ omega (arith, few, real) in
      let summed = columns_add t (omega arith) in
      let nodes : t * q ≡ node_count g = mul_comm t q in
      let known = known_count g run geometry fits in
      let more = known_or_lost_count g run geometry fits in
      let at : total g run (chunk_count g) + t ≡ count_below (node_count g) (is_known g run) + count_below (node_count g) (is_known_or_lost g run) =
      ap (λ n. total g run n + t) (sym all) ∙ summed ∙ ap (λ n. count_below n (is_known g run) + count_below n (is_known_or_lost g run)) nodes in
      omega (arith, at, known, more, all, nodes)
