-- No more of a chunk is read than a repair reads.
use Rattle.std.proofs.Common.{◌≡◌, ◌≢◌, ℕ, zero, suc, ◌+◌, ◌*◌, ◌/◌, ◌%◌, ◌^◌, ◌<◌, ◌≤◌, Bool, true, false, cond, not, ◌&&◌, ◌||◌, eqb, length, get_or, refl, sym, ap, ◌∙◌, inl, inr, arith}
use Rattle.std.proofs.lemmas.Bool.{cases_eq, cases_lt, cases_Bool, eq-eqb, ne_eqb, eqb-true, true≢false, cond-true, cond-false, and_parts, or_cases, or_left, or_right, not-true}
use Rattle.std.proofs.lemmas.List.{get_or-set_other}
use Rattle.std.proofs.Math.Nat.{pow-le-pow_right, pow-suc, pow-zero}
use Rattle.clay_grid.specs.Shape.{Shape, chunk_count, row_count, column_count, node_count, layer_count, node_of_chunk}
use Rattle.clay_grid.specs.Layers.{layer_of}
use Rattle.clay_grid.specs.Limits.{IsGeometry}
use Rattle.clay_grid.specs.Repair.{repair_layers_of}
use Rattle.clay_grid.specs.Score.{count_below}
use Rattle.clay_grid.proofs.Counting.{count_below_same, count_below_false}
use Rattle.clay_grid.proofs.Rising.{length-filter_range}
use Rattle.clay_grid.proofs.RepairLaws.{length-repair_layers_of}
use Rattle.clay_model.proofs.SumLaws.{one_if}
use Rattle.code_laws.proofs.Column.{node_inside}
use Rattle.code_laws.proofs.Pieces.{piece_fits}
use Rattle.lost_layers.specs.LostLayers.{IsLostRun, is_wanted, layer_with, partner_node, partner_layer, lost_node, lost_column, is_unpaired, is_solved, is_unknown}
use Rattle.lost_layers.specs.LostPieces.{is_made, is_piece, lost_layers_of}
use Rattle.lost_layers.specs.declared.run.LostRun.{LostRun}
use Rattle.lost_layers.proofs.PieceLaws.{some_rows, digit_below, layer_of-layer_with, layer_with-own, layer_with-twice, column_of, partner_column, partner_row, count_below_pairs, count_below_at_most}
use Rattle.lost_layers.proofs.Determining.{wanted_between}
use Rattle.std.proofs.lemmas.Nat.{mod_below}

-- ---- counts

count_below_more : (n : ℕ) (a b : ℕ → Bool) → ((i : ℕ) → i < n → a i ≡ true → b i ≡ true) → count_below n a ≤ count_below n b
count_below_more zero a b each = omega arith
count_below_more (suc n) a b each =
    let rest = count_below_more n a b (λ i h. each i (omega arith)) in
    elim (cases_Bool (a n)) [
      | inl passes ↦
          let here : one_if (a n) ≡ 1 = ap one_if passes in
          let there : one_if (b n) ≡ 1 = ap one_if (each n (omega arith) passes) in
          omega (arith, rest, here, there)
      | inr fails ↦ let here : one_if (a n) ≡ 0 = ap one_if fails in omega (arith, rest, here)
    ]

-- n is one of f's first k values
abbrev pub image : ℕ → (ℕ → ℕ) → ℕ → Bool
image zero f n = false
image (suc k) f n = image k f n || eqb (f k) n

one_or_both : (a b : Bool) → cond (a || b) 1 0 + cond false 1 0 ≤ cond a 1 0 + cond b 1 0
one_or_both true true = omega arith
one_or_both true false = omega arith
one_or_both false true = omega arith
one_or_both false false = omega arith

image_count : (k n : ℕ) (f : ℕ → ℕ) → count_below n (image k f) ≤ k
image_count zero n f =
    let same : count_below n (image zero f) ≡ 0 = count_below_same n (image zero f) (λ i. false) (λ i h. refl) ∙ count_below_false n in
    omega (arith, same)
image_count (suc k) n f =
    let rest = image_count k n f in
    let both = count_below_pairs n (image (suc k) f) (λ i. false) (image k f) (λ i. eqb (f k) i) (λ i h. one_or_both (image k f i) (eqb (f k) i)) in
    let none : count_below n (λ i. false) ≡ 0 = count_below_false n in
    let last = count_below_at_most n (f k) in
    omega (arith, rest, both, none, last)

image_has : (k : ℕ) (f : ℕ → ℕ) (n x : ℕ) → x < k → f x ≡ n → image k f n ≡ true
image_has zero f n x h is = absurd (omega arith)
image_has (suc k) f n x h is =
    elim (cases_eq x k) [
      | inl same ↦ or_right (image k f n) (eqb (f k) n) (eq-eqb (f k) n (ap f (sym same) ∙ is))
      | inr other ↦ or_left (image k f n) (eqb (f k) n) (image_has k f n x (omega (arith, other)) is)
    ]

-- ---- which layers are read

-- the ways in which a subchunk is read
record IsReadBy (g : Shape) (run : LostRun) (i n : ℕ) (P : Type 0) : Type 0 where
  by_own : is_made g run i n ≡ true → P
  by_partner : is_made g run (partner_node g i n) (partner_layer g i n) ≡ true → P
  by_lost : partner_node g i n ≡ lost_node g run → is_wanted run (partner_layer g i n) ≡ true → P

read_by : (g : Shape) (run : LostRun) (i n : ℕ) (P : Type 0) → IsReadBy g run i n P → is_piece g run i n ≡ true → P
read_by g run i n P ways read =
    let made : Bool = is_made g run i n in
    let partner : Bool = is_made g run (partner_node g i n) (partner_layer g i n) in
    let lost : Bool = eqb (partner_node g i n) (lost_node g run) && is_wanted run (partner_layer g i n) in
    elim (or_cases (made || partner) lost (and_parts (not (eqb i (lost_node g run))) (made || partner || lost) read).1) [
      | inl either ↦ elim (or_cases made partner either) [ inl own ↦ ways.by_own own | inr other ↦ ways.by_partner other ]
      | inr wanted ↦
          let both = and_parts (eqb (partner_node g i n) (lost_node g run)) (is_wanted run (partner_layer g i n)) wanted in
          ways.by_lost (eqb-true (partner_node g i n) (lost_node g run) both.0) both.1
    ]

-- where the lost node is unpaired in each solved layer, it is so in each layer that is read
module _ (g : Shape) (run : LostRun) (rows : 0 < row_count g) (solved : (n : ℕ) → is_solved g run n ≡ true → is_unpaired g run n ≡ true) where
  made_unpaired : (i n : ℕ) → is_made g run i n ≡ true → is_unpaired g run n ≡ true
  made_unpaired i n made = solved n (and_parts (is_solved g run n) (not (is_unknown g run n i)) made).0

  made_outside : (i n : ℕ) → is_made g run i n ≡ true → lost_column g run ≢ i / row_count g
  made_outside i n made same =
      let known : is_unknown g run n i ≡ false = not-true (is_unknown g run n i) (and_parts (is_solved g run n) (not (is_unknown g run n i)) made).1 in
      true≢false (sym (cond-true (is_unpaired g run n) (eqb (i / row_count g) (lost_column g run)) _ (made_unpaired i n made) ∙ eq-eqb (i / row_count g) (lost_column g run) (sym same)) ∙ known)

  pub read_unpaired : (i n : ℕ) → i < node_count g → is_piece g run i n ≡ true → is_unpaired g run n ≡ true
  read_unpaired i n h = read_by g run i n (is_unpaired g run n ≡ true) (record {
    by_own = made_unpaired i n;
    by_partner = λ made.
        let apart : lost_column g run ≢ i / row_count g = λ e. made_outside (partner_node g i n) (partner_layer g i n) made (e ∙ sym (partner_column g rows i n h)) in
        let digit : get_or (layer_of g (partner_layer g i n)) (lost_column g run) 0 ≡ get_or (layer_of g n) (lost_column g run) 0 =
        ap (λ l. get_or l (lost_column g run) 0) (layer_of-layer_with g rows n (i / row_count g) (i % row_count g) (column_of g rows i h) (mod_below i (row_count g) rows))
        ∙ get_or-set_other (layer_of g n) (i / row_count g) (lost_column g run) (i % row_count g) 0 apart in
        ap (λ d. eqb d (lost_node g run % row_count g)) (sym digit) ∙ made_unpaired (partner_node g i n) (partner_layer g i n) made;
    by_lost = λ same wanted.
        let column : i / row_count g ≡ lost_column g run = sym (partner_column g rows i n h) ∙ ap (λ j. j / row_count g) same in
        eq-eqb (get_or (layer_of g n) (lost_column g run) 0) (lost_node g run % row_count g)
        (ap (λ y. get_or (layer_of g n) y 0) (sym column) ∙ sym (partner_row g rows i n h) ∙ ap (λ j. j % row_count g) same);
  })

pub many_unpaired : (g : Shape) (run : LostRun) → run.to ≢ suc run.from → (n : ℕ) → is_solved g run n ≡ true → is_unpaired g run n ≡ true
many_unpaired g run many n solved =
    (and_parts (is_unpaired g run n) _ (sym (cond-false (eqb run.to (suc run.from)) (eqb n run.from) _ (ne_eqb run.to (suc run.from) many)) ∙ solved)).0

pub lone_layer : (g : Shape) (run : LostRun) → run.to ≡ suc run.from → (n : ℕ) → is_solved g run n ≡ true → n ≡ run.from
lone_layer g run lone n solved = eqb-true n run.from (sym (cond-true (eqb run.to (suc run.from)) (eqb n run.from) _ (eq-eqb run.to (suc run.from) lone)) ∙ solved)

-- what is read for one layer differs from it at most in the digit of its node's column
lone_read : (g : Shape) (run : LostRun) (i n : ℕ) → 0 < row_count g → i < node_count g → n < layer_count g → run.to ≡ suc run.from → is_piece g run i n ≡ true
    → image (row_count g) (layer_with g run.from (i / row_count g)) n ≡ true
lone_read g run i n rows h below lone =
    let y : ℕ = i / row_count g in
    let x : ℕ = get_or (layer_of g n) y 0 in
    let small : x < row_count g = digit_below g rows n y (column_of g rows i h) in
    let back : layer_with g (partner_layer g i n) y x ≡ n =
    layer_with-twice g rows n y (i % row_count g) x (column_of g rows i h) (mod_below i (row_count g) rows) ∙ layer_with-own g rows n y x below refl in
    let found : partner_layer g i n ≡ run.from → image (row_count g) (layer_with g run.from y) n ≡ true =
    λ same. image_has (row_count g) (layer_with g run.from y) n x small (ap (λ v. layer_with g v y x) (sym same) ∙ back) in
    read_by g run i n (image (row_count g) (layer_with g run.from y) n ≡ true) (record {
      by_own = λ made.
          let same : n ≡ run.from = lone_layer g run lone n (and_parts (is_solved g run n) (not (is_unknown g run n i)) made).0 in
          image_has (row_count g) (layer_with g run.from y) n x small (ap (λ v. layer_with g v y x) (sym same) ∙ layer_with-own g rows n y x below refl);
      by_partner = λ made.
          found (lone_layer g run lone (partner_layer g i n) (and_parts (is_solved g run (partner_layer g i n)) (not (is_unknown g run (partner_layer g i n) (partner_node g i n))) made).0);
      by_lost = λ same wanted. let between = wanted_between run (partner_layer g i n) wanted in found (omega (arith, lone, between.0, between.1));
    })

-- ---- no more than a repair

some_layers : (g : Shape) (chunk : ℕ) → IsGeometry g → chunk < chunk_count g → row_count g ≤ length (repair_layers_of g chunk)
some_layers g chunk geometry h =
    let q : ℕ = row_count g in
    let count : ℕ = length (repair_layers_of g chunk) in
    let rows : 0 < q = some_rows g geometry in
    let whole : count * q ≡ q ^ column_count g = length-repair_layers_of g chunk rows (node_inside g chunk geometry h) in
    let power : q ^ 2 ≤ q ^ column_count g = pow-le-pow_right rows geometry.columns.0 in
    let one : q ^ 1 ≡ q = pow-suc q 0 ∙ (let p : q ^ 0 ≡ 1 = pow-zero q in ap (λ v. v * q) p) ∙ once q in
    let square : q ^ 2 ≡ q * q = pow-suc q 1 ∙ ap (λ v. v * q) one in
    elim (cases_lt count q) [
      | inl less ↦ let fits : count * q + q ≤ q * q = piece_fits count q q less in absurd (omega (arith, fits, whole, power, square, rows))
      | inr more ↦ more
    ]
  where
    once : (n : ℕ) → 1 * n ≡ n
    once n = omega arith

pub within_repair : (g : Shape) (run : LostRun) (c : ℕ) → IsGeometry g → IsLostRun g run → c < chunk_count g → length (lost_layers_of g run c) ≤ length (repair_layers_of g run.lost)
within_repair g run c geometry fits h =
    let rows : 0 < row_count g = some_rows g geometry in
    let i : ℕ = node_of_chunk g c in
    let inside : i < node_count g = node_inside g c geometry h in
    let counted : length (lost_layers_of g run c) ≡ count_below (layer_count g) (is_piece g run i) = length-filter_range (is_piece g run i) (layer_count g) in
    let repaired : length (repair_layers_of g run.lost) ≡ count_below (layer_count g) (is_unpaired g run) = length-filter_range (is_unpaired g run) (layer_count g) in
    let few : ((n : ℕ) → is_solved g run n ≡ true → is_unpaired g run n ≡ true) → length (lost_layers_of g run c) ≤ length (repair_layers_of g run.lost) =
    λ solved.
    let less = count_below_more (layer_count g) (is_piece g run i) (is_unpaired g run) (λ n l read. read_unpaired g run rows solved i n inside read) in
    omega (arith, counted, repaired, less) in
    elim (cases_eq run.to (suc run.from)) [
      | inr many ↦ few (many_unpaired g run many)
      | inl lone ↦ elim (cases_Bool (is_unpaired g run run.from)) [
        | inl alone ↦ few (λ n solved. ap (is_unpaired g run) (lone_layer g run lone n solved) ∙ alone)
        | inr paired ↦
            let less = count_below_more (layer_count g) (is_piece g run i) (image (row_count g) (layer_with g run.from (i / row_count g))) (λ n l read. lone_read g run i n rows inside l lone read) in
            let most = image_count (row_count g) (layer_count g) (layer_with g run.from (i / row_count g)) in
            let room = some_layers g run.lost geometry fits.chunk in
            omega (arith, counted, less, most, room)
      ]
    ]

pub none_of_lost : (g : Shape) (run : LostRun) → length (lost_layers_of g run run.lost) ≡ 0
none_of_lost g run =
    length-filter_range (is_piece g run (lost_node g run)) (layer_count g)
    ∙ count_below_same (layer_count g) (is_piece g run (lost_node g run)) (λ n. false)
    (λ n h. ap (λ b. not b && (is_made g run (lost_node g run) n || is_made g run (partner_node g (lost_node g run) n) (partner_layer g (lost_node g run) n) || (eqb (partner_node g (lost_node g run) n) (lost_node g run) && is_wanted run (partner_layer g (lost_node g run) n)))) (eq-eqb (lost_node g run) (lost_node g run) refl))
    ∙ count_below_false (layer_count g)
