-- The rows of four unknown nodes in column form, for each codeword that fits what is there.
use Rattle.std.proofs.Common.{◌≡◌, ℕ, ◌+◌, ◌*◌, ◌^◌, ◌<◌, ◌≤◌, Bool, true, false, List, length, get_or, replicate, inl, inr, subst, sym, ap, ◌∙◌, arith}
use Rattle.std.proofs.lemmas.Bool.{cases_eq, cond-true, cond-false}
use Rattle.std.proofs.lemmas.List.{get_or-replicate}
use borrow.Rule.Slice.PartMut.{put_mid}
use Rattle.clay_field.specs.Field.{product}
use Rattle.clay_grid.specs.Shape.{Shape, node_count}
use Rattle.clay_model.specs.Sums.{sum_below}
use Rattle.clay_model.specs.Erased.{present}
use Rattle.code_laws.proofs.Pieces.{put_mid_before, put_mid_within, place_below}
use Rattle.code_laws.specs.Solved.{uncoupled_byte}
use Rattle.generator_matrix.specs.Generated.{IsGeneratorOf}
use Rattle.generator_matrix.specs.declared.column.ColumnFactors.{ColumnFactors}
use Rattle.generator_matrix.specs.Columns.{IsColumn, AreColumns, AddsColumn, IsColumnForm, EndsColumn}
use Rattle.lane_repair.specs.Pieces.{IsUncoupled, IsPresent, HoldsColumn}
use Rattle.generator_matrix.proofs.ColumnLaws.{known_sum, column_begun, column_more, column_skipped, column_ended}
use Rattle.lane_repair.proofs.RowLemmas.{HoldsSums}

-- ---- the values of a column

pub present_there : (g : Shape) (fits : List (List ℕ) → Type 0) (at len : ℕ) (erased : List Bool) (i n : ℕ) (piece : List ℕ) → get_or erased i false ≡ false
    → IsUncoupled g fits at len i n piece → IsPresent g fits at len erased i n piece
present_there g fits at len erased i n piece here value = record {
  bytes = λ word fit b h. value.bytes word fit b h ∙ sym (cond-false (get_or erased i false) 0 (uncoupled_byte g word (at + b) i n) here);
}

pub present_gone : (g : Shape) (fits : List (List ℕ) → Type 0) (at len : ℕ) (erased : List Bool) (i n : ℕ) (piece : List ℕ) → get_or erased i false ≡ true
    → piece ≡ replicate len 0 → IsPresent g fits at len erased i n piece
present_gone g fits at len erased i n piece gone empty = record {
  bytes = λ word fit b h.
      ap (λ l. get_or l b 0) empty
      ∙ get_or-replicate len b 0 0 h
      ∙ sym (cond-true (get_or erased i false) 0 (uncoupled_byte g word (at + b) i n) gone);
}

pub no_values : (g : Shape) (fits : List (List ℕ) → Type 0) (at len : ℕ) (erased : List Bool) (y n : ℕ) (values : List ℕ) → HoldsColumn g fits at len erased y n 0 values
no_values g fits at len erased y n values = record { bytes = λ word fit x b hx hb. absurd (omega arith) }

pub one_more_value : (g : Shape) (fits : List (List ℕ) → Type 0) (at len : ℕ) (erased : List Bool) (y n x k : ℕ) (values out : List ℕ) → x * len ≤ length values → length out ≡ len
    → HoldsColumn g fits at len erased y n x values → IsPresent g fits at len erased (y * 4 + x) n out
    → HoldsColumn g fits at len erased y n (x + 1) (put_mid (x * len) k values out)
one_more_value g fits at len erased y n x k values out room long holds new = record {
  bytes = λ word fit v b hv hb. elim (cases_eq v x) [
    | inl same ↦
        ap (λ e. get_or (put_mid (x * len) k values out) (e * len + b) 0) same
        ∙ put_mid_within (x * len) k values out b room (subst (λ l. b < l) (sym long) hb)
        ∙ new.bytes word fit b hb
        ∙ ap (λ e. present erased (λ i. uncoupled_byte g word (at + b) i n) (y * 4 + e)) (sym same)
    | inr other ↦
        let below : v < x = omega (arith, other) in
        put_mid_before (x * len) k values out (v * len + b) room (place_below v x len b below hb) ∙ holds.bytes word fit v b below hb
  ];
}

-- ---- the rows

-- the rows in column form that the nodes below count have made
pub record HoldsForm (g : Shape) (fits : List (List ℕ) → Type 0) (at len : ℕ) (erased : List Bool) (factors : List ℕ) (n count : ℕ) (rows : List ℕ) : Type 0 where
  pub form : (word : List (List ℕ)) → fits word → IsColumnForm len (known_sum factors (λ i b. present erased (λ i. uncoupled_byte g word (at + b) i n) i) count) rows

module _ (g : Shape) (fits : List (List ℕ) → Type 0) (at len : ℕ) (erased : List Bool) (factors : List ℕ) (n : ℕ) where
  pub form_begun : (rows : List ℕ) → length rows ≡ 4 * len → rows ≡ replicate (length rows) 0 → HoldsForm g fits at len erased factors n 0 rows
  form_begun rows long empty = record {
    form = λ word fit. column_begun len factors (λ i b. present erased (λ i. uncoupled_byte g word (at + b) i n) i) rows long empty;
  }

  pub form_more : (y : ℕ) (f : ColumnFactors) (values before after : List ℕ) → IsColumn factors y f → HoldsColumn g fits at len erased y n 4 values → ((p : ℕ) → get_or values p 0 < 2 ^ 8)
      → AddsColumn len f values before after → HoldsForm g fits at len erased factors n (y * 4) before → HoldsForm g fits at len erased factors n ((y + 1) * 4) after
  form_more y f values before after column held bytes adds holds = record {
    form = λ word fit.
        column_more len factors (λ i b. present erased (λ i. uncoupled_byte g word (at + b) i n) i) y f values before after column (held.bytes word fit) bytes adds (holds.form word fit);
  }

  -- a column of which all nodes are erased
  pub form_skipped : (y : ℕ) (rows : List ℕ) → ((x : ℕ) → x < 4 → get_or erased (y * 4 + x) false ≡ true)
      → HoldsForm g fits at len erased factors n (y * 4) rows → HoldsForm g fits at len erased factors n ((y + 1) * 4) rows
  form_skipped y rows gone holds = record {
    form = λ word fit.
        column_skipped len factors (λ i b. present erased (λ i. uncoupled_byte g word (at + b) i n) i) y rows
        (λ x b hx. cond-true (get_or erased (y * 4 + x) false) 0 (uncoupled_byte g word (at + b) (y * 4 + x) n) (gone x hx)) (holds.form word fit);
  }

  pub form_ended : (points : List ℕ) (count all : ℕ) (before after : List ℕ) → 4 ≡ length points → count ≡ all → HoldsForm g fits at len erased factors n count before → EndsColumn len before after
      → HoldsSums g fits at len erased points factors n all after
  form_ended points count all before after four whole holds ends = record {
    bytes = λ word fit e b he hb.
        let value : ℕ → ℕ → ℕ = λ i b. present erased (λ i. uncoupled_byte g word (at + b) i n) i in
        column_ended len factors value count before after (holds.form word fit) ends e b (subst (λ c. e < c) (sym four) he) hb
        ∙ ap (λ c. known_sum factors value c e b) whole
        ∙ ap (λ m. sum_below all (λ i. product (get_or factors (i * m + e) 0) (value i b))) four;
  }

-- all nodes in columns of four
pub record FitsColumns (points : List ℕ) (nodes count : ℕ) : Type 0 where
  pub four : 4 ≡ length points
  pub nodes_are : nodes ≡ count * 4

pub fit_columns : (g : Shape) (points : List ℕ) (m : ℕ) (factors : List ℕ) (columns : List ColumnFactors) → AreColumns m factors columns → 0 < length columns → IsGeneratorOf g points m factors
    → FitsColumns points (node_count g) (length columns)
fit_columns g points m factors columns are some gen =
    let four : 4 ≡ length points = sym (are.four some) ∙ gen.count in
    let places : node_count g * 4 ≡ length columns * 16 = ap (λ p. node_count g * p) four ∙ sym gen.long ∙ are.long some in
    record { four = four; nodes_are = omega arith }
