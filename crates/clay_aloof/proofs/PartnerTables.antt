-- The tables of partners: one entry more, and what the entries make up.
use Rattle.std.proofs.Common.{◌≡◌, ℕ, ◌+◌, ◌-◌, ◌*◌, ◌/◌, ◌%◌, ◌<◌, List, [], ◌∷◌, ◌++◌, length, get_or, Vec, Global, refl, sym, subst, ap, ◌∙◌, inl, inr, arith}
use Rattle.std.proofs.lemmas.Bool.{cases_eq}
use Rattle.std.proofs.lemmas.Nat.{mod_below}
use Rattle.std.proofs.lemmas.List.{length_push, get_or_push, get_or_append_left}
use Rattle.clay_grid.specs.Shape.{Shape, row_count, column_count, node_count, layer_count}
use Rattle.clay_grid.specs.Layers.{layer_of, vertex_at, partner_of}
use Rattle.clay_grid.proofs.LayerLaws.{get_or-digits_of, partner_vertex, partner_below, IsLayer-digits_of}
use Rattle.clay_model.proofs.Unique.{row_of, node_below}
use Rattle.clay_model.specs.Partners.{ArePartners}
use Rattle.clay_aloof.specs.Partners.{stride_of, IsPlace, IsDigit, HoldsPlaces, HoldsDigits, HoldsColumns, HasTables}
use Rattle.clay_aloof.specs.declared.partner_tables.NodePlace.{NodePlace}
use Rattle.clay_aloof.specs.declared.partner_tables.Digit.{Digit}
use Rattle.clay_aloof.proofs.Layer.{some_rows}

-- an entry more of a list of which each has a property
entry_more : {X : Type 0} (P : ℕ → X → Type 0) (xs : List X) (new : X) (n : ℕ) → length xs ≡ n → ((i : ℕ) (default : X) → i < n → P i (get_or xs i default)) → P n new
    → (i : ℕ) (default : X) → i < n + 1 → P i (get_or (xs ++ new ∷ []) i default)
entry_more P xs new n long each here i default h =
    elim (cases_eq i n) [
      | inl same ↦ subst (P i) (sym (get_or_push xs new default i (long ∙ sym same))) (subst (λ j. P j new) (sym same) here)
      | inr other ↦
          let below : i < n = omega (arith, h, other) in
          subst (P i) (sym (get_or_append_left xs (new ∷ []) default i (subst (λ l. i < l) (sym long) below))) (each i default below)
    ]

pub places_more : (g : Shape) (places : List NodePlace) (new : NodePlace) (n : ℕ) → HoldsPlaces g n places → IsPlace g n new → HoldsPlaces g (n + 1) (places ++ new ∷ [])
places_more g places new n before here = record {
  long = length_push places new ∙ ap (λ l. l + 1) before.long;
  each = entry_more (IsPlace g) places new n before.long before.each here;
}

pub digits_more : (g : Shape) (y : ℕ) (digits : List Digit) (new : Digit) (n : ℕ) → HoldsDigits g y n digits → IsDigit g y n new → HoldsDigits g y (n + 1) (digits ++ new ∷ [])
digits_more g y digits new n before here = record {
  long = length_push digits new ∙ ap (λ l. l + 1) before.long;
  each = entry_more (IsDigit g y) digits new n before.long before.each here;
}

pub columns_more : (g : Shape) (columns : List (Vec Digit Global)) (new : Vec Digit Global) (n : ℕ) → HoldsColumns g n columns → HoldsDigits g n (layer_count g) new.items
    → HoldsColumns g (n + 1) (columns ++ new ∷ [])
columns_more g columns new n before here = record {
  long = length_push columns new ∙ ap (λ l. l + 1) before.long;
  each = entry_more (λ y (v : Vec Digit Global). HoldsDigits g y (layer_count g) v.items) columns new n before.long before.each here;
}

-- the place and the digit that are read
pub record AreRead (g : Shape) (i n : ℕ) (place : NodePlace) (digit : Digit) : Type 0 where
  pub of_node : IsPlace g i place
  pub of_layer : IsDigit g (i / row_count g) n digit

pub are_read : (g : Shape) (places : List NodePlace) (columns : List (Vec Digit Global)) (i n : ℕ) (place : NodePlace) (column : Vec Digit Global) (digit : Digit) → HasTables g places columns
    → i < node_count g → n < layer_count g → place ≡ get_or places i place → column ≡ get_or columns place.column column → digit ≡ get_or column.items n digit → AreRead g i n place digit
are_read g places columns i n place column digit tables hi hn place_is column_is digit_is =
    let rows : 0 < row_count g = some_rows g tables.geometry in
    let of_node : IsPlace g i place = subst (IsPlace g i) (sym place_is) (tables.of_nodes.each i place hi) in
    let y : i / row_count g < column_count g = row_of (row_count g) (column_count g) i rows hi in
    let here : column ≡ get_or columns (i / row_count g) column = column_is ∙ ap (λ v. get_or columns v column) of_node.column in
    let digits : HoldsDigits g (i / row_count g) (layer_count g) column.items =
    subst (λ (v : Vec Digit Global). HoldsDigits g (i / row_count g) (layer_count g) v.items) (sym here) (tables.of_layers.each (i / row_count g) column y) in
    record { of_node = of_node; of_layer = subst (IsDigit g (i / row_count g) n) (sym digit_is) (digits.each n digit hn) }

-- what a place and a digit make up
module _ (g : Shape) (rows : 0 < row_count g) (i n : ℕ) (hi : i < node_count g) (hn : n < layer_count g) (place : NodePlace) (digit : Digit) (read : AreRead g i n place digit) where
  column : i / row_count g < column_count g
  column = row_of (row_count g) (column_count g) i rows hi

  row : i % row_count g < row_count g
  row = mod_below i (row_count g) rows

  value_is : digit.value ≡ get_or (layer_of g n) (i / row_count g) 0
  value_is = read.of_layer.value ∙ sym (get_or-digits_of (row_count g) (column_count g) n (i / row_count g) column)

  number : digit.rest + place.counts ≡ n - n / stride_of g (i / row_count g) % row_count g * stride_of g (i / row_count g) + i % row_count g * stride_of g (i / row_count g)
  number = λ k. read.of_layer.rest k + read.of_node.counts k

  moved : vertex_at g (n / stride_of g (i / row_count g) % row_count g) (i / row_count g) (digit.rest + place.counts) ≡ partner_of (vertex_at g (i % row_count g) (i / row_count g) n)
  moved =
      ap (vertex_at g (n / stride_of g (i / row_count g) % row_count g) (i / row_count g)) number
      ∙ partner_vertex g (i % row_count g) (i / row_count g) n (stride_of g (i / row_count g)) (n / stride_of g (i / row_count g) % row_count g) rows row column hn refl refl

  pub are_partners : ArePartners g i n (place.first + digit.value) (digit.rest + place.counts)
  are_partners = record {
    rows = rows;
    node = hi;
    node_is = λ k. read.of_node.first k + value_is k;
    layer_is = ap (λ v. v.layer) moved;
  }

  pub partner_inside : place.first + digit.value < node_count g
  partner_inside =
      let digits = IsLayer-digits_of (row_count g) (column_count g) n rows in
      let low : digit.value < row_count g = subst (λ v. v < row_count g) (sym value_is) (digits.digits (i / row_count g) column) in
      subst (λ v. v + digit.value < node_count g) (sym read.of_node.first) (node_below (row_count g) (column_count g) digit.value (i / row_count g) low column)

  pub partner_layer : digit.rest + place.counts < layer_count g
  partner_layer =
      subst (λ v. v < layer_count g) (sym number)
      (partner_below g (i % row_count g) (i / row_count g) n (stride_of g (i / row_count g)) (n / stride_of g (i / row_count g) % row_count g) rows row column hn refl refl)
