-- The layers of which a digit has a value.
use Rattle.std.proofs.Common.{◌≡◌, ℕ, suc, subst, ◌+◌, ◌-◌, ◌*◌, ◌/◌, ◌%◌, ◌^◌, ◌<◌, eqb, length, get_or, sym, ap, ◌∙◌, arith}
use Rattle.std.proofs.lemmas.Nat.{pow-add, mod_below, div_below}
use Rattle.std.proofs.Math.Nat.{mul_comm, pow-suc, one-le-pow}
use Rattle.clay_grid.specs.Shape.{Shape, row_count, column_count, node_count, layer_count, node_of_chunk}
use Rattle.clay_grid.specs.Layers.{layer_of}
use Rattle.clay_grid.specs.Repair.{layers_with_digit, repair_layers_of}
use Rattle.clay_grid.specs.Score.{count_below}
use Rattle.clay_grid.proofs.Counting.{count_below_same, count_below_digit}
use Rattle.clay_grid.proofs.Rising.{length-filter_range}
use Rattle.clay_grid.proofs.LayerLaws.{get_or-digits_of}

pub length-layers_with_digit : (g : Shape) (y x : ℕ) → y < column_count g → x < row_count g → length (layers_with_digit g y x) * row_count g ≡ layer_count g
length-layers_with_digit g y x hy hx =
    let q : ℕ = row_count g in
    let t : ℕ = column_count g in
    let s : ℕ = q ^ (t - 1 - y) in
    let split : y + suc (t - 1 - y) ≡ t = omega arith in
    let layers : q ^ t ≡ q ^ y * (q * s) =
    ap (λ e. q ^ e) (sym split) ∙ pow-add q y (suc (t - 1 - y)) ∙ ap (λ n. q ^ y * n) (pow-suc q (t - 1 - y) ∙ mul_comm s q) in
    let counted : length (layers_with_digit g y x) ≡ q ^ y * s =
    length-filter_range (λ z. eqb (get_or (layer_of g z) y 0) x) (layer_count g)
    ∙ count_below_same (layer_count g) _ (λ z. eqb (z / s % q) x) (λ z h. ap (λ d. eqb d x) (get_or-digits_of q t z y hy))
    ∙ ap (λ n. count_below n (λ z. eqb (z / s % q) x)) layers
    ∙ count_below_digit q s x (q ^ y) (one-le-pow (t - 1 - y) q (omega arith)) hx in
    let regroup : q ^ y * s * q ≡ q ^ y * (q * s) = omega arith in
    ap (λ n. n * q) counted ∙ regroup ∙ sym layers

pub length-repair_layers_of : (g : Shape) (chunk : ℕ) → 0 < row_count g → node_of_chunk g chunk < node_count g → length (repair_layers_of g chunk) * row_count g ≡ layer_count g
length-repair_layers_of g chunk rows in_grid =
    let turned : node_of_chunk g chunk < column_count g * row_count g = subst (λ n. node_of_chunk g chunk < n) (mul_comm (row_count g) (column_count g)) in_grid in
    length-layers_with_digit g (node_of_chunk g chunk / row_count g) (node_of_chunk g chunk % row_count g)
    (div_below (node_of_chunk g chunk) (row_count g) (column_count g) rows turned)
    (mod_below (node_of_chunk g chunk) (row_count g) rows)
