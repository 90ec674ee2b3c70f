use Rattle.std.proofs.Common.{◌≡◌, ℕ, suc, ◌+◌, ◌-◌, ◌*◌, ◌<◌, Bool, true, false, List, length, get_or, take, drop, sym, subst, ap, ◌∙◌, arith, bit_xor}
use Rattle.std.proofs.lemmas.Bool.{cond-true, cond-false}
use lib.Bits.{xor_zero_r}
use Rattle.clay_field.specs.Field.{product, power_of}
use Rattle.clay_field.proofs.FieldLaws.{product_zero}
use Rattle.clay_model.specs.Sums.{weighted_sum, present_value}
use Rattle.clay_model.specs.Points.{byte_of}
use Rattle.clay_scalar.proofs.Parts.{part_byte, length_of_part}
use Rattle.clay_scalar.proofs.layer_sums.syndromes.Goals as goal
use Rattle.clay_scalar.proofs.layer_sums.syndromes.Goals.{then-not-missing, else-not-missing}

one_more : (i : ℕ) → suc i ≡ i + 1
one_more i = omega arith

with_node : (values : List ℕ) (erased : List Bool) (i w b j : ℕ) → get_or erased i false ≡ false
    → bit_xor (weighted_sum i (present_value values erased w b) j) (product (power_of i j) (byte_of values w b i)) ≡ weighted_sum (i + 1) (present_value values erased w b) j
with_node values erased i w b j here =
    ap (λ v. bit_xor (weighted_sum i (present_value values erased w b) j) (product (power_of i j) v)) (sym (cond-false (get_or erased i false) 0 (byte_of values w b i) here))
    ∙ ap (λ n. weighted_sum n (present_value values erased w b) j) (one_more i)

without_node : (values : List ℕ) (erased : List Bool) (i w b j : ℕ) → get_or erased i false ≡ true
    → weighted_sum i (present_value values erased w b) j ≡ weighted_sum (i + 1) (present_value values erased w b) j
without_node values erased i w b j gone =
    sym (xor_zero_r (weighted_sum i (present_value values erased w b) j))
    ∙ ap (bit_xor (weighted_sum i (present_value values erased w b) j)) (sym (ap (product (power_of i j)) (cond-true (get_or erased i false) 0 (byte_of values w b i) gone) ∙ product_zero (power_of i j)))
    ∙ ap (λ n. weighted_sum n (present_value values erased w b) j) (one_more i)

-- the sums after the values of one node were added, where the part of the node has w bytes
after_node : (values before sums : List ℕ) (erased : List Bool) (i w width b j : ℕ) → width ≡ w → b < w → get_or erased i false ≡ false
    → byte_of before w b j ≡ weighted_sum i (present_value values erased w b) j
    → (b < width → byte_of sums width b j ≡ bit_xor (byte_of before width b j) (product (power_of i j) (get_or (take ((i + 1) * w - i * w) (drop (i * w) values)) b 0)))
    → byte_of sums w b j ≡ weighted_sum (i + 1) (present_value values erased w b) j
after_node values before sums erased i w width b j width_is h here known added =
    let step = subst (λ v. b < v → byte_of sums v b j ≡ bit_xor (byte_of before v b j) (product (power_of i j) (get_or (take ((i + 1) * w - i * w) (drop (i * w) values)) b 0))) width_is added in
    step h
    ∙ (λ k. bit_xor (known k) (product (power_of i j) (part_byte values i w b h k)))
    ∙ with_node values erased i w b j here

pub loop-node-preserved : goal.loop-node-preserved
loop-node-preserved c = λ j b hj hb.
    let values : List ℕ = c.args.values.now in
    let erased : List Bool = c.args.erased.now in
    let i : ℕ = c.loop-node.node in
    let w : ℕ = c.w-w.result in
    elim c.if-not-missing.branch [
      | then-not-missing t ↦
          (λ k. byte_of (t.out-is k) w b j)
          ∙ after_node values c.loop-node.out t.add_values.new.sums erased i w (length (take ((i + 1) * w - i * w) (drop (i * w) values))) b j
          (length_of_part values i w (length erased) c.loop-node-test.true (c.requires.values_len ∙ sym (λ k. c.requires.nodes k * c.w-w.ensures.value k))) hb t.if-not-missing.true (c.loop-node.invariant j b hj hb) (t.add_values.ensures j b hj)
      | else-not-missing t ↦
          (λ k. byte_of (t.out-is k) w b j) ∙ c.loop-node.invariant j b hj hb
          ∙ without_node values erased i w b j t.if-not-missing.false
    ]
