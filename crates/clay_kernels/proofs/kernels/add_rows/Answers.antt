use Rattle.std.proofs.Common.{◌≡◌, ℕ, ◌+◌, ◌-◌, ◌*◌, ◌<◌, ◌≤◌, length, get_or, take, drop, refl, ap, ◌∙◌, arith, bit_xor}
use Rattle.std.proofs.lemmas.List.{get_or-take, get_or-drop}
use Rattle.std.proofs.lemmas.List.Edits.{length-between}
use Rattle.std.proofs.lemmas.Nat.{mul-le}
use Rattle.std.proofs.lemmas.Grind.{get_or_default_zero}
use Rattle.clay_field.specs.Field.{product}
use Rattle.clay_kernels.proofs.RowLemmas.{RowsDone-more, AddsRows-last}
use Rattle.clay_kernels.proofs.kernels.add_rows.Goals as goal

pub loop-row-preserved : goal.loop-row-preserved
loop-row-preserved c =
    let products = c.args.products.now in
    let src = c.args.src.now in
    let len : ℕ = length src in
    let row = c.loop-row.row in
    let room : row + 4 ≤ length products = omega (arith, c.loop-row-test.true) in
    let long : length c.loop-row.rows ≡ length products * length src = c.loop-row.auto.rows ∙ c.requires in
    let fits : (row + 4) * len ≤ length products * len = mul-le (row + 4) len (length products) len room (omega arith) in
    let part_long : length c.add_four_rows.new.rows ≡ (row + 4) * length src - row * length src =
    c.add_four_rows.auto.rows ∙ length-between c.loop-row.rows (row * len) ((row + 4) * len) (omega (arith, long, fits)) in
    RowsDone-more 4 row (length products) len (λ r. get_or products r 0) (λ b. get_or src b 0) (λ r. get_or (take (row + 4 - row) (drop row products)) r 0) c.args.rows.now c.loop-row.rows c.add_four_rows.new.rows
    room long part_long (λ r h. get_or-take (row + 4 - row) (drop row products) r 0 (omega arith) ∙ get_or-drop row products r 0) c.add_four_rows.ensures c.loop-row.invariant

pub loop-row-2-preserved : goal.loop-row-2-preserved
loop-row-2-preserved c =
    let products = c.args.products.now in
    let src = c.args.src.now in
    let len : ℕ = length src in
    let row = c.loop-row-2.row in
    let room : row + 2 ≤ length products = omega (arith, c.loop-row-2-test.true) in
    let long : length c.loop-row-2.rows ≡ length products * length src = c.loop-row-2.auto.rows ∙ c.loop-row.auto.rows ∙ c.requires in
    let fits : (row + 2) * len ≤ length products * len = mul-le (row + 2) len (length products) len room (omega arith) in
    let part_long : length c.add_two_rows.new.rows ≡ (row + 2) * length src - row * length src =
    c.add_two_rows.auto.rows ∙ length-between c.loop-row-2.rows (row * len) ((row + 2) * len) (omega (arith, long, fits)) in
    RowsDone-more 2 row (length products) len (λ r. get_or products r 0) (λ b. get_or src b 0) (λ r. get_or (take (row + 2 - row) (drop row products)) r 0) c.args.rows.now c.loop-row-2.rows c.add_two_rows.new.rows
    room long part_long (λ r h. get_or-take (row + 2 - row) (drop row products) r 0 (omega arith) ∙ get_or-drop row products r 0) c.add_two_rows.ensures c.loop-row-2.invariant

pub loop-row-3-preserved : goal.loop-row-3-preserved
loop-row-3-preserved c =
    let products = c.args.products.now in
    let src = c.args.src.now in
    let len : ℕ = length src in
    let row = c.loop-row-3.row in
    let room : row + 1 ≤ length products = omega (arith, c.loop-row-3-test.true) in
    let long : length c.loop-row-3.rows ≡ length products * length src = c.loop-row-3.auto.rows ∙ c.loop-row-2.auto.rows ∙ c.loop-row.auto.rows ∙ c.requires in
    let fits : (row + 1) * len ≤ length products * len = mul-le (row + 1) len (length products) len room (omega arith) in
    let part_long : length c.add_one.new.dst ≡ (row + 1) * length src - row * length src =
    c.add_one.auto.dst ∙ length-between c.loop-row-3.rows (row * len) ((row + 1) * len) (omega (arith, long, fits)) in
    let part = take ((row + 1) * len - row * len) (drop (row * len) c.loop-row-3.rows) in
    let own : ℕ → ℕ = λ r. get_or products (row + r) 0 in
    let first : row ≡ row + 0 = omega arith in
    let factor : c.index-products-row.result ≡ own 0 = c.index-products-row.is ∙ get_or_default_zero products row c.index-products-row.result (omega arith) ∙ ap (λ r. get_or products r 0) first in
    let adds : (k : ℕ) → k < len → get_or c.add_one.new.dst k 0 ≡ bit_xor (get_or part k 0) (product (own 0) (get_or src k 0)) =
    λ k h. c.add_one.ensures k (omega (arith, part_long)) ∙ ap (λ f. bit_xor (get_or part k 0) (product f (get_or src k 0))) factor in
    RowsDone-more 1 row (length products) len (λ r. get_or products r 0) (λ b. get_or src b 0) own c.args.rows.now c.loop-row-3.rows c.add_one.new.dst
    room long part_long (λ r h. refl) (AddsRows-last len own (λ b. get_or src b 0) part c.add_one.new.dst adds) c.loop-row-3.invariant
