use Rattle.std.proofs.Common.{◌≡◌, ℕ, ◌+◌, ◌-◌, ◌*◌, ◌%◌, ◌<◌, ◌≤◌, length, get_or, subst, sym, ap, ◌∙◌, arith}
use Rattle.clay_grid.specs.Shape.{row_count}
use Rattle.clay_grid.specs.Layers.{layer_of}
use Rattle.clay_parity.specs.Solved.{solved_value}
use Rattle.clay_parity.proofs.GroupLaws.{group_room, rows_hold}
use Rattle.clay_parity.proofs.parity_layers.solve_rows.Goals as goal

pub solve_block-requires-clause-within : goal.solve_block-requires-clause-within
solve_block-requires-clause-within c =
    let g = c.args.g in
    subst (λ q. 0 + length c.args.values.now ≤ (row_count g - c.args.number * q % row_count g) * g.width) (sym c.q.ensures.value)
    (group_room g c.q.ensures.geometry c.args.number (0 + length c.args.values.now) (omega (arith, c.requires.values_len)))

pub returns : goal.returns
returns c =
    let g = c.args.g in
    let p : ℕ = g.parity_count in
    let len : ℕ = length c.args.values.now in
    let rows = c.solve_block.new.rows in
    let factors = c.args.generator.now.each in
    let stripe = c.args.stripe.now in
    let there : (e b : ℕ) → e < p → b < p * g.width → get_or rows (e * (p * g.width) + b) 0 ≡ solved_value g factors stripe (0 + b) e (layer_of g (c.args.number * p)) =
    subst (λ n. (e b : ℕ) → e < p → b < n → get_or rows (e * n + b) 0 ≡ solved_value g factors stripe (0 + b) e (layer_of g (c.args.number * p))) c.requires.values_len
    (subst (λ q. (e b : ℕ) → e < p → b < len → get_or rows (e * len + b) 0 ≡ solved_value g factors stripe (0 + b) e (layer_of g (c.args.number * q))) c.q.ensures.value c.solve_block.ensures) in
    rows_hold g c.q.ensures.geometry c.args.number factors stripe rows c.requires.in_layers
    (λ e b he hb. there e b he hb ∙ ap (λ v. solved_value g factors stripe v e (layer_of g (c.args.number * p))) {x = 0 + b} {y = b} (omega arith))
