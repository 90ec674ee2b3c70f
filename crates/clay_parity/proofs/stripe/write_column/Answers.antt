use Rattle.std.proofs.Common.{◌≡◌, ℕ, ◌+◌, ◌-◌, ◌*◌, ◌/◌, ◌%◌, ◌<◌, length, take, drop, subst, sym, ap, ◌∙◌, arith}
use Rattle.std.proofs.lemmas.List.Edits.{length-between}
use Rattle.clay_grid.specs.Shape.{row_count, column_count}
use Rattle.clay_grid.specs.Layers.{layer_of}
use Rattle.clay_grid.proofs.LayerLaws.{partner_vertex, partner_below}
use Rattle.code_laws.specs.Columns.{uncoupled_value}
use Rattle.code_laws.proofs.Pieces.{piece_fits, one_more_piece}
use Rattle.clay_parity.proofs.GroupLaws.{column_known}
use Rattle.clay_parity.proofs.stripe.write_column.Goals as goal

pub loop-x-preserved : goal.loop-x-preserved
loop-x-preserved c =
    let g = c.args.g in
    let len : ℕ = c.args.len in
    let x = c.loop-x.x in
    let values = c.loop-x.values in
    let value : ℕ → ℕ → ℕ = λ x b. uncoupled_value g c.args.stripe.now (c.args.at + b) (c.args.column * row_count g + x) (layer_of g c.args.z) in
    let long : length values ≡ row_count g * len = c.loop-x.auto.values ∙ c.requires.values_len in
    let below : x < row_count g = subst (λ n. x < n) c.q-x-end.ensures.value c.loop-x-test.true in
    let fits = piece_fits x (row_count g) len below in
    let width : x * len + len - x * len ≡ len = omega arith in
    let part : length (take (x * len + len - x * len) (drop (x * len) values)) ≡ len = length-between values (x * len) (x * len + len) (omega arith) ∙ width in
    let size : length c.write_value.new.out ≡ len = c.write_value.auto.out ∙ part in
    one_more_piece len x (x * len + len - x * len) value values c.write_value.new.out (omega arith) size c.loop-x.invariant
    (λ b h. c.write_value.ensures b (subst (λ n. b < n) (sym part) h))

pub slice_bounds-write_value-end : goal.slice_bounds-write_value-end
slice_bounds-write_value-end c =
    let g = c.args.g in
    let below : c.loop-x.x < row_count g = subst (λ n. c.loop-x.x < n) c.q-x-end.ensures.value c.loop-x-test.true in
    let fits = piece_fits c.loop-x.x (row_count g) c.args.len below in
    let long : length c.loop-x.values ≡ row_count g * c.args.len = c.loop-x.auto.values ∙ c.requires.values_len in
    omega arith

pub write_value-requires-clause-known : goal.write_value-requires-clause-known
write_value-requires-clause-known c = column_known c.args.g c.args.column c.requires.known

pub write_value-requires-clause-partner : goal.write_value-requires-clause-partner
write_value-requires-clause-partner c =
    let g = c.args.g in
    let row : c.loop-x.x < row_count g = subst (λ n. c.loop-x.x < n) c.q-x-end.ensures.value c.loop-x-test.true in
    let rows : 0 < row_count g = omega arith in
    let column : c.args.column < column_count g = omega (arith, c.requires.known) in
    partner_vertex g c.loop-x.x c.args.column c.args.z c.stride-stride.result _ rows row column c.requires.layer c.stride-stride.ensures.value
    (ap (λ q. c.args.z / c.stride-stride.result % q) c.q.ensures.value)

pub write_value-requires-clause-other_layer : goal.write_value-requires-clause-other_layer
write_value-requires-clause-other_layer c =
    let g = c.args.g in
    let row : c.loop-x.x < row_count g = subst (λ n. c.loop-x.x < n) c.q-x-end.ensures.value c.loop-x-test.true in
    let rows : 0 < row_count g = omega arith in
    let column : c.args.column < column_count g = omega (arith, c.requires.known) in
    partner_below g c.loop-x.x c.args.column c.args.z c.stride-stride.result _ rows row column c.requires.layer c.stride-stride.ensures.value
    (ap (λ q. c.args.z / c.stride-stride.result % q) c.q.ensures.value)
