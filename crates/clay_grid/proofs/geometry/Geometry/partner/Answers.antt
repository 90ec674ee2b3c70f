use Rattle.std.proofs.Common.{◌/◌, ◌%◌, ◌<◌, ap, arith}
use Rattle.clay_grid.specs.Shape.{row_count, column_count}
use Rattle.clay_grid.proofs.LayerLaws.{partner_number, partner_vertex, partner_below}
use Rattle.clay_grid.proofs.geometry.Geometry.partner.Goals as goal

pub returns-clause-partner : goal.returns-clause-partner
returns-clause-partner c =
    let rows : 0 < row_count c.args.self.now = omega (arith, c.q.ensures.geometry.limits.parity_chunks.0) in
    partner_vertex c.args.self.now c.args.x c.args.y c.args.z c.stride-stride.result _ rows c.requires.row c.requires.column c.requires.layer c.stride-stride.ensures.value
    (ap (λ q. c.args.z / c.stride-stride.result % q) c.q.ensures.value)

pub returns-clause-number : goal.returns-clause-number
returns-clause-number c =
    let rows : 0 < row_count c.args.self.now = omega (arith, c.q.ensures.geometry.limits.parity_chunks.0) in
    partner_number (row_count c.args.self.now) (column_count c.args.self.now) c.args.z c.args.y c.args.x c.stride-stride.result _ rows c.requires.layer c.requires.column c.stride-stride.ensures.value
    (ap (λ q. c.args.z / c.stride-stride.result % q) c.q.ensures.value)

pub returns-clause-in_layers : goal.returns-clause-in_layers
returns-clause-in_layers c =
    let rows : 0 < row_count c.args.self.now = omega (arith, c.q.ensures.geometry.limits.parity_chunks.0) in
    partner_below c.args.self.now c.args.x c.args.y c.args.z c.stride-stride.result _ rows c.requires.row c.requires.column c.requires.layer c.stride-stride.ensures.value
    (ap (λ q. c.args.z / c.stride-stride.result % q) c.q.ensures.value)
