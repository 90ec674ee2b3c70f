use Rattle.std.proofs.Common.{sym}
use Rattle.clay_grid.specs.Shape.{row_count, column_count}
use Rattle.clay_grid.proofs.LayerLaws.{get_or-digits_of}
use Rattle.clay_grid.proofs.geometry.Geometry.digit.Goals as goal

pub returns-clause-value : goal.returns-clause-value
returns-clause-value c =
    rw (c.stride.ensures.value, c.q.ensures.value) (sym (get_or-digits_of (row_count c.args.self.now) (column_count c.args.self.now) c.args.z c.args.y c.requires.column))
