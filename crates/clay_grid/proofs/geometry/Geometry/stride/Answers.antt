use Rattle.std.proofs.Common.{◌-◌, ◌<◌, subst, sym, arith}
use Rattle.std.proofs.Math.Nat.{one-le-pow}
use Rattle.clay_grid.specs.Shape.{column_count}
use Rattle.clay_grid.proofs.LimitLaws.{stride_fits}
use Rattle.clay_grid.proofs.LayerLaws.{stride_column}
use Rattle.clay_grid.proofs.geometry.Geometry.stride.Goals as goal

pub pow-requires : goal.pow-requires
pow-requires c = stride_fits c.self.inside.m c.self.inside.t c.args.y c.self.invariant.geometry.limits.parity_chunks.0 c.self.invariant.geometry.limits.parity_chunks.1 (omega (arith, c.self.invariant.geometry.columns, c.self.invariant.columns_are))

pub returns-clause-nonzero : goal.returns-clause-nonzero
returns-clause-nonzero c =
    rw c.pow.ensures (one-le-pow (c.self.inside.t - 1 - c.args.y) c.self.inside.m (omega (arith, c.self.invariant.geometry.limits.parity_chunks.0)))

pub returns-clause-column : goal.returns-clause-column
returns-clause-column c =
    rw (c.pow.ensures, ← c.self.invariant.columns_are, ← c.self.view_is) (stride_column _ _ c.args.y (omega (arith, c.self.invariant.geometry.limits.parity_chunks.0)) (subst (λ g. c.args.y < column_count g) (sym c.self.view_is) c.requires))
