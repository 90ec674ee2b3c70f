use Rattle.clay_grid.proofs.LimitLaws.{virtual_count_fills, virtual_count_fewest}
use Rattle.clay_grid.proofs.geometry.Geometry.nu.Goals as goal

pub returns-clause-fills_columns : goal.returns-clause-fills_columns
returns-clause-fills_columns c = rw (← c.self.invariant.columns_are, ← c.self.view_is) (virtual_count_fills _ c.self.invariant.geometry)

pub returns-clause-fewest : goal.returns-clause-fewest
returns-clause-fewest c = rw (← c.self.invariant.columns_are, ← c.self.view_is) (virtual_count_fewest _ c.self.invariant.geometry)
