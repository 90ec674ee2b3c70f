use Rattle.std.proofs.Common.{◌≡◌, ℕ, ◌<◌, length, get_or}
use Rattle.generator_matrix.specs.declared.column.ColumnFactors.{ColumnFactors}
use Rattle.generator_matrix.specs.Columns.{IsColumn}
use Rattle.generator_matrix.proofs.generator.columns_of.Given as goal

abbrev pub invariant-loop-column : goal.invariant-loop-column
invariant-loop-column l = record {
  long : length l.columns.items ≡ l.column;
  done : (y : ℕ) (default : ColumnFactors) → y < l.column → IsColumn l.factors y (get_or l.columns.items y default);
}
