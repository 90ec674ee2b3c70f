use Rattle.std.proofs.Common.{ℕ, ◌<◌, ◌^◌, get_or}
use Rattle.code_laws.specs.Columns.{IsSolved}
use Rattle.clay_encode.proofs.plain_columns.solve_layers.Given as goal

abbrev pub invariant-loop-z : goal.invariant-loop-z
invariant-loop-z l = record {
  bytes : (i : ℕ) → get_or l.column i 0 < 2 ^ 8;
  solved : (n : ℕ) → n < l.z → IsSolved l.g l.stripe n l.column;
}
