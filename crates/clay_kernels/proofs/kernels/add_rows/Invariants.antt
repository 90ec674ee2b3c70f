use Rattle.std.proofs.Common.{◌-◌, length, get_or}
use Rattle.clay_kernels.proofs.RowLemmas.{RowsDone}
use Rattle.clay_kernels.proofs.kernels.add_rows.Given as goal

abbrev pub invariant-loop-row : goal.invariant-loop-row
invariant-loop-row l = RowsDone l.row (length l.products) (length l.src) (λ r. get_or l.products r 0) (λ b. get_or l.src b 0) l.fn.rows l.rows

abbrev pub decreases-loop-row : goal.decreases-loop-row
decreases-loop-row l = length l.products - l.row

abbrev pub invariant-loop-row-2 : goal.invariant-loop-row-2
invariant-loop-row-2 l = RowsDone l.row (length l.products) (length l.src) (λ r. get_or l.products r 0) (λ b. get_or l.src b 0) l.fn.rows l.rows

abbrev pub decreases-loop-row-2 : goal.decreases-loop-row-2
decreases-loop-row-2 l = length l.products - l.row

abbrev pub invariant-loop-row-3 : goal.invariant-loop-row-3
invariant-loop-row-3 l = RowsDone l.row (length l.products) (length l.src) (λ r. get_or l.products r 0) (λ b. get_or l.src b 0) l.fn.rows l.rows

abbrev pub decreases-loop-row-3 : goal.decreases-loop-row-3
decreases-loop-row-3 l = length l.products - l.row
