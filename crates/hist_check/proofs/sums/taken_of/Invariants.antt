use Rattle.std.proofs.Common.{◌≡◌, ◌-◌, ◌*◌, ◌^◌, ◌≤◌, take, get_or, sum_by}
use Rattle.store_map.specs.declared.line.GLine.{GLine}
use Rattle.hist_check.proofs.sums.taken_of.Given as goal

abbrev pub invariant-loop-line : goal.invariant-loop-line
invariant-loop-line l = record {
  so_far : l.sum ≡ sum_by (λ (line : GLine). get_or line.takes l.server 0) (take l.line-index l.lines);
  bound : l.sum ≤ l.line-index * (2 ^ 64 - 1);
}
