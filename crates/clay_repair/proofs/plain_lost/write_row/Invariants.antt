use Rattle.std.proofs.Common.{ℕ}
use Rattle.code_laws.specs.Rebuilt.{HoldsSubchunk, HoldsRow}
use Rattle.clay_repair.proofs.plain_lost.write_row.Given as goal

abbrev pub invariant-loop-x : goal.invariant-loop-x
invariant-loop-x l = record {
  written : HoldsRow l.g l.plan.lost l.parts l.z l.x l.chunk;
  kept : (n : ℕ) → HoldsSubchunk l.g l.plan.lost l.parts l.fn.chunk n → HoldsSubchunk l.g l.plan.lost l.parts l.chunk n;
}
