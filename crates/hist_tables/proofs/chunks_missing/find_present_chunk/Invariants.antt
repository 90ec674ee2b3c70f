use Rattle.std.proofs.Common.{◌≡◌, take, drop}
use Rattle.std.specs.Prelude.{reverse}
use Rattle.hist_rules.specs.First.{first_fault_after, first_fault_along}
use Rattle.hist_rules.specs.MissingChunk.{chunk_missing}
use Rattle.hist_tables.proofs.chunks_missing.find_present_chunk.Given as goal

abbrev pub invariant-loop-place : goal.invariant-loop-place
invariant-loop-place l =
    first_fault_after (chunk_missing l.script l.call l.missing) (reverse (take l.place l.missing)) (drop l.place l.missing)
    ≡ first_fault_along (chunk_missing l.script l.call l.missing) l.missing
