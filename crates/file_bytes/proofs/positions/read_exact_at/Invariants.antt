use Rattle.std.proofs.Common.{◌≡◌, ◌≤◌, ◌-◌, ◌++◌, take, length}
use Rattle.file_bytes.specs.Places.{placed_from}
use Rattle.file_bytes.proofs.positions.read_exact_at.Given as goal

abbrev pub invariant-reads : goal.invariant-reads
invariant-reads g l = record {
  within : l.done ≤ length l.buf;
  given : g.S.SourceAt.given l.source ≡ g.S.SourceAt.given l.fn.source ++ placed_from l.fn.at (take l.done l.buf);
  ends : g.S.SourceAt.ends l.source ≡ g.S.SourceAt.ends l.fn.source;
  steady : g.S.SourceAt.failed l.source ≡ g.S.SourceAt.failed l.fn.source;
}

abbrev pub decreases-reads : goal.decreases-reads
decreases-reads g l = length l.buf - l.done
