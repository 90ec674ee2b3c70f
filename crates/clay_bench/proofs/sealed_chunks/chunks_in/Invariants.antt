use Rattle.std.proofs.Common.{◌≡◌, ◌+◌, All}
use Rattle.version_seal.specs.Sealer.{sealer_at}
use Rattle.chunk_server.specs.Valid.{IsFor}
use Rattle.clay_bench.proofs.sealed_chunks.chunks_in.Given as goal

abbrev pub invariant-loop-version : goal.invariant-loop-version
invariant-loop-version l = record {
  chunks : All (IsFor l.fn.book.home 0 l.fn.geometry) l.chunks.items;
  sealer : l.sealer ≡ sealer_at l.fn.book (l.fn.sealer.next + l._version);
}
