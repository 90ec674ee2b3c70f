use Rattle.std.proofs.Common.{◌≡◌}
use Rattle.clay_bench.proofs.rack.Rack.stock.Given as goal

abbrev pub invariant-loop-chunk : goal.invariant-loop-chunk
invariant-loop-chunk l = (l.self.server ≡ l.fn.self.server) × (l.self.chunks ≡ l.fn.self.chunks)
