use Rattle.std.specs.Io.KnownBytes.{Keeps}
use Rattle.clay_bytes.proofs.standard.write_again.Given as goal

abbrev pub invariant-tries : goal.invariant-tries
invariant-tries g l = Keeps (g.W.Write.contents l.fn.writer) (g.W.Write.contents l.writer)
