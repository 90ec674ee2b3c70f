use Rattle.std.proofs.Common.{◌≡◌, ◌≤◌, ◌-◌, ◌++◌, take, length}
use Rattle.clay_bytes.specs.Stream.{Gives}
use Rattle.share_files.proofs.stripe_filling.fill.Given as goal

abbrev pub invariant-reads : goal.invariant-reads
invariant-reads g l = record {
  within : l.at ≤ length l.buf;
  given : Gives (g.S.Source.left l.fn.source) (take l.at l.buf) (g.S.Source.left l.source);
  heard : g.S.Source.given l.source ≡ g.S.Source.given l.fn.source ++ take l.at l.buf;
  steady : g.S.Source.faults l.source ≡ g.S.Source.faults l.fn.source;
}

abbrev pub decreases-reads : goal.decreases-reads
decreases-reads g l = length l.buf - l.at
