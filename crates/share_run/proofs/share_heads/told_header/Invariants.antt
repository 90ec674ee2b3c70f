use Rattle.share_run.specs.Heads.{Tell}
use Rattle.share_run.proofs.share_heads.told_header.Given as goal

abbrev pub invariant-loop-share : goal.invariant-loop-share
invariant-loop-share l = Tell l.heads l.share l.told
