use Rattle.clay_aloof.specs.Rebuilt.{HasColumn}
use Rattle.clay_aloof.proofs.lost_chunk.column_is_there.Given as goal

abbrev pub invariant-loop-c : goal.invariant-loop-c
invariant-loop-c l = HasColumn l.g l.lost l.parts l.c
