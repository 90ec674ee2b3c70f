use Rattle.std.proofs.Common.{◌≡◌, take}
use Rattle.lost_read.specs.There.{there_of}
use Rattle.lost_read.proofs.there.mark_there.Given as goal

abbrev pub invariant-loop-c : goal.invariant-loop-c
invariant-loop-c l = take l.c l.there ≡ there_of (take l.c l.present)
