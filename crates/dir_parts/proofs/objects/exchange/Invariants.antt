use Rattle.std.proofs.Common.{◌≡◌, ◌+◌, ◌++◌, take, drop, vec_len, vec_capacity}
use Rattle.dir_parts.proofs.objects.exchange.Given as goal

abbrev pub invariant-loop-i : goal.invariant-loop-i
invariant-loop-i l = record {
  old : l.old.items ≡ take l.first l.fn.old.items ++ take l.i l.fn.drawn.items ++ drop (l.first + l.i) l.fn.old.items;
  drawn : l.drawn.items ≡ take l.i (drop l.first l.fn.old.items) ++ drop l.i l.fn.drawn.items;
  old_len : vec_len l.old ≡ vec_len l.fn.old;
  drawn_len : vec_len l.drawn ≡ vec_len l.fn.drawn;
  room : vec_capacity l.old ≡ vec_capacity l.fn.old;
}
