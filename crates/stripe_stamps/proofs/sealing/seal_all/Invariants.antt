use Rattle.std.proofs.Common.{◌≡◌, ◌+◌, length, map, option_map, vec_len, vec_capacity}
use Rattle.std.specs.List.{range_with_len}
use Rattle.version_seal.specs.Sealer.{sealer_at}
use Rattle.stripe_stamps.specs.Sealed.{drawn_stamp}
use Rattle.stripe_stamps.proofs.sealing.seal_all.Given as goal

abbrev pub invariant-loop-i : goal.invariant-loop-i
invariant-loop-i l = record {
  items : l.fresh.items ≡ map (drawn_stamp l.drawing.book.now l.stamps l.drawing.pass.now.pass l.drawing.first (option_map (λ r. r.now) l.drawing.request)) (range_with_len 0 l.i);
  len : vec_len l.fresh ≡ l.i;
  room : vec_capacity l.fresh ≡ l.count;
  sealer : l.sealer ≡ sealer_at l.drawing.book.now (length l.stamps + l.i);
}
