use Rattle.std.proofs.Common.{◌+◌, ◌∷◌, [], ◌++◌, map, ap, sym, ◌∙◌, arith}
use Rattle.std.proofs.lemmas.List.{map-append, append_assoc}
use Rattle.std.specs.List.{range_with_len}
use Rattle.dir_parts.proofs.Growing.{range-snoc}
use Rattle.stripe_dir.specs.Seats.{client_seat}
use Rattle.stripe_dir.proofs.opening.add_clients.Goals as goal

pub loop-i-preserved : goal.loop-i-preserved
loop-i-preserved c = record {
  items =
      c.push_reserved.ensures.items ∙ ap (λ l. l ++ client_seat c.loop-i.i ∷ []) c.loop-i.invariant.items
      ∙ append_assoc c.args.seats.now.items (map client_seat (range_with_len 0 c.loop-i.i)) (client_seat c.loop-i.i ∷ [])
      ∙ ap (λ l. c.args.seats.now.items ++ l) (sym (ap (map client_seat) (range-snoc 0 c.loop-i.i) ∙ map-append client_seat (range_with_len 0 c.loop-i.i) ((0 + c.loop-i.i) ∷ []) ∙ ap (λ n. map client_seat (range_with_len 0 c.loop-i.i) ++ client_seat n ∷ []) (omega arith)));
  len = omega (arith, c.push_reserved.ensures.len, c.loop-i.invariant.len);
  room = c.push_reserved.ensures.capacity ∙ c.loop-i.invariant.room;
}
