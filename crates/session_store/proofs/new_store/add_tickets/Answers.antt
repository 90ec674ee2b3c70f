use Rattle.std.proofs.Common.{◌≡◌, ℕ, suc, ◌+◌, ◌-◌, ◌<◌, ◌∷◌, [], ◌++◌, List, map, get_or, ap, sym, ◌∙◌, arith}
use Rattle.std.specs.List.{range_with_len, remove}
use Rattle.std.proofs.lemmas.List.{map-append}
use Rattle.store_core.specs.Agreement.{Seat, ActorToken}
use Rattle.stripe_dir.specs.Seats.{client_seat, repairer_seat}
use Rattle.dir_parts.proofs.Growing.{range-snoc}
use Rattle.session_store.specs.Beginning.{reader_tickets}
use Rattle.session_store.proofs.new_store.add_tickets.Goals as goal

pub loop-made-preserved : goal.loop-made-preserved
loop-made-preserved c =
    let made : ℕ = c.loop-made._made in
    let below : made < c.args.count = omega (arith, c.loop-made-test.true) in
    let left : ℕ = c.args.count - (made + 1) in
    let more : c.args.count - made ≡ suc left = omega (arith, below) in
    let repairers : List Seat = map repairer_seat (range_with_len 0 2) in
    let ticket : ℕ → ActorToken = λ i. ActorToken.Seated (client_seat i) in
    let ahead : c.loop-made.seats.items ≡ client_seat (1 + made) ∷ (map client_seat (range_with_len (1 + made + 1) left) ++ repairers) =
    c.loop-made.invariant.seats ∙ ap (λ n. map client_seat (range_with_len (1 + made) n) ++ repairers) more in
    let seat : c.remove-seat.result ≡ client_seat (1 + made) = c.remove-seat.ensures.value ∙ ap (λ (l : List Seat). get_or l 0 c.remove-seat.result) ahead in
    record {
      seats =
          c.remove-seat.ensures.items ∙ ap (λ (l : List Seat). remove l 0) ahead
          ∙ ap (λ n. map client_seat (range_with_len n left) ++ repairers) (omega arith);
      tickets =
          c.push_reserved.ensures.items ∙ (λ k. c.loop-made.invariant.tickets k ++ c.new.ensures k ∷ [])
          ∙ ap (λ (s : Seat). reader_tickets made ++ ActorToken.Seated s ∷ []) seat
          ∙ sym (ap (map ticket) (range-snoc 1 made) ∙ map-append ticket (range_with_len 1 made) ((1 + made) ∷ []));
      len = omega (arith, c.push_reserved.ensures.len, c.loop-made.invariant.len);
      room = omega (arith, c.push_reserved.ensures.capacity, c.loop-made.invariant.room);
    }
