use Rattle.std.proofs.Common.{◌≡◌, ℕ, ◌+◌, ◌<◌, ◌++◌, ◌∷◌, [], List, length, get_or, slice_get, Some, ap, sym, subst, ◌∙◌, arith}
use Rattle.std.proofs.lemmas.List.{length-append}
use Rattle.store_map.specs.declared.script.ClientPart.{ClientPart}
use Rattle.store_core.specs.Agreement.{Seat}
use Rattle.stripe_dir.specs.Seats.{client_seat}
use Rattle.actors.specs.Callers.{PartOf, CallerOf, first_caller}
use Rattle.store_world.specs.First.{IsFirstClient}
use Rattle.store_world.proofs.Lists.{got}
use Rattle.store_world.proofs.Seating.{next_seats, seat_is, each_more}
use Rattle.store_world.proofs.new_world.seat_clients.Goals as goal

pub loop-part-preserved : goal.loop-part-preserved
loop-part-preserved c =
    let parts : List ClientPart = c.as_slice-part-items.result.now in
    let below : c.loop-part.part-index < length c.as_slice-part-items.result.now = omega (arith, c.loop-part-test.true) in
    let less : c.loop-part.part-index < length c.args.script.now.clients = subst (λ (l : List ClientPart). c.loop-part.part-index < length l) c.as_slice-part-items.ensures below in
    let its : slice_get c.args.script.now.clients c.loop-part.part-index ≡ Some c.part-item.result =
    subst (λ (l : List ClientPart). slice_get l c.loop-part.part-index ≡ Some c.part-item.result) c.as_slice-part-items.ensures
    (got c.as_slice-part-items.result.now c.loop-part.part-index c.part-item.result below c.part-item.is) in
    let seat : c.remove-seat.result ≡ client_seat c.loop-part.part-index =
    seat_is c.args.seats.now.items c.loop-part.part-index c.remove-seat.result (client_seat c.loop-part.part-index) (c.requires.seats c.loop-part.part-index less)
    (c.remove-seat.ensures.value ∙ ap (λ (l : List Seat). get_or l 0 c.remove-seat.result) c.loop-part.invariant.seats) in
    let sum : length (c.loop-part.clients.items ++ c.in_ok-client.client ∷ []) ≡ length c.loop-part.clients.items + 1 = length-append c.loop-part.clients.items (c.in_ok-client.client ∷ []) in
    let first : IsFirstClient c.args.script.now c.args.book.now c.loop-part.part-index c.in_ok-client.client =
    record {
      part = c.part-item.result;
      its = its;
      first = c.in_ok-client.ensures ∙ (λ k. first_caller (PartOf.OfClient c.part-item.result) (c.opening.ensures k) (c.max_tries.ensures k) (seat k));
    } in
    record {
      seats = next_seats c.remove-seat.new.self.items c.loop-part.seats.items c.args.seats.now.items c.loop-part.part-index c.remove-seat.ensures.items c.loop-part.invariant.seats;
      count = ap length c.push_reserved.ensures.items ∙ sum ∙ ap (λ (n : ℕ). n + 1) c.loop-part.invariant.count;
      each =
          subst (λ (l : List CallerOf). (i : ℕ) (x : CallerOf) → slice_get l i ≡ Some x → IsFirstClient c.args.script.now c.args.book.now i x) (sym c.push_reserved.ensures.items)
          (each_more (IsFirstClient c.args.script.now c.args.book.now) c.loop-part.clients.items c.in_ok-client.client c.loop-part.invariant.each
          (subst (λ (n : ℕ). IsFirstClient c.args.script.now c.args.book.now n c.in_ok-client.client) (sym c.loop-part.invariant.count) first));
      room = omega (arith, c.push_reserved.ensures.capacity, c.loop-part.invariant.room);
    }
