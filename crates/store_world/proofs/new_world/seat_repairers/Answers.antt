use Rattle.std.proofs.Common.{◌≡◌, ℕ, ◌+◌, ◌<◌, ◌++◌, ◌∷◌, [], List, length, get_or, slice_get, Some, ap, sym, subst, ◌∙◌, arith}
use Rattle.std.proofs.lemmas.List.{length-append}
use Rattle.store_map.specs.declared.script.RepairPart.{RepairPart}
use Rattle.store_core.specs.Agreement.{Seat}
use Rattle.stripe_dir.specs.Seats.{repairer_seat}
use Rattle.actors.specs.Callers.{PartOf, CallerOf, first_caller}
use Rattle.store_world.specs.First.{IsFirstRepairer}
use Rattle.store_world.proofs.Lists.{got}
use Rattle.store_world.proofs.Seating.{next_seats, seat_is, each_more}
use Rattle.store_world.proofs.new_world.seat_repairers.Goals as goal

pub loop-part-preserved : goal.loop-part-preserved
loop-part-preserved c =
    let parts : List RepairPart = c.as_slice-part-items.result.now in
    let below : c.loop-part.part-index < length c.as_slice-part-items.result.now = omega (arith, c.loop-part-test.true) in
    let less : c.loop-part.part-index < length c.args.script.now.repairers = subst (λ (l : List RepairPart). c.loop-part.part-index < length l) c.as_slice-part-items.ensures below in
    let its : slice_get c.args.script.now.repairers c.loop-part.part-index ≡ Some c.part-item.result =
    subst (λ (l : List RepairPart). slice_get l c.loop-part.part-index ≡ Some c.part-item.result) c.as_slice-part-items.ensures
    (got c.as_slice-part-items.result.now c.loop-part.part-index c.part-item.result below c.part-item.is) in
    let seat : c.remove-seat.result ≡ repairer_seat c.loop-part.part-index =
    seat_is c.args.seats.now.items c.loop-part.part-index c.remove-seat.result (repairer_seat c.loop-part.part-index) (c.requires.seats c.loop-part.part-index less)
    (c.remove-seat.ensures.value ∙ ap (λ (l : List Seat). get_or l 0 c.remove-seat.result) c.loop-part.invariant.seats) in
    let sum : length (c.loop-part.repairers.items ++ c.in_ok-repairer.repairer ∷ []) ≡ length c.loop-part.repairers.items + 1 = length-append c.loop-part.repairers.items (c.in_ok-repairer.repairer ∷ []) in
    let first : IsFirstRepairer c.args.script.now c.args.book.now c.loop-part.part-index c.in_ok-repairer.repairer =
    record {
      part = c.part-item.result;
      its = its;
      first = c.in_ok-repairer.ensures ∙ (λ k. first_caller (PartOf.OfRepairer c.part-item.result) (c.opening.ensures k) (c.max_tries.ensures k) (seat k));
    } in
    record {
      seats = next_seats c.remove-seat.new.self.items c.loop-part.seats.items c.args.seats.now.items c.loop-part.part-index c.remove-seat.ensures.items c.loop-part.invariant.seats;
      count = ap length c.push_reserved.ensures.items ∙ sum ∙ ap (λ (n : ℕ). n + 1) c.loop-part.invariant.count;
      each =
          subst (λ (l : List CallerOf). (i : ℕ) (x : CallerOf) → slice_get l i ≡ Some x → IsFirstRepairer c.args.script.now c.args.book.now i x) (sym c.push_reserved.ensures.items)
          (each_more (IsFirstRepairer c.args.script.now c.args.book.now) c.loop-part.repairers.items c.in_ok-repairer.repairer c.loop-part.invariant.each
          (subst (λ (n : ℕ). IsFirstRepairer c.args.script.now c.args.book.now n c.in_ok-repairer.repairer) (sym c.loop-part.invariant.count) first));
      room = omega (arith, c.push_reserved.ensures.capacity, c.loop-part.invariant.room);
    }
