-- A rebuild that ended for want of memory, by any repairer's seat.
use Rattle.std.proofs.Common.{◌≡◌, ℕ, ◌+◌, ◌<◌, false, List, refl}
use Rattle.clay_grid.specs.Shape.{Shape, chunk_count, stripe_length}
use Rattle.store_map.specs.declared.actor.Actor.{Actor}
use Rattle.store_map.specs.declared.actor.Actor.TheVariants as actor
use Rattle.store_map.specs.declared.call.Rebuild.{Rebuild as RebuildCall}
use Rattle.store_core.specs.Act.{Act, Outcome}
use Rattle.store_core.specs.NextAct.{rebuild_job}
use Rattle.store_core.specs.Calls.{Calls}
use Rattle.store_core.specs.Conditions.{MayBegin}
use Rattle.store_core.specs.Lookups.{same_actor}
use Rattle.store_core.specs.Step.{Shortage, Places}
use Rattle.run_laws.specs.State.{first_state}
use Rattle.run_laws.specs.StateActs.{act_of_state}
use Rattle.session_rules.specs.State.{State}
use Rattle.session_rules.specs.Quiet.{AreSwept}
use Rattle.session_rules.specs.Seen.{IsSeenAs}
use Rattle.session_rules.specs.Wants.{wanting_steps}
use Rattle.session_rules.proofs.Wants.{wants_are_unseen}
use Rattle.session_rules.proofs.WantsSettled.{wants_are_swept}
use Rattle.session_rules.specs.Maps.{IsMapOf}
use Rattle.session_rules.proofs.CallLeft.{rebuilds_leave_maps}
use Rattle.session_rules.specs.Seats.{MayBeginFrom}
use Rattle.session_rules.specs.Readers.{HoldsSnapshot}
use Rattle.session_rules.specs.Between.{Seats, IsBetween}
use Rattle.session_rules.proofs.CallSeats.{rebuild_seated}
use Rattle.session_rules.proofs.RunKept.{begins, steps_leave}
use Rattle.session_rules.proofs.Leaving.{steps_leave as steps_keep}
use Rattle.session_rules.proofs.Readers.{holds_after}

module _ (calls : Calls) (g : Shape) (max tries : ℕ) (seats : Seats) (stands : List ℕ) (p : Places) (s : State) (some : 0 < stripe_length g) (h : IsBetween calls g max seats stands p s) (r number : ℕ)
    (seat : MayBeginFrom p.directory (actor.Repairer r) number) (c : RebuildCall) (less : c.server < chunk_count g) (shortages : List Shortage)
    (over : act_of_state g tries (rebuild_job c) (wanting_steps g tries (actor.Repairer r) number (rebuild_job c) shortages (record { call = first_state; places = p })).call ≡ Act.Finish Outcome.NoMemory) where
  abbrev left : Places
  left = (wanting_steps g tries (actor.Repairer r) number (rebuild_job c) shortages (record { call = first_state; places = p })).places

  begin : MayBegin p.directory (actor.Repairer r) number
  begin = begins p.directory (actor.Repairer r) number seat

  pub clean : AreSwept g max stands left s
  clean = wants_are_swept.rebuilds g max tries stands p s (actor.Repairer r) number c shortages some h.seen h.pinned h.quiet begin refl over

  pub seen_left : IsSeenAs g max stands left s
  seen_left = wants_are_unseen.rebuilds g max tries stands p s (actor.Repairer r) number c shortages some h.seen begin refl over

  pub map_left : IsMapOf calls left s
  map_left = rebuilds_leave_maps.any calls g max tries stands p s (actor.Repairer r) number c shortages some h.seen h.its_map begin refl less

  pub own : MayBeginFrom left.directory (actor.Repairer r) (number + 1)
  own = rebuild_seated g tries (actor.Repairer r) number c p shortages Outcome.NoMemory seat over

  pub other : (who : Actor) (unused : ℕ) → same_actor (actor.Repairer r) who ≡ false → MayBeginFrom p.directory who unused → MayBeginFrom left.directory who unused
  other who unused apart its = steps_leave who unused g tries (actor.Repairer r) number (rebuild_job c) apart shortages (record { call = first_state; places = p }) its

  pub readers_left : HoldsSnapshot calls g seats.readers seats.looks stands left.directory s.snapshot
  readers_left =
      holds_after calls g max seats.readers seats.looks stands stands p s some h.seen h.snapshot (actor.Repairer r) refl left.directory
      (λ P keeps its. steps_keep P (actor.Repairer r) keeps g tries number (rebuild_job c) shortages (record { call = first_state; places = p }) its) own.no_pass (λ n e. refl)
