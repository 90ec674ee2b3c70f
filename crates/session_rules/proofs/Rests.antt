-- A call has ended, and the sweeper goes on: the places come to stand between requests again.
use Rattle.std.proofs.Common.{◌≡◌, ◌≢◌, ℕ, zero, suc, ◌<◌, nat_lt, Bool, true, false, List, find, slice_get, Option, None, Some, refl, ap, subst, ◌∙◌, if◌then◌else◌}
use Rattle.clay_grid.specs.Shape.{Shape, chunk_count, stripe_length}
use Rattle.store_map.specs.declared.actor.Actor.{Actor}
use Rattle.store_map.specs.declared.actor.Actor.TheVariants as actor
use Rattle.store_core.specs.Act.{Act, DirectoryStep, ServerStep}
use Rattle.store_core.specs.AtDirectory.{take_garbage}
use Rattle.store_core.specs.Calls.{Calls}
use Rattle.store_core.specs.Directory.{Pass, Directory}
use Rattle.store_core.specs.Lookups.{same_actor, pass_of, first_garbage}
use Rattle.store_core.specs.Step.{Places, at_places}
use Rattle.store_core.specs.Sweep.{Sweeper, next_sweep}
use Rattle.session_rules.specs.State.{State}
use Rattle.session_rules.specs.Alone.{Sweeping, sweep, sweeps}
use Rattle.session_rules.specs.Seen.{IsSeenAs}
use Rattle.session_rules.specs.Quiet.{AreSwept}
use Rattle.session_rules.proofs.Wants.{same_directory}
use Rattle.session_rules.specs.Maps.{IsMapOf}
use Rattle.session_rules.proofs.Sweeps.{sweeps_leave_maps}
use Rattle.session_rules.specs.Seats.{MayBeginFrom}
use Rattle.session_rules.specs.Readers.{AreReaders, is_reader, HoldsSnapshot}
use Rattle.session_rules.specs.Between.{Seats, IsBetween}
use Rattle.session_rules.specs.Serving.{AreSweptTo}
use Rattle.session_rules.proofs.RunKept.{sweeps_leave}
use Rattle.session_rules.proofs.Leaving.{sweeps_leave as sweeps_keep}
use Rattle.session_rules.proofs.Readers.{Held, held_kept, held_of, holds_again}

-- what a call has left, and the seats then
pub record Rests (calls : Calls) (g : Shape) (max : ℕ) (seats : Seats) (stands : List ℕ) (p : Places) (s : State) : Type 0 where
  pub seen : IsSeenAs g max stands p s
  pub its_map : IsMapOf calls p s
  pub client : MayBeginFrom p.directory (actor.Client seats.client) seats.calls
  pub repairer : MayBeginFrom p.directory (actor.Repairer seats.repairer) seats.rebuilds
  pub healer : MayBeginFrom p.directory (actor.Repairer seats.healer) s.next
  pub apart : seats.repairer ≢ seats.healer
  pub readers : AreReaders seats.client seats.readers
  pub snapshot : HoldsSnapshot calls g seats.readers seats.looks stands p.directory s.snapshot

-- ---- the sweeper leaves all passes
taken_passes : (d : Directory) (found : Option ℕ) → (take_garbage found d).0.passes ≡ d.passes
taken_passes d None = refl
taken_passes d (Some version) = refl

act_passes : (g : Shape) (p : Places) (sweeper : Sweeper) → (at_places false actor.Sweeper 0 (next_sweep (chunk_count g) sweeper) p).0.directory.passes ≡ p.directory.passes
act_passes g p Sweeper.Idle = taken_passes p.directory (first_garbage p.directory)
act_passes g p (Sweeper.Sweeping version server) = by (nat_lt server (chunk_count g))
  where
    by : (b : Bool) → (at_places false actor.Sweeper 0 (if b then Act.AtServer server (ServerStep.Discard version) else Act.AtDirectory (DirectoryStep.Swept version)) p).0.directory.passes ≡ p.directory.passes
    by true = ap (λ (d : Directory). d.passes) (same_directory false server (ServerStep.Discard version) p (slice_get p.servers server))
    by false = refl

sweeps_passes : (g : Shape) (made : ℕ) (w : Sweeping) → (sweeps g made w).places.directory.passes ≡ w.places.directory.passes
sweeps_passes g zero w = refl
sweeps_passes g (suc made) w = sweeps_passes g made (sweep g w) ∙ act_passes g w.places w.sweeper

module _ (calls : Calls) (g : Shape) (max : ℕ) (seats : Seats) (stands : List ℕ) (p : Places) (s : State) (some : 0 < stripe_length g) (rests : Rests calls g max seats stands p s) (clean : AreSwept g max stands p s) where
  at_end : (P : Places → Type 0) → P (sweeps g clean.made (record { sweeper = Sweeper.Idle; places = p })).places → P clean.after
  at_end P = subst P (ap (λ (w : Sweeping). w.places) clean.idle)

  seat_at_end : (who : Actor) (unused : ℕ) → same_actor actor.Sweeper who ≡ false → MayBeginFrom p.directory who unused → MayBeginFrom clean.after.directory who unused
  seat_at_end who unused apart seat =
      at_end (λ q. MayBeginFrom q.directory who unused) (sweeps_leave who unused apart g clean.made (record { sweeper = Sweeper.Idle; places = p }) seat)

  -- the readers
  abbrev Keeps : Directory → Type 0
  Keeps d = Held calls g seats.readers stands rests.snapshot.number seats.looks s.snapshot d

  held_at_end : Keeps clean.after.directory
  held_at_end =
      at_end (λ q. Keeps q.directory)
      (sweeps_keep Keeps (held_kept calls g seats.readers stands rests.snapshot.number seats.looks s.snapshot actor.Sweeper refl) g clean.made (record { sweeper = Sweeper.Idle; places = p })
      (held_of g max stands p s some rests.seen calls seats.readers seats.looks rests.snapshot))

  others_at_end : (who : Actor) → is_reader seats.readers who ≡ false → pass_of who clean.after.directory ≡ None
  others_at_end who apart =
      ap (find (λ (pass : Pass). same_actor who pass.actor))
      (at_end (λ q. q.directory.passes ≡ p.directory.passes) (sweeps_passes g clean.made (record { sweeper = Sweeper.Idle; places = p }))) ∙ rests.snapshot.others who apart

  pub swept_to : AreSweptTo g p clean.after
  swept_to = record { made = clean.made; idle = clean.idle; clean = clean.quiet.clean }

  pub between_swept : IsBetween calls g max seats stands clean.after s
  between_swept = record {
    seen = clean.seen;
    pinned = clean.pinned;
    quiet = clean.quiet;
    its_map = at_end (λ q. IsMapOf calls q s) (sweeps_leave_maps.swept calls g max stands s clean.made (record { sweeper = Sweeper.Idle; places = p }) some rests.seen rests.its_map);
    client = seat_at_end (actor.Client seats.client) seats.calls refl rests.client;
    repairer = seat_at_end (actor.Repairer seats.repairer) seats.rebuilds refl rests.repairer;
    healer = seat_at_end (actor.Repairer seats.healer) s.next refl rests.healer;
    apart = rests.apart;
    readers = rests.readers;
    snapshot = holds_again calls g seats.readers seats.looks stands stands p.directory clean.after.directory s.snapshot rests.snapshot held_at_end (λ n e. refl) others_at_end;
  }
