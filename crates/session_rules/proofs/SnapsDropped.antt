-- A snapshot that is dropped: its passes end, and the sweeper sweeps what they alone kept.
use Rattle.std.proofs.Common.{◌≡◌, ℕ, ◌<◌, Bool, true, false, ◌||◌, List, [], ◌∷◌, length, take, slice_get, Option, None, Some, All, IfSome, IsTrue, refl, sym, ap, subst, ◌∙◌, arith, nat_eq}
use Rattle.std.specs.List.{AllByRecursion, IsDistinct}
use Rattle.std.proofs.lemmas.Bool.{true≢false, eqb-true}
use Rattle.std.proofs.lemmas.List.Elements.{All-nil}
use Rattle.clay_grid.specs.Shape.{Shape, stripe_length}
use Rattle.store_map.specs.declared.actor.Actor.{Actor}
use Rattle.store_map.specs.declared.actor.Actor.TheVariants as actor
use Rattle.store_core.specs.Lists.{is_among}
use Rattle.store_core.specs.Directory.{Version, Directory}
use Rattle.store_core.specs.Lookups.{pass_of, holds_standing}
use Rattle.store_core.specs.Agreement.{ActorToken, AreBelow, Agrees}
use Rattle.store_core.specs.Calls.{Calls}
use Rattle.store_core.specs.Server.{Server}
use Rattle.store_core.specs.Step.{Places}
use Rattle.run_laws.specs.MapAfter.{map_by}
use Rattle.session_rules.specs.State.{Snapshot, State}
use Rattle.session_rules.specs.declared.session_answer.Answer.{Answer}
use Rattle.session_rules.specs.declared.request.Request.{Request}
use Rattle.session_rules.specs.Snapshots.{snap_drop}
use Rattle.session_rules.specs.Seen.{IsSeenAs, IsOfSnapshot, IsAtRest}
use Rattle.session_rules.specs.Quiet.{is_kept_standing, IsSettled, AreSwept}
use Rattle.session_rules.proofs.Quiet.{all_garbage_is_swept}
use Rattle.session_rules.proofs.Settled.{quiet_is_settled}
use Rattle.session_rules.proofs.Snaps.{snaps_are_seen}
use Rattle.session_rules.proofs.Whole.{whole_of, same_of, map_of}
use Rattle.session_rules.specs.Seats.{MayBeginFrom}
use Rattle.session_rules.specs.Readers.{is_reader, kept_numbers, tickets_of}
use Rattle.session_rules.specs.Between.{Seats, IsBetween}
use Rattle.session_rules.specs.AloneSnapshots.{end_all}
use Rattle.session_rules.specs.Serving.{AreSweptTo, IsSnapDropped, IsServedAlone}
use Rattle.session_rules.proofs.PassesEnded.{AreEnded, all_ended, none_left}
use Rattle.session_rules.proofs.Readers.{client_apart, unused_of}
use Rattle.session_rules.proofs.Rests.{Rests, swept_to, between_swept}

options : {X P : Type 0} (found : Option X) → (found ≡ None → P) → ((x : X) → found ≡ Some x → P) → P
options None none some = none refl
options (Some x) none some = some x refl

cases : {P : Type 0} (b : Bool) → (b ≡ true → P) → (b ≡ false → P) → P
cases true t f = t refl
cases false t f = f refl

-- a reader has a seat among theirs
own_seat : (stands : List ℕ) (d : Directory) (number unused : ℕ) (readers : List ℕ) (i : ℕ) → is_among i readers ≡ true → AllByRecursion (Agrees d) (tickets_of stands number unused readers []) →
    MayBeginFrom d (actor.Client i) unused
own_seat stands d number unused [] i e all = absurd (true≢false (sym e))
own_seat stands d number unused (reader ∷ readers) i e all = by (nat_eq i reader) refl e (λ later. own_seat stands d number unused readers i later all.1)
  where
    by : (b : Bool) → nat_eq i reader ≡ b → (b || is_among i readers) ≡ true → (is_among i readers ≡ true → MayBeginFrom d (actor.Client i) unused) → MayBeginFrom d (actor.Client i) unused
    by true same e rest = subst (λ n. MayBeginFrom d (actor.Client n) unused) (sym (eqb-true i reader same)) all.0
    by false same e rest = rest e

-- where each has, and nobody else has a pass, there is none
pub nobody : (stands : List ℕ) (d : Directory) (number unused : ℕ) (readers : List ℕ) → AllByRecursion (Agrees d) (tickets_of stands number unused readers []) →
    ((who : Actor) → is_reader readers who ≡ false → pass_of who d ≡ None) → (who : Actor) → pass_of who d ≡ None
nobody stands d number unused readers seats others (actor.Client i) =
    cases (is_among i readers) (λ e. (own_seat stands d number unused readers i e seats).no_pass) (λ e. others (actor.Client i) e)
nobody stands d number unused readers seats others (actor.Repairer i) = others (actor.Repairer i) refl
nobody stands d number unused readers seats others actor.Sweeper = others actor.Sweeper refl
nobody stands d number unused readers seats others actor.Operator = others actor.Operator refl

module _ (calls : Calls) (g : Shape) (max tries : ℕ) (seats : Seats) (stands : List ℕ) (p : Places) (s : State) (some : 0 < stripe_length g) (h : IsBetween calls g max seats stands p s) (kept : Snapshot) (open_one : s.snapshot ≡ Some kept) where
  abbrev dropped : State
  dropped = record s { snapshot = None }

  abbrev pub left : Places
  left = end_all seats.looks (take (length kept.numbers) seats.readers) p

  abbrev number : ℕ
  number = h.snapshot.number

  distinct : IsDistinct nat_eq seats.readers
  unfolding IsDistinct
  distinct = h.readers.once.1

  used : number < seats.looks
  used = subst (λ snapshot. IfSome snapshot (λ kept. number < seats.looks)) open_one h.snapshot.used

  ended : AreEnded calls g max stands s number seats.looks seats.readers p left
  ended =
      all_ended calls g max stands s some number seats.looks used seats.looks seats.readers kept.numbers p distinct h.seen (whole_of calls g max stands p s h.seen h.its_map)
      (subst (λ snapshot. AllByRecursion (Agrees p.directory) (tickets_of stands number seats.looks seats.readers (kept_numbers snapshot))) open_one h.snapshot.tickets)

  -- ---- nobody has a pass
  others : (who : Actor) → is_reader seats.readers who ≡ false → pass_of who left.directory ≡ None
  others who apart =
      let n : (n : ℕ) × AreBelow who n p.directory.points = unused_of who p.directory.points in
      let seat : MayBeginFrom left.directory who n.0 =
      ended.left (ActorToken.Seated (record { actor = who; unused = n.0; told = None })) apart (record { no_pass = h.snapshot.others who apart; numbers = n.1; told = tt }) in
      seat.no_pass

  none_at_all : (who : Actor) → pass_of who left.directory ≡ None
  none_at_all = nobody stands left.directory number seats.looks seats.readers ended.seats others

  -- ---- the places are settled
  seen : IsSeenAs g max stands left dropped
  seen = subst (λ (r : State × Answer). IsSeenAs g max stands left r.0) (ap (λ found. snap_drop found s) open_one) (snaps_are_seen.dropped g max stands left s ended.seen)

  settled : IsSettled stands left dropped
  settled = record {
    passes =
        subst (λ passes. All (IsOfSnapshot []) passes) (sym (none_left left.directory none_at_all)) (All-nil (IsOfSnapshot []));
    held =
        subst (λ servers. All (λ (server : Server). All (λ version. IsTrue (holds_standing is_kept_standing (slice_get left.directory.versions version))) server.held) servers) (sym ended.servers)
        (subst (λ (versions : List Version). All (λ (server : Server). All (λ version. IsTrue (holds_standing is_kept_standing (slice_get versions version))) server.held) p.servers) (sym ended.versions) was.held);
    standing = subst (λ versions. All IsAtRest versions) (sym ended.versions) was.standing;
  }
    where
      was : IsSettled stands p s
      was = quiet_is_settled g max stands p s h.seen h.pinned h.quiet

  pub swept : AreSwept g max stands left dropped
  swept = all_garbage_is_swept g max stands left dropped some seen (λ n e. absurd (true≢false (sym e))) settled

  -- ---- the seats
  seat_left : (who : Actor) (unused : ℕ) → is_reader seats.readers who ≡ false → MayBeginFrom p.directory who unused → MayBeginFrom left.directory who unused
  seat_left who unused apart seat = ended.left (ActorToken.Seated (record { actor = who; unused = unused; told = None })) apart seat

  rests : Rests calls g max seats stands left dropped
  rests = record {
    seen = seen;
    its_map = map_of calls g max left dropped ended.whole (ap (map_by calls max) ended.points ∙ same_of calls g max stands p s h.seen h.its_map);
    client = seat_left (actor.Client seats.client) seats.calls (client_apart seats.client seats.readers h.readers) h.client;
    repairer = seat_left (actor.Repairer seats.repairer) seats.rebuilds refl h.repairer;
    healer = seat_left (actor.Repairer seats.healer) s.next refl h.healer;
    apart = h.apart;
    readers = h.readers;
    snapshot = record {
      number = number;
      used = tt;
      few = omega arith;
      tickets = ended.seats;
      others = others;
      bytes = tt;
    };
  }

  pub drop_swept : AreSweptTo g left swept.after
  drop_swept = swept_to calls g max seats stands left dropped some rests swept

  pub dropped_between : IsBetween calls g max seats stands swept.after dropped
  dropped_between = between_swept calls g max seats stands left dropped some rests swept

module _ (calls : Calls) (g : Shape) (max tries : ℕ) (seats : Seats) (stands : List ℕ) (p : Places) (s : State) (some : 0 < stripe_length g) (h : IsBetween calls g max seats stands p s) where
  abbrev Drops : Option Snapshot → State × Answer → Type 0
  Drops found served = (after : Places) × IsSnapDropped g seats found p after × IsBetween calls g max seats stands after served.0

  pub drop_served : IsServedAlone calls g max tries seats s Request.SnapDrop p
  drop_served = let drops : Drops s.snapshot (snap_drop s.snapshot s) = options s.snapshot none open_one in record { after = drops.0; stands = stands; served = drops.1; between = drops.2 }
    where
      none : s.snapshot ≡ None → Drops s.snapshot (snap_drop s.snapshot s)
      none e = subst (λ found. Drops found (snap_drop found s)) (sym e) (p, refl, h)

      open_one : (kept : Snapshot) → s.snapshot ≡ Some kept → Drops s.snapshot (snap_drop s.snapshot s)
      open_one kept e =
          subst (λ found. Drops found (snap_drop found s)) (sym e)
          ((swept calls g max tries seats stands p s some h kept e).after, drop_swept calls g max tries seats stands p s some h kept e, dropped_between calls g max tries seats stands p s some h kept e)
