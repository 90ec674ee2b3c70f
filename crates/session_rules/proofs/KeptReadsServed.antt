-- A read of a snapshot leads from places between two requests to such places, wherever memory is wanting.
use Rattle.std.proofs.Common.{◌≡◌, ◌⊎◌, ℕ, zero, suc, ◌<◌, List, [], length, replicate, Option, None, Some, refl, sym, ap, subst, subst₂, ◌∙◌, inl, inr}
use Rattle.clay_grid.specs.Shape.{Shape, stripe_length}
use Rattle.store_map.specs.declared.actor.Actor.TheVariants as actor
use Rattle.store_core.specs.Act.{Outcome}
use Rattle.store_core.specs.Calls.{Calls}
use Rattle.store_core.specs.Directory.{Directory}
use Rattle.store_core.specs.Sound.{IsSound}
use Rattle.store_core.specs.Step.{Places}
use Rattle.run_laws.specs.State.{State as CallAt}
use Rattle.session_rules.specs.State.{Snapshot, State}
use Rattle.session_rules.specs.declared.session_answer.Answer.{Answer}
use Rattle.session_rules.specs.declared.request.Request.{Request}
use Rattle.session_rules.specs.Snapshots.{snap_read}
use Rattle.session_rules.specs.Alone.{AtWork}
use Rattle.session_rules.specs.Seen.{IsSeenAs}
use Rattle.session_rules.proofs.Stays.{Same, kept_seen, kept_quiet, kept_pinned}
use Rattle.session_rules.specs.Maps.{IsMapOf}
use Rattle.session_rules.specs.Seats.{MayBeginFrom}
use Rattle.session_rules.specs.Readers.{HoldsSnapshot}
use Rattle.session_rules.specs.Between.{Seats, IsBetween}
use Rattle.session_rules.specs.Reading.{begun, reading_step, reading_steps}
use Rattle.session_rules.specs.AloneSnapshots.{kept_parts, gathered_as, IsReadServed}
use Rattle.session_rules.specs.Serving.{IsSnapRead, IsServedAlone}
use Rattle.session_rules.specs.Answering.{IsAnswered, SnapReadsAreAnswered}
use Rattle.session_rules.specs.AnsweredRuns.{IsReadCut}
use Rattle.session_rules.proofs.ReadingSteps.{OnlyTaken, ample, at_work, opened_gathers, steps_go_on, reads_either}
use Rattle.session_rules.proofs.KeptReads.{read_ends}

options : {X P : Type 0} (found : Option X) → (found ≡ None → P) → ((x : X) → found ≡ Some x → P) → P
options None none some = none refl
options (Some x) none some = some x refl

-- ---- a read has one end
module _ (g : Shape) where
  stays : (n : ℕ) (outcome : Outcome) (p : Places) → reading_steps g (replicate n (ample g)) (at_work g [] (CallAt.Ending outcome) p) ≡ at_work g [] (CallAt.Ending outcome) p
  stays zero outcome p = refl
  stays (suc n) outcome p = stays n outcome p

  one_read : (n m : ℕ) (w : AtWork) (first second : Outcome) (p q : Places) → reading_steps g (replicate n (ample g)) w ≡ at_work g [] (CallAt.Ending first) p →
      reading_steps g (replicate m (ample g)) w ≡ at_work g [] (CallAt.Ending second) q → at_work g [] (CallAt.Ending first) p ≡ at_work g [] (CallAt.Ending second) q
  one_read zero m w first second p q e also = sym (ap (reading_steps g (replicate m (ample g))) e ∙ stays m first p) ∙ also
  one_read (suc n) zero w first second p q e also = sym e ∙ ap (reading_steps g (replicate (suc n) (ample g))) also ∙ stays (suc n) second q
  one_read (suc n) (suc m) w first second p q e also = one_read n m (reading_step g (ample g) w) first second p q e also

  pub same_read : (calls : Calls) (seats : Seats) (name : List ℕ) (offset count : ℕ) (found : Option Snapshot) (before after other : Places) (answer : Answer) →
      IsSnapRead calls g seats name offset count found before answer after → IsSnapRead calls g seats name offset count found before answer other → after ≡ other
  same_read calls seats name offset count None before after other answer made also = made ∙ sym also
  same_read calls seats name offset count (Some kept) before after other answer made also =
      ap (λ (w : AtWork). w.places)
      (one_read made.made also.made (begun g (kept_parts g seats.readers before.directory kept name offset count) before) (gathered_as answer) (gathered_as answer) after other made.ends also.ends)

module _ (calls : Calls) (g : Shape) (max tries : ℕ) (seats : Seats) (stands : List ℕ) (p : Places) (s : State) (some : 0 < stripe_length g) (h : IsBetween calls g max seats stands p s) where
  -- what was taken shows in nothing that holds between requests
  pub between_taken : (q : Places) → OnlyTaken p q → IsBetween calls g max seats stands q s
  between_taken q only = record {
    seen =
        subst₂ (λ g max. IsSeenAs g max stands q s) h.seen.shape h.seen.most
        (kept_seen stands p s q same only.servers (subst₂ (λ g max. IsSeenAs g max stands p s) (sym h.seen.shape) (sym h.seen.most) h.seen));
    pinned = kept_pinned stands p s q same h.pinned;
    quiet = kept_quiet stands p s q same only.servers h.quiet;
    its_map = record { objects = its_map.objects; bytes = its_map.bytes; drawn = its_map.drawn };
    client = subst (λ d. MayBeginFrom d (actor.Client seats.client) seats.calls) (sym only.directory) h.client;
    repairer = subst (λ d. MayBeginFrom d (actor.Repairer seats.repairer) seats.rebuilds) (sym only.directory) h.repairer;
    healer = subst (λ d. MayBeginFrom d (actor.Repairer seats.healer) s.next) (sym only.directory) h.healer;
    apart = h.apart;
    readers = h.readers;
    snapshot = subst (λ d. HoldsSnapshot calls g seats.readers seats.looks stands d s.snapshot) (sym only.directory) h.snapshot;
  }
    where
      its_map : IsMapOf calls (record p { directory = q.directory }) s
      its_map = subst (λ d. IsMapOf calls (record p { directory = d }) s) (sym only.directory) h.its_map

      same : Same p.directory q.directory
      same = record {
        shape = ap (λ (d : Directory). d.shape) only.directory;
        most = ap (λ (d : Directory). d.max) only.directory;
        objects = ap (λ (d : Directory). d.objects) only.directory;
        versions = ap (λ (d : Directory). d.versions) only.directory;
        passes = ap (λ (d : Directory). d.passes) only.directory;
        sound = subst IsSound (sym only.directory) h.seen.sound;
      }

  module _ (name : List ℕ) (offset count : ℕ) where
    abbrev AreRead : Option Snapshot → State × Answer → Type 0
    AreRead found served = (after : Places) × IsSnapRead calls g seats name offset count found p served.1 after × IsBetween calls g max seats stands after served.0

    pub read_served : IsServedAlone calls g max tries seats s (Request.SnapRead name offset count) p
    read_served =
        let done : AreRead s.snapshot (snap_read g name offset count s.snapshot s) = options s.snapshot none open_one in
        record { after = done.0; stands = stands; served = done.1; between = done.2 }
      where
        none : s.snapshot ≡ None → AreRead s.snapshot (snap_read g name offset count s.snapshot s)
        none e = subst (λ found. AreRead found (snap_read g name offset count found s)) (sym e) (p, refl, h)

        open_one : (kept : Snapshot) → s.snapshot ≡ Some kept → AreRead s.snapshot (snap_read g name offset count s.snapshot s)
        open_one kept e =
            let it : (q : Places) × IsReadServed calls g seats.readers kept name offset count p (snap_read g name offset count (Some kept) s).1 q × OnlyTaken p q =
            read_ends calls g max tries seats stands p s some h kept e name offset count in
            subst (λ found. AreRead found (snap_read g name offset count found s)) (sym e) (it.0, it.1, between_taken it.0 it.2)

    -- one that is cut off
    pub read_cut : (after : Places) → (found : Option Snapshot) → IsReadCut g seats.readers name offset count found p after → IsBetween calls g max seats stands after s
    read_cut after None same = subst (λ (q : Places). IsBetween calls g max seats stands q s) (sym same) h
    read_cut after (Some kept) (shortages, same) =
        subst (λ (q : Places). IsBetween calls g max seats stands q s) (sym same)
        (between_taken (reading_steps g shortages (begun g (kept_parts g seats.readers p.directory kept name offset count) p)).places
        (steps_go_on g shortages (begun g (kept_parts g seats.readers p.directory kept name offset count) p) (opened_gathers g 0 (kept_parts g seats.readers p.directory kept name offset count))).1)

-- ---- one that ends
abbrev outcome_in : CallAt → Outcome
outcome_in (CallAt.Ending outcome) = outcome
outcome_in at = Outcome.NoMemory

pub snap_reads_are_answered : SnapReadsAreAnswered
snap_reads_are_answered calls g max seats stands p after s kept name offset count outcome some h open_one run =
    by (reads_either g run.shortages (begun g (kept_parts g seats.readers p.directory kept name offset count) p) (opened_gathers g 0 (kept_parts g seats.readers p.directory kept name offset count)))
  where
    by : ((reading_steps g run.shortages (begun g (kept_parts g seats.readers p.directory kept name offset count) p)).call.at ≡ CallAt.Ending Outcome.NoMemory) ⊎ (reading_steps g run.shortages (begun g (kept_parts g seats.readers p.directory kept name offset count) p) ≡ reading_steps g (replicate (length run.shortages) (ample g)) (begun g (kept_parts g seats.readers p.directory kept name offset count) p)) →
        (answered : IsAnswered calls g max seats s (Request.SnapRead name offset count) after) × (outcome ≡ gathered_as answered.served.1)
    by (inl dooms) = (
      record {
        served = (s, Answer.NoMemory);
        allowed = inr (refl, refl);
        stands = stands;
        between = read_cut calls g max 0 seats stands p s some h name offset count after (Some kept) (run.shortages, sym (ap (λ (w : AtWork). w.places) run.ends));
      },
      ap (λ (w : AtWork). outcome_in w.call.at) (sym run.ends) ∙ ap outcome_in dooms,
    )
    by (inr same) = amply (read_ends calls g max 0 seats stands p s some h kept open_one name offset count)
      where
        amply : (q : Places) × IsReadServed calls g seats.readers kept name offset count p (snap_read g name offset count (Some kept) s).1 q × OnlyTaken p q →
            (answered : IsAnswered calls g max seats s (Request.SnapRead name offset count) after) × (outcome ≡ gathered_as answered.served.1)
        amply (q, served, only) =
            let one : at_work g [] (CallAt.Ending outcome) after ≡ at_work g [] (CallAt.Ending (gathered_as (snap_read g name offset count (Some kept) s).1)) q =
            one_read g (length run.shortages) served.made (begun g (kept_parts g seats.readers p.directory kept name offset count) p) outcome (gathered_as (snap_read g name offset count (Some kept) s).1) after q (sym same ∙ run.ends) served.ends in (
              record {
                served = snap_read g name offset count (Some kept) s;
                allowed = inl (ap (λ found. snap_read g name offset count found s) (sym open_one));
                stands = stands;
                between = subst (λ (q : Places). IsBetween calls g max seats stands q s) (sym (ap (λ (w : AtWork). w.places) one)) (between_taken calls g max 0 seats stands p s some h q only);
              },
              ap (λ (w : AtWork). outcome_in w.call.at) one,
            )
