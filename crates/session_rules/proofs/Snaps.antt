-- A snapshot that is taken or dropped.
use Rattle.std.proofs.Common.{◌≡◌, ◌⊎◌, ℕ, Bool, true, false, List, length, Option, None, Some, sym, ◌∙◌, inl, inr, nat_lt, if◌then◌else◌}
use Rattle.std.proofs.lemmas.Bool.{or_cases, or_left}
use Rattle.clay_grid.specs.Shape.{Shape}
use Rattle.store_map.specs.declared.reply.Reply.TheVariants as reply
use Rattle.store_core.specs.Lists.{is_among}
use Rattle.store_core.specs.Step.{Places}
use Rattle.session_rules.specs.State.{Snapshot, State as Session}
use Rattle.session_rules.specs.declared.session_answer.Answer.{Answer}
use Rattle.session_rules.specs.Snapshots.{most_objects, snap, snap_drop}
use Rattle.session_rules.specs.Seen.{all_numbers, snapshot_numbers, live_numbers, IsSeenAs}
use Rattle.session_rules.specs.Snaps.{SnapsAreSeen}
use Rattle.session_rules.proofs.Counting.{among_append}

module _ (g : Shape) (max : ℕ) (stands : List ℕ) (p : Places) (s : Session) (h : IsSeenAs g max stands p s) where
  -- a state with another snapshot, of whose numbers all are live
  with_snapshot : (snapshot : Option Snapshot) → ((n : ℕ) → is_among n (snapshot_numbers snapshot) ≡ true → is_among n (live_numbers s) ≡ true) →
      IsSeenAs g max stands p (record s { snapshot = snapshot })
  with_snapshot snapshot live = record {
    shape = h.shape;
    most = h.most;
    sound = h.sound;
    servers = h.servers;
    present = h.present;
    epochs = h.epochs;
    lengths = h.lengths;
    versions = h.versions;
    count = h.count;
    stripes = λ n e. h.stripes n (before n e);
    apart = λ n m e also same. h.apart n m (before n e) (before m also) same;
    timely = h.timely;
    names = h.names;
  }
    where
      by : (n : ℕ) → (is_among n (all_numbers s.numbers) ≡ true) ⊎ (is_among n (snapshot_numbers snapshot) ≡ true) → is_among n (live_numbers s) ≡ true
      by n (inl e) = among_append n (all_numbers s.numbers) (snapshot_numbers s.snapshot) ∙ or_left (is_among n (all_numbers s.numbers)) (is_among n (snapshot_numbers s.snapshot)) e
      by n (inr e) = live n e

      before : (n : ℕ) → is_among n (live_numbers (record s { snapshot = snapshot })) ≡ true → is_among n (live_numbers s) ≡ true
      before n e = by n (or_cases (is_among n (all_numbers s.numbers)) (is_among n (snapshot_numbers snapshot)) (sym (among_append n (all_numbers s.numbers) (snapshot_numbers snapshot)) ∙ e))

  abbrev kept : Snapshot
  kept = record { objects = s.objects; numbers = s.numbers; stripes = s.stripes }

  taken_by : (found : Option Snapshot) → IsSeenAs g max stands p (snap found s).0
  taken_by (Some one) = h
  taken_by None = by (nat_lt most_objects (length s.objects))
    where
      by : (b : Bool) → IsSeenAs g max stands p (let r : Session × Answer = if b then (s, Answer.TooMany (length s.objects)) else (record s { snapshot = Some kept }, Answer.Replied reply.Done) in r.0)
      by true = h
      by false =
          with_snapshot (Some kept)
          (λ n e. among_append n (all_numbers s.numbers) (snapshot_numbers s.snapshot) ∙ or_left (is_among n (all_numbers s.numbers)) (is_among n (snapshot_numbers s.snapshot)) e)

  dropped_by : (found : Option Snapshot) → IsSeenAs g max stands p (snap_drop found s).0
  dropped_by None = h
  dropped_by (Some one) = with_snapshot None (λ n e. absurd (Rattle.std.proofs.lemmas.Bool.true≢false (sym e)))

pub snaps_are_seen : SnapsAreSeen
snaps_are_seen = record {
  taken = λ g max stands p s h. taken_by g max stands p s h s.snapshot;
  dropped = λ g max stands p s h. dropped_by g max stands p s h s.snapshot;
}
