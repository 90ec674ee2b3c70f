-- What is answered by whether a snapshot is open.
use Rattle.std.proofs.Common.{◌≡◌, ℕ, Option, None, Some, IsTrue, is_some, false, true≢false, List, refl, sym, subst, inl, inr}
use Rattle.session_rules.specs.State.{Snapshot, State}
use Rattle.session_rules.specs.Snapshots.{snap, snap_read, snap_drop}
use Rattle.session_rules.specs.declared.request.Request.{Request}
use Rattle.session_rules.specs.declared.session_answer.Answer.{Answer}
use Rattle.clay_grid.specs.Shape.{Shape}
use Rattle.snapshot_view.specs.Snapshots.{SnapshotOf}
use Rattle.session_store.specs.Kept.{IsStore, ServesRequest}
use Rattle.store_map.specs.declared.reply.Reply.{Reply}
use Rattle.session_store.specs.Serving.{ServesAll, dropped_one}
use Rattle.session_store.specs.Standing.{AreKept}
use Rattle.session_store.specs.Stored.{StoreOf}
use Rattle.session_store.proofs.Scrubbing.{one_more, left_served, stands_more}

open_is : (s : State) (kept : Option Snapshot) (held : Option SnapshotOf) → AreKept kept held → IsTrue (is_some held) → snap kept s ≡ (s, Answer.SnapOpen)
open_is s None None h sure = absurd (true≢false (sym sure))
open_is s None (Some x) h sure = absurd h
open_is s (Some kept) None h sure = absurd h
open_is s (Some kept) (Some x) h sure = refl

none_is : (s : State) (kept : Option Snapshot) → AreKept kept None → snap_drop kept s ≡ (s, Answer.NoSnap)
none_is s None h = refl
none_is s (Some kept) h = absurd h

none_read : (g : Shape) (name : List ℕ) (offset count : ℕ) (s : State) (kept : Option Snapshot) → AreKept kept None → snap_read g name offset count kept s ≡ (s, Answer.NoSnap)
none_read g name offset count s None h = refl
none_read g name offset count s (Some kept) h = absurd h

pub none_open : (held : Option SnapshotOf) → is_some held ≡ false → held ≡ None
none_open None e = refl
none_open (Some x) e = absurd (true≢false e)

module _ (old : StoreOf) (is : IsStore old) where
  pub open_served : IsTrue (is_some old.kept.snapshot) → ServesRequest Request.Snap old Answer.SnapOpen (one_more old)
  open_served sure = left_served old is Request.Snap Answer.SnapOpen (λ s at. inl (sym (open_is s s.snapshot old.kept.snapshot at.snapshot sure)))

  pub none_dropped : old.kept.snapshot ≡ None → ServesRequest Request.SnapDrop old Answer.NoSnap (one_more old)
  none_dropped none = left_served old is Request.SnapDrop Answer.NoSnap (λ s at. inl (sym (none_is s s.snapshot (subst (AreKept s.snapshot) none at.snapshot))))

  pub none_read_of : (name : List ℕ) (offset count : ℕ) → old.kept.snapshot ≡ None → ServesRequest (Request.SnapRead name offset count) old Answer.NoSnap (one_more old)
  none_read_of name offset count none =
      left_served old is (Request.SnapRead name offset count) Answer.NoSnap (λ s at. inl (sym (none_read old.geometry name offset count s s.snapshot (subst (AreKept s.snapshot) none at.snapshot))))

  -- a store whose snapshot is dropped after it passed over a number
  pub later : IsStore (one_more old)
  later = (left_served old is Request.Scrub Answer.NoMemory (λ s at. inr (refl, refl))).kept

  pub then_dropped : (now : StoreOf) → ServesAll Request.SnapDrop (one_more old) (Answer.Replied Reply.Done) now → now ≡ dropped_one (one_more old) now → IsStore now → ServesRequest Request.SnapDrop old (Answer.Replied Reply.Done) now
  then_dropped now serves same kept = record { serves = λ s at. serves s (stands_more old is s at); same = same; kept = kept }
