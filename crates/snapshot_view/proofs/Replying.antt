-- What a read of a snapshot replies.
use Rattle.std.proofs.Common.{◌≡◌, ℕ, ◌+◌, ◌-◌, ◌/◌, ◌<◌, ◌≤◌, min, true, cond, List, length, map, get_or, take, drop, bytes_eq, Option, None, Some, option_map, slice_get, All, refl, sym, ap, subst, ◌∙◌, arith, length-drop}
use Rattle.std.proofs.lemmas.Bool.{lt-ltb, le-ltb}
use Rattle.std.proofs.lemmas.Option.{same_Some, none-some}
use Rattle.std.proofs.lemmas.List.{take_min, length-map, length-take, get_or-map, get_or-take, get_or-drop}
use Rattle.clay_grid.specs.Shape.{Shape, chunk_count, stripe_length}
use Rattle.clay_model.specs.Code.{stripes_of}
use Rattle.store_map.specs.Limits.{stripes_met}
use Rattle.store_map.specs.PlainMap.{bytes_of, read_at}
use Rattle.store_map.specs.declared.reply.Reply.{Reply}
use Rattle.store_map.specs.declared.reply.Reply.TheVariants as reply
use Rattle.store_core.specs.Read.{part_of}
use Rattle.store_core.specs.Told.{Seen as CoreSeen}
use Rattle.run_laws.proofs.SoundLists.{at_all, found_at}
use Rattle.run_laws.proofs.KeptDraw.{map_map}
use Rattle.run_laws.proofs.Ranges.{range_of}
use Rattle.run_laws.specs.State.{Sequel}
use Rattle.run_laws.specs.States.{parts_state, open_state}
use Rattle.version_seal.specs.Entry.{BookOf, StampOf}
use Rattle.call_steps.specs.declared.seen.Seen.{Seen}
use Rattle.stripe_stamps.specs.SeenStripes.{seen_in}
use Rattle.gather_parts.specs.Wanted.{Wanted, wanted_of, IsPinned, bytes_of as wanted_bytes}
use Rattle.gather_parts.specs.Gatherings.{new_gatherings, begun, owed}
use Rattle.gather_parts.specs.States.{state_in}
use Rattle.snapshot_view.specs.Snapshots.{KeptOf, SnapshotOf, find_kept, stored_kept}
use Rattle.snapshot_view.specs.Met.{met_by, told_seen}
use Rattle.snapshot_view.specs.Inside.{IsOfBook}
use Rattle.snapshot_view.specs.Reads.{ReadOf, reply_by, reply_of, RepliesAs, RepliesFor, Gathers}
use Rattle.snapshot_view.specs.declared.read_outcomes.Ending.TheVariants as ending
use Rattle.snapshot_view.proofs.Ranging.{range_wanted}

-- what is wanted of stripes, by what they tell
abbrev wanted_told : Shape → ℕ → ℕ → CoreSeen × StampOf → Wanted
wanted_told g start end told = record { part = part_of g start end told.0; stamp = told.1 }

pub wanted_same : (g : Shape) (start end : ℕ) (copies stripes : List Seen) → map told_seen copies ≡ map told_seen stripes → map (wanted_of g start end) copies ≡ map (wanted_of g start end) stripes
wanted_same g start end copies stripes e =
    sym (map_map (wanted_told g start end) told_seen copies) ∙ ap (map (wanted_told g start end)) e ∙ map_map (wanted_told g start end) told_seen stripes

pub seen_same : (copies stripes : List Seen) → map told_seen copies ≡ map told_seen stripes → map seen_in copies ≡ map seen_in stripes
seen_same copies stripes e =
    sym (map_map (λ (told : CoreSeen × StampOf). told.0) told_seen copies) ∙ ap (map (λ (told : CoreSeen × StampOf). told.0)) e ∙ map_map (λ (told : CoreSeen × StampOf). told.0) told_seen stripes

-- a read that begins behind the end, and one that doesn't
read_past : (offset count : ℕ) (bytes : List ℕ) → length bytes < offset → read_at offset count (Some bytes) ≡ reply.OutRange
read_past offset count bytes past = ap (λ b. cond {A = Reply} b reply.OutRange (reply.Bytes (take count (drop offset bytes)))) (lt-ltb (length bytes) offset past)

read_within : (offset count : ℕ) (bytes : List ℕ) → offset ≤ length bytes → read_at offset count (Some bytes) ≡ reply.Bytes (take count (drop offset bytes))
read_within offset count bytes within = ap (λ b. cond {A = Reply} b reply.OutRange (reply.Bytes (take count (drop offset bytes)))) (le-ltb (length bytes) offset within)

-- its bytes by their start and their end
range_read : (offset count : ℕ) (bytes : List ℕ) → range_of bytes offset (min (offset + count) (length bytes)) ≡ take count (drop offset bytes)
range_read offset count bytes =
    ap (λ n. take n (drop offset bytes)) (counts (length bytes) (length (drop offset bytes)) (length-drop offset bytes)) ∙ take_min count (drop offset bytes)
  where
    counts : (m l : ℕ) → l ≡ m - offset → min (offset + count) m - offset ≡ min count l
    counts m l e = omega (arith, e)

-- ---- of an object
pub out_of_range : (g : Shape) (kept : KeptOf) (offset count : ℕ) (r : ReadOf) → r.ended ≡ Some ending.OutRange → kept.size < offset → RepliesFor g kept offset count r
out_of_range g kept offset count r ended past bytes stored =
    ap (λ e. reply_by e (owed r.gatherings)) ended
    ∙ ap Some (sym (read_past offset count bytes (subst (λ n. n < offset) (ap (λ (p : List (List ℕ) × ℕ). p.1) stored) past)))

module _ (book : BookOf) (some : 0 < stripe_length book.geometry) (kept : KeptOf) (its : IsOfBook book kept) (offset count : ℕ) (within : offset ≤ kept.size) (copies : List Seen) where
  abbrev g : Shape
  g = book.geometry

  abbrev end : ℕ
  end = min (offset + count) kept.size

  module _ (same : map told_seen copies ≡ map told_seen (met_by (stripe_length g) offset end kept.stripes)) (r : ReadOf) where
    pub in_range : r.ended ≡ None → r.gatherings ≡ begun (new_gatherings book) (map (wanted_of g offset end) copies) → RepliesFor g kept offset count r
    in_range going begins bytes stored =
        (λ i. reply_by (going i) (owed (begins i)))
        ∙ ap (λ l. Some (reply.Bytes (wanted_bytes l))) (wanted_same g offset end copies (met_by (stripe_length g) offset end kept.stripes) same)
        ∙ ap (λ l. Some (reply.Bytes l))
        (range_wanted g some bytes kept.stripes its.numbered (ap (λ (p : List (List ℕ) × ℕ). p.0) stored) offset end (long (length bytes) sizes) (after kept.size within)
        ∙ ap (λ n. range_of bytes offset (min (offset + count) n)) sizes ∙ range_read offset count bytes)
        ∙ ap Some (sym (read_within offset count bytes (subst (λ n. offset ≤ n) sizes within)))
      where
        sizes : kept.size ≡ length bytes
        sizes = ap (λ (p : List (List ℕ) × ℕ). p.1) stored

        long : (n : ℕ) → kept.size ≡ n → end ≤ n
        long n e = omega (arith, e)

        after : (n : ℕ) → offset ≤ n → offset ≤ min (offset + count) n
        after n h = omega (arith, h)

    pub gathers : ((after : Sequel) → state_in r.gatherings after ≡ open_state g (parts_state (map (part_of g offset end) (map seen_in copies)) after)) → Gathers g kept offset count r
    gathers state after = state after ∙ ap (λ l. open_state g (parts_state (map (part_of g offset end) l) after)) (seen_same copies (met_by (stripe_length g) offset end kept.stripes) same)

-- ---- of a snapshot
module _ (s : SnapshotOf) (name : List ℕ) (offset count : ℕ) (r : ReadOf) where
  abbrev stored : List ℕ → List (List ℕ) × ℕ
  stored bytes = (stripes_of s.book.geometry bytes, length bytes)

  pub no_such : r.ended ≡ Some ending.NoSuch → find_kept name s.objects ≡ None → RepliesAs s name offset count r
  no_such ended missing objects stands = ap (λ e. reply_by e (owed r.gatherings)) ended ∙ by (bytes_of name objects) (sym (ap (option_map stored_kept) missing) ∙ stands name)
    where
      by : (found : Option (List ℕ)) → None ≡ option_map stored found → Some reply.NoSuch ≡ Some (read_at offset count found)
      by None e = refl
      by (Some bytes) e = absurd (none-some (stored bytes) e)

  pub such : (kept : KeptOf) → find_kept name s.objects ≡ Some kept → RepliesFor s.book.geometry kept offset count r → RepliesAs s name offset count r
  such kept found replies objects stands = by (bytes_of name objects) (sym (ap (option_map stored_kept) found) ∙ stands name)
    where
      by : (there : Option (List ℕ)) → Some (stored_kept kept) ≡ option_map stored there → reply_of r ≡ Some (read_at offset count there)
      by None e = absurd (none-some (stored_kept kept) (sym e))
      by (Some bytes) e = replies bytes (same_Some (stored_kept kept) (stored bytes) e)

-- an object that is found is of the book
pub found_of_book : (book : BookOf) (objects : List KeptOf) (name : List ℕ) (kept : KeptOf) → All (IsOfBook book) objects → find_kept name objects ≡ Some kept → IsOfBook book kept
found_of_book book objects name kept all found =
    let place : (i : ℕ) × (slice_get objects i ≡ Some kept) × (bytes_eq name kept.name ≡ true) = found_at (λ (k : KeptOf). bytes_eq name k.name) objects kept found in
    at_all (IsOfBook book) objects place.0 kept all place.1

-- ---- of copies
-- where a stripe is of the book, by what it tells
abbrev IsToldPinned : BookOf → CoreSeen × StampOf → Type 0
IsToldPinned book told = (length told.0.placed ≡ chunk_count book.geometry) × (told.1.home ≡ book.home)

pub pinned_copies : (book : BookOf) (copies stripes : List Seen) → map told_seen copies ≡ map told_seen stripes → All (IsPinned book) stripes → All (IsPinned book) copies
pinned_copies book copies stripes e all k x less =
    let count : length copies ≡ length stripes = sym (length-map copies told_seen) ∙ ap length e ∙ length-map stripes told_seen in
    let there : k < length stripes = subst (λ n. k < n) count less in
    let one : IsPinned book (get_or stripes k x) = all k x there in
    let same : told_seen (get_or stripes k x) ≡ told_seen (get_or copies k x) =
    sym (get_or-map told_seen stripes k x (told_seen x) there) ∙ ap (λ l. get_or l k (told_seen x)) (sym e) ∙ get_or-map told_seen copies k x (told_seen x) less in
    let its : IsToldPinned book (told_seen (get_or copies k x)) = subst (IsToldPinned book) same (one.placed, one.home) in
    record { placed = its.0; home = its.1 }

-- so are those that meet a range
pub pinned_met : (book : BookOf) (stripe_len start end : ℕ) (stripes : List Seen) → All (IsPinned book) stripes → All (IsPinned book) (met_by stripe_len start end stripes)
pinned_met book stripe_len start end stripes all k x less =
    subst (IsPinned book) (sym (get_or-take count (drop first stripes) k x (below count (length (drop first stripes)) counted) ∙ get_or-drop first stripes k x))
    (all (first + k) x (within first (length stripes) (length (drop first stripes)) (length-drop first stripes) (below-2 count (length (drop first stripes)) counted)))
  where
    first : ℕ
    first = start / stripe_len

    count : ℕ
    count = stripes_met stripe_len start (end - start)

    counted : k < min count (length (drop first stripes))
    counted = subst (λ n. k < n) (length-take count (drop first stripes)) less

    below : (a b : ℕ) → k < min a b → k < a
    below a b h = omega (arith, h)

    below-2 : (a b : ℕ) → k < min a b → k < b
    below-2 a b h = omega (arith, h)

    within : (a n m : ℕ) → m ≡ n - a → k < m → a + k < n
    within a n m e h = omega (arith, e, h)
