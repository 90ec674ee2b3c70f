-- A read of the snapshot that is open is served.
use Rattle.std.proofs.Common.{◌≡◌, ◌⊎◌, ℕ, zero, suc, ◌+◌, ◌-◌, ◌*◌, ◌/◌, ◌^◌, ◌<◌, ◌≤◌, nat_lt, min, Bool, true, false, if◌then◌else◌, List, [], ◌∷◌, length, map, take, drop, find, Option, None, Some, option_map, unwrap_or, All, refl, sym, ap, subst, ◌∙◌, inl, inr, arith, true≢false}
use Rattle.std.specs.Prelude.{⊤}
use Rattle.std.proofs.lemmas.Bool.{ltb-true, ltb-false}
use Rattle.std.proofs.lemmas.Option.{same_Some}
use Rattle.std.proofs.lemmas.List.{length-map}
use Rattle.clay_grid.specs.Shape.{Shape, chunk_count, node_count, stripe_length}
use Rattle.clay_model.specs.Code.{stripes_of}
use Rattle.store_map.specs.Limits.{stripes_met}
use Rattle.store_map.specs.PlainMap.{Objects, bytes_of, read_at}
use Rattle.store_map.specs.declared.reply.Reply.{Reply}
use Rattle.store_map.specs.declared.reply.Reply.TheVariants as reply
use Rattle.store_core.specs.Agreement.{ActorToken}
use Rattle.store_core.specs.Directory.{Directory}
use Rattle.store_core.specs.Note.{Kind}
use Rattle.store_core.specs.Read.{part_of}
use Rattle.store_core.specs.Told.{Seen as CoreSeen}
use Rattle.run_laws.specs.State.{Sequel}
use Rattle.run_laws.specs.States.{open_parts}
use Rattle.run_laws.proofs.Opened.{opened_next}
use Rattle.version_seal.specs.Entry.{BookOf}
use Rattle.stripe_stamps.specs.SeenStripes.{seen_in}
use Rattle.call_steps.specs.declared.seen.Seen.{Seen}
use Rattle.gather_parts.specs.Gatherings.{owed}
use Rattle.gather_parts.specs.States.{state_in}
use Rattle.snapshot_view.specs.Met.{met_by}
use Rattle.snapshot_view.specs.Reads.{ReadOf, reply_by, reply_of, RepliesAs, Gathers}
use Rattle.snapshot_view.specs.Snapshots.{KeptOf, SnapshotOf, find_kept, stored_kept, StandsFor}
use Rattle.session_rules.specs.State.{Snapshot, State}
use Rattle.session_store.specs.declared.session_parts.Parts.{Parts}
use Rattle.session_store.specs.Inside.{store_of}
use Rattle.session_store.specs.Kept.{AreOfReaders, HoldTickets, IsStore, MayServe}
use Rattle.session_store.specs.Standing.{AreKept, IsKeptAs, StandsAt}
use Rattle.session_store.specs.Reading.{MayRead, job_from}
use Rattle.session_store.proofs.Bounds.{met_few, times}
use Rattle.session_store.proofs.ReadingKept.{Tied, tied, gathered_same}
use Rattle.store_core.specs.Gathering.{Part}
use Rattle.store_core.specs.Agreement.{Agrees}
use Rattle.std.specs.List.{AllByRecursion}
use Rattle.session_rules.specs.Readers.{tickets_of, kept_numbers}
use Rattle.session_rules.specs.AloneSnapshots.{reader_of, kept_stripe}
use Rattle.session_rules.specs.State.{Numbering}
use Rattle.session_store.specs.Standing.{placed_in}
use Rattle.store_map.specs.declared.placement.Placement.TheVariants as placement
use Rattle.std.specs.List.{range_with_len}
use Rattle.store_core.specs.Act.{Outcome}
use Rattle.store_core.specs.Told.{lost_in}
use Rattle.store_core.specs.Note.{note_of}
use Rattle.store_map.specs.declared.call.Call.TheVariants as call
use Rattle.store_map.proofs.LimitLaws.{stripes_met-start}
use Rattle.run_laws.proofs.Bytes.{count_stripes}
use Rattle.run_laws.proofs.SoundStripes.{pins_within}
use Rattle.run_laws.specs.State.{State as CallAt}
use Rattle.snapshot_view.specs.ReadSteps.{EndsAs}
use Rattle.snapshot_view.specs.declared.read_outcomes.Ending.{Ending}
use Rattle.snapshot_view.specs.declared.read_outcomes.Ending.TheVariants as ending
use Rattle.snapshot_view.specs.declared.read_outcomes.SnapOutcome.{SnapOutcome}
use Rattle.snapshot_view.specs.declared.read_outcomes.SnapOutcome.TheVariants as read
use Rattle.session_rules.specs.declared.session_answer.Missing.{Missing}
use Rattle.session_rules.specs.declared.session_answer.Answer.{Answer}
use Rattle.session_rules.specs.declared.request.Request.{Request}
use Rattle.session_rules.specs.Gathered.{Range, ranges_between, is_unavailable, unavailable}
use Rattle.session_rules.specs.Shortages.{IsServed}
use Rattle.session_rules.specs.Snapshots.{reply_unless, snap_read}
use Rattle.session_rules.specs.State.{numbers_of}
use Rattle.session_rules.specs.Alone.{AtWork}
use Rattle.session_rules.specs.Between.{IsBetween}
use Rattle.session_rules.specs.Answering.{ReadsTo, IsAnswered}
use Rattle.session_rules.specs.Reading.{begun, reading_steps}
use Rattle.session_rules.specs.AloneSnapshots.{kept_parts, gathered_as}
use Rattle.session_rules.proofs.KeptReadsServed.{snap_reads_are_answered}
use Rattle.session_store.specs.declared.places.SessionPlaces.{SessionPlaces}
use Rattle.session_store.specs.Places.{AreServers, seen_in as places_seen}
use Rattle.session_store.specs.Stored.{StoreOf, places_in}
use Rattle.session_store.specs.Standing.{readers, seats_at}
use Rattle.session_store.specs.Serving.{Serves}
use Rattle.session_store.specs.Kept.{ServesRequest}
use Rattle.session_store.specs.Answers.{IsUnavailable, AnswersRead}
use Rattle.session_store.specs.Reading.{stands_by, state_of_read, at_work, HasReadTo}
use Rattle.session_store.proofs.Numbers.{passed_over, fresh_later}
use Rattle.session_store.proofs.Outcomes.{back, back_in, back_as}
use Rattle.session_store.proofs.Seating.{seat_later, tickets_later}
use Rattle.session_store.proofs.Standing.{later_epochs}
use Rattle.store_map.specs.declared.actor.Actor.TheVariants as actor

-- ---- the snapshot that is open
pub holds_by : (d : Directory) (n : ℕ) (book : BookOf) (s : SnapshotOf) (tickets : Option (List ActorToken)) → HoldTickets d n book (Some s) tickets → AreOfReaders d s.tokens × (s.book ≡ book)
holds_by d n book s None (its, may, same, low) = (its, same)
holds_by d n book s (Some tokens) hold = absurd hold

pub record Open (found : Option Snapshot) (s : SnapshotOf) : Type 0 where
  pub kept : Snapshot
  pub there : found ≡ Some kept
  pub as_kept : IsKeptAs kept s

pub open_by : (found : Option Snapshot) (s : SnapshotOf) → AreKept found (Some s) → Open found s
open_by None s are = absurd are
open_by (Some kept) s are = record { kept = kept; there = refl; as_kept = are }

-- ---- what it replies
abbrev pub is_bytes : Option Reply → Bool
is_bytes (Some (reply.Bytes bytes)) = true
is_bytes other = false

pub record Found (offset : ℕ) (found : Option (List ℕ)) : Type 0 where
  pub bytes : List ℕ
  pub there : found ≡ Some bytes
  pub within : offset ≤ length bytes

module _ (offset count : ℕ) where
  found_by : (found : Option (List ℕ)) (given : List ℕ) → Some (reply.Bytes given) ≡ Some (read_at offset count found) → Found offset found
  found_by None given e = absurd (true≢false (ap is_bytes e))
  found_by (Some bytes) given e = by (nat_lt (length bytes) offset) refl e
    where
      by : (b : Bool) → nat_lt (length bytes) offset ≡ b → Some (reply.Bytes given) ≡ Some (if b then reply.OutRange else reply.Bytes (take count (drop offset bytes))) → Found offset (Some bytes)
      by true past e = absurd (true≢false (ap is_bytes e))
      by false past e = record { bytes = bytes; there = refl; within = ltb-false (length bytes) offset past }

-- the object that a snapshot has where the map has one
pub record HasKept (g : Shape) (found : Option KeptOf) (bytes : List ℕ) : Type 0 where
  pub object : KeptOf
  pub there : found ≡ Some object
  pub stored : stored_kept object ≡ (stripes_of g bytes, length bytes)

abbrev stored_or : (List (List ℕ) × ℕ) → Option (List (List ℕ) × ℕ) → List (List ℕ) × ℕ
stored_or other None = other
stored_or other (Some x) = x

pub has_kept : (g : Shape) (found : Option KeptOf) (in_map : Option (List ℕ)) (bytes : List ℕ) → option_map stored_kept found ≡ option_map (λ bytes. (stripes_of g bytes, length bytes)) in_map → in_map ≡ Some bytes → HasKept g found bytes
has_kept g None in_map bytes e is = absurd (none (e ∙ ap (option_map (λ (bytes : List ℕ). (stripes_of g bytes, length bytes))) is))
  where
    none : ◌≡◌ {A = Option (List (List ℕ) × ℕ)} None (Some (stripes_of g bytes, length bytes)) → ⊥
    none e = absurd (cc (e))
has_kept g (Some object) in_map bytes e is = record {
  object = object;
  there = refl;
  stored = ap (stored_or (stored_kept object)) (e ∙ ap (option_map (λ (bytes : List ℕ). (stripes_of g bytes, length bytes))) is);
}

-- ---- how it ended
none_by : (ended : Option Ending) (own given : List ℕ) → reply_by ended own ≡ Some (reply.Bytes given) → ended ≡ None
none_by None own given e = refl
none_by (Some ending.NoSuch) own given e = absurd (true≢false (sym (ap is_bytes e)))
none_by (Some ending.OutRange) own given e = absurd (true≢false (sym (ap is_bytes e)))
none_by (Some ending.NoMemory) own given e = absurd (cc (e))

refused_by : (ended : Option Ending) (own : List ℕ) (given : Reply) (at : CallAt) → is_bytes (Some given) ≡ false → reply_by ended own ≡ Some given → stands_by ended at ≡ CallAt.Ending (Outcome.Served 0)
refused_by None own given at other e = absurd (true≢false (ap is_bytes e ∙ other))
refused_by (Some ending.NoSuch) own given at other e = refl
refused_by (Some ending.OutRange) own given at other e = refl
refused_by (Some ending.NoMemory) own given at other e = absurd (cc (e))

abbrev missing_in_answer : Answer → List Missing
missing_in_answer (Answer.Unavailable stripe missing) = missing
missing_in_answer answer = []

-- what an outcome says of the answer, by the map's reply
abbrev Says : Reply → Outcome → Answer → Type 0
Says r (Outcome.Served point) a = a ≡ Answer.Replied r
Says r (Outcome.Unavailable stripe missing) a = a ≡ Answer.Unavailable stripe (map back missing)
Says r other a = ⊤

-- ---- it may run
take_few : {X : Type 0} (n : ℕ) (xs : List X) → length (take n xs) ≤ n
take_few zero xs = omega arith
take_few (suc n) [] = omega arith
take_few (suc n) (x ∷ xs) = let less : length (take n xs) ≤ n = take_few n xs in omega (arith, less)

module _ (parts : Parts) (may : MayServe (store_of parts)) (s : SnapshotOf) (is_open : parts.snapshot ≡ Some s) (name : List ℕ) (offset count : ℕ) (offset_fits : offset < 2 ^ 32) (count_fits : count < 2 ^ 32) (r : ReadOf)
    (replies : RepliesAs s name offset count r) (gathers : (kept : KeptOf) → find_kept name s.objects ≡ Some kept → offset ≤ kept.size → Gathers s.book.geometry kept offset count r) (its_book : r.gatherings.book ≡ s.book) where
  abbrev is : IsStore (store_of parts)
  is = may.0

  pub held : AreOfReaders parts.places.directory.core s.tokens × (s.book ≡ parts.places.book)
  held =
      holds_by parts.places.directory.core parts.served parts.places.book s (store_of parts).kept.tickets
      (subst (λ (found : Option SnapshotOf). HoldTickets parts.places.directory.core parts.served parts.places.book found (store_of parts).kept.tickets) is_open is.tickets)

  pub one_open : (state : State) → StandsAt (store_of parts) state → Open state.snapshot s
  one_open state at = open_by state.snapshot s (subst (AreKept state.snapshot) is_open at.snapshot)

  abbrev kept : Snapshot
  kept = (one_open is.state is.stands).kept

  abbrev size_by : Option KeptOf → ℕ
  size_by None = 0
  size_by (Some object) = object.size

  abbrev stripes_by : Option KeptOf → List Seen
  stripes_by None = []
  stripes_by (Some object) = object.stripes

  -- where it wasn't refused, the object is there
  going : (objects : Objects) → StandsFor s objects → r.ended ≡ None → (found : Found offset (bytes_of name objects)) × HasKept s.book.geometry (find_kept name s.objects) found.bytes
  going objects stands none =
      let found : Found offset (bytes_of name objects) = found_by offset count (bytes_of name objects) (owed r.gatherings) (sym (ap (λ ended. reply_by ended (owed r.gatherings)) none) ∙ replies objects stands) in
      (found, has_kept s.book.geometry (find_kept name s.objects) (bytes_of name objects) found.bytes (stands name) found.there)

  pub may_read : MayRead r parts.places
  may_read = record {
    places = record { free = is.free.1; book = is.book; servers = is.servers };
    book = its_book ∙ held.1;
    start = offset;
    end = end;
    stripes = stripes;
    begun = λ none. subst (λ (b : BookOf). state_in r.gatherings (Sequel.Serve 0) ≡ open_parts b.geometry (map (part_of b.geometry offset end) stripes) (Sequel.Serve 0)) held.1 (begun none);
    few = few;
  }
    where
      g : Shape
      g = s.book.geometry

      end : ℕ
      end = min (offset + count) (size_by (find_kept name s.objects))

      stripes : List CoreSeen
      stripes = map seen_in (met_by (stripe_length s.book.geometry) offset end (stripes_by (find_kept name s.objects)))

      begun : r.ended ≡ None → state_in r.gatherings (Sequel.Serve 0) ≡ open_parts s.book.geometry (map (part_of s.book.geometry offset end) stripes) (Sequel.Serve 0)
      begun none =
          let its = going kept.objects (one_open is.state is.stands).as_kept.bytes none in
          let size : its.1.object.size ≡ length its.0.bytes = ap (λ (x : List (List ℕ) × ℕ). x.1) its.1.stored in
          let within : offset ≤ length its.0.bytes = its.0.within in
          let less : offset ≤ its.1.object.size = subst (λ n. offset ≤ n) (sym size) within in
          gathers its.1.object its.1.there less (Sequel.Serve 0)
          ∙ opened_next s.book.geometry Kind.Get (job_from offset) [] (map (part_of s.book.geometry offset (min (offset + count) its.1.object.size)) (map seen_in (met_by (stripe_length s.book.geometry) offset (min (offset + count) its.1.object.size) its.1.object.stripes))) (Sequel.Serve 0)
          ∙ ap (λ (found : Option KeptOf). open_parts s.book.geometry (map (part_of s.book.geometry offset (min (offset + count) (size_by found))) (map seen_in (met_by (stripe_length s.book.geometry) offset (min (offset + count) (size_by found)) (stripes_by found)))) (Sequel.Serve 0)) (sym its.1.there)

      few : 3 * chunk_count parts.places.book.geometry * length stripes + 1 < 2 ^ 62
      few =
          let some : 0 < stripe_length s.book.geometry = subst (λ (b : BookOf). 0 < stripe_length b.geometry) (sym held.1) is.wide in
          let met : ℕ = stripes_met (stripe_length s.book.geometry) offset (end - offset) in
          let many : length stripes ≡ length (met_by (stripe_length s.book.geometry) offset end (stripes_by (find_kept name s.objects))) = length-map (met_by (stripe_length s.book.geometry) offset end (stripes_by (find_kept name s.objects))) seen_in in
          let taken : length (met_by (stripe_length s.book.geometry) offset end (stripes_by (find_kept name s.objects))) ≤ met = take_few met (drop _ (stripes_by (find_kept name s.objects))) in
          let bound : met ≤ offset + (end - offset) + 1 = met_few (stripe_length s.book.geometry) offset (end - offset) some in
          let last : end ≤ offset + count = least (offset + count) (size_by (find_kept name s.objects)) in
          let nodes : node_count parts.places.book.geometry ≤ 24 = is.code.nodes in
          let chunks : chunk_count parts.places.book.geometry ≤ node_count parts.places.book.geometry = is.code.chunks in
          let n : ℕ = chunk_count parts.places.book.geometry in
          let k : ℕ = length stripes in
          let e : ℕ = end in
          let low : k ≤ 17179869184 = omega (arith, many, taken, bound, last, offset_fits, count_fits) in
          let product : (3 * n) * k ≤ 1236950581248 = times (3 * n) k (omega (arith, nodes, chunks)) low in
          let x : ℕ = (3 * n) * k in
          omega (arith, product)
        where
          least : (n k : ℕ) → min n k ≤ n
          least n k = omega arith

  -- ---- it gathers what the session says
  module _ (state : State) (at : StandsAt (store_of parts) state) where
    abbrev one : Open state.snapshot s
    one = one_open state at

    abbrev found : Option (List ℕ)
    found = bytes_of name one.kept.objects

    abbrev answered_by : Reply
    answered_by = read_at offset count found

    abbrev size : ℕ
    size = length (unwrap_or found [])

    abbrev gathers_in : Shape → List Part
    gathers_in g = kept_parts g readers parts.places.directory.core one.kept name offset count

    wide : 0 < stripe_length s.book.geometry
    wide = subst (λ (b : BookOf). 0 < stripe_length b.geometry) (sym held.1) is.wide

    object_gathers : (bytes : List ℕ) → found ≡ Some bytes → (object : KeptOf) → find_kept name s.objects ≡ Some object → stored_kept object ≡ (stripes_of s.book.geometry bytes, length bytes) →
        map (part_of s.book.geometry offset (min (offset + count) object.size)) (map seen_in (met_by (stripe_length s.book.geometry) offset (min (offset + count) object.size) object.stripes)) ≡ gathers_in s.book.geometry
    object_gathers bytes there object is_object stored =
        ap (λ n. map (part_of s.book.geometry offset (min (offset + count) n)) (map seen_in (met_by (stripe_length s.book.geometry) offset (min (offset + count) n) object.stripes))) long
        ∙ gathered_same parts.places.directory.core at.stands at.between.snapshot.number (seats_at parts.served).looks one.kept name s.book.geometry readers offset count (min (offset + count) size) object its within
      where
        long : object.size ≡ size
        long = ap (λ (x : List (List ℕ) × ℕ). x.1) stored ∙ ap (λ (f : Option (List ℕ)). length (unwrap_or f [])) (sym there)

        its : Tied parts.places.directory.core at.stands at.between.snapshot.number (seats_at parts.served).looks one.kept name (reader_of name readers one.kept.numbers) (bytes_of name one.kept.numbers) object
        its =
            tied parts.places.directory.core at.stands at.between.snapshot.number (seats_at parts.served).looks one.kept name readers one.kept.numbers s.objects s.tokens one.as_kept.names held.0.actors held.0.agrees.each one.as_kept.pins
            (placed_same s.objects one.kept.numbers one.as_kept.placed)
            (subst (λ (snapshot : Option Snapshot). AllByRecursion (Agrees parts.places.directory.core) (tickets_of at.stands at.between.snapshot.number (seats_at parts.served).looks readers (kept_numbers snapshot))) one.there at.between.snapshot.tickets)
            object is_object
          where
            placed_same : (objects : List KeptOf) (numbers : Numbering) →
                map (λ (object : KeptOf). map (λ (seen : Seen). seen.placed.items) object.stripes) objects ≡ map (λ object. map (λ number. map (λ epoch. placement.At epoch) (placed_in one.kept number)) object.1) numbers →
                map (λ (object : KeptOf). map (λ (seen : Seen). seen.placed.items) object.stripes) objects ≡ map (λ object. map (λ number. map (λ epoch. placement.At epoch) (placed_in one.kept number)) object.1) numbers
            placed_same objects numbers e = e

        many : length object.stripes ≡ stripes_met (stripe_length s.book.geometry) 0 size
        many =
            sym (length-map object.stripes (λ (seen : Seen). seen.stamp.content)) ∙ ap (λ (x : List (List ℕ) × ℕ). length x.0) stored
            ∙ count_stripes (stripe_length s.book.geometry) ((length bytes + stripe_length s.book.geometry - 1) / stripe_length s.book.geometry) bytes
            ∙ sym (stripes_met-start (stripe_length s.book.geometry) (length bytes) wide)
            ∙ ap (λ (f : Option (List ℕ)). stripes_met (stripe_length s.book.geometry) 0 (length (unwrap_or f []))) (sym there)

        within : All (λ i. i < length object.stripes) (range_with_len (offset / stripe_length s.book.geometry) (stripes_met (stripe_length s.book.geometry) offset (min (offset + count) size - offset)))
        within =
            subst (λ n. All (λ i. i < n) (range_with_len (offset / stripe_length s.book.geometry) (stripes_met (stripe_length s.book.geometry) offset (min (offset + count) size - offset)))) (sym many)
            (pins_within s.book.geometry wide Kind.ReadAt (note_of (call.ReadAt name offset count)) size)

    -- one that is refused gathers nothing
    nothing_by : (f : Option (List ℕ)) → is_bytes (Some (read_at offset count f)) ≡ false → min (offset + count) (length (unwrap_or f [])) - offset ≡ 0
    nothing_by None e = omega arith
    nothing_by (Some bytes) e = by (nat_lt (length bytes) offset) refl e
      where
        by : (b : Bool) → nat_lt (length bytes) offset ≡ b → is_bytes (Some (if b then reply.OutRange else reply.Bytes (take count (drop offset bytes)))) ≡ false → min (offset + count) (length bytes) - offset ≡ 0
        by true past e = let less : length bytes < offset = ltb-true (length bytes) offset past in let n : ℕ = length bytes in omega (arith, less)
        by false past e = absurd (true≢false e)

    nothing : is_bytes (Some answered_by) ≡ false → gathers_in s.book.geometry ≡ []
    nothing refused =
        ap (λ n. map (λ (range : Range). let part : Part = record { seen = kept_stripe s.book.geometry readers parts.places.directory.core one.kept name offset count range.stripe; start = range.start; end = range.end } in part)
        (map (λ i. let range : Range = record { stripe = i; start = offset - i * stripe_length s.book.geometry; end = min (min (offset + count) size - i * stripe_length s.book.geometry) (stripe_length s.book.geometry) } in range)
        (range_with_len (offset / stripe_length s.book.geometry) (stripes_met (stripe_length s.book.geometry) offset n)))) (nothing_by found refused)

    begins_by : (ended : Option Ending) → r.ended ≡ ended → open_parts s.book.geometry (gathers_in s.book.geometry) (Sequel.Serve 0) ≡ stands_by ended (state_in r.gatherings (Sequel.Serve 0))
    begins_by None e =
        let its = going one.kept.objects one.as_kept.bytes e in
        let within : offset ≤ length its.0.bytes = its.0.within in
        let long : its.1.object.size ≡ length its.0.bytes = ap (λ (x : List (List ℕ) × ℕ). x.1) its.1.stored in
        let less : offset ≤ its.1.object.size = subst (λ n. offset ≤ n) (sym long) within in
        ap (λ l. open_parts s.book.geometry l (Sequel.Serve 0)) (sym (object_gathers its.0.bytes its.0.there its.1.object its.1.there its.1.stored))
        ∙ sym (opened_next s.book.geometry Kind.Get (job_from offset) [] (map (part_of s.book.geometry offset (min (offset + count) its.1.object.size)) (map seen_in (met_by (stripe_length s.book.geometry) offset (min (offset + count) its.1.object.size) its.1.object.stripes))) (Sequel.Serve 0))
        ∙ sym (gathers its.1.object its.1.there less (Sequel.Serve 0))
    begins_by (Some ending.NoSuch) e =
        ap (λ l. open_parts s.book.geometry l (Sequel.Serve 0))
        (nothing (ap is_bytes (sym (replies one.kept.objects one.as_kept.bytes) ∙ ap (λ ended. reply_by ended (owed r.gatherings)) e)))
    begins_by (Some ending.OutRange) e =
        ap (λ l. open_parts s.book.geometry l (Sequel.Serve 0))
        (nothing (ap is_bytes (sym (replies one.kept.objects one.as_kept.bytes) ∙ ap (λ ended. reply_by ended (owed r.gatherings)) e)))
    begins_by (Some ending.NoMemory) e = absurd (none (sym (ap (λ ended. reply_by ended (owed r.gatherings)) e) ∙ replies one.kept.objects one.as_kept.bytes))
      where
        none : ◌≡◌ {A = Option Reply} None (Some answered_by) → ⊥
        none e = absurd (cc (e))

    abbrev g : Shape
    g = parts.places.book.geometry

    begins : begun g (gathers_in g) (places_seen parts.places) ≡ at_work r parts.places
    begins = subst (λ (b : BookOf). begun b.geometry (gathers_in b.geometry) (places_seen parts.places) ≡ at_work r parts.places) held.1
        (ap (λ (where_it_is : CallAt). let w : AtWork = record { call = record { pairs = []; at = where_it_is }; places = places_seen parts.places } in w) (begins_by r.ended refl))

    -- ---- its end
    module _ (last : ReadOf) (now : SessionPlaces) (ran : HasReadTo r parts.places last now) where
      abbrev after : SessionPlaces
      after = record (parts.places) { servers = now.servers }

      abbrev request : Request
      request = Request.SnapRead name offset count

      abbrev most : ℕ
      most = (store_of parts).max

      now_is : now ≡ after
      now_is = λ i. record { book = ran.same.book i; directory = ran.directory i; servers = now.servers }

      reads_to : (outcome : Outcome) → state_of_read last ≡ CallAt.Ending outcome → ReadsTo g readers one.kept name offset count (places_in (store_of parts)) outcome (places_seen after)
      reads_to outcome e = record {
        shortages = ran.shortages;
        ends = ap (reading_steps g ran.shortages) begins ∙ ran.run ∙ (λ i. record { call = record { pairs = []; at = e i }; places = places_seen (now_is i) });
      }

      abbrev whole : Option Range → Answer
      whole f = reply_unless (option_map (unavailable g state one.kept.stripes (numbers_of name one.kept.numbers)) f) answered_by

      abbrev Answers : Option Range → Answer → Type 0
      Answers f x = (x ≡ whole f) ⊎ (x ≡ Answer.NoMemory)

      says : (f : Option Range) (x : Answer) → Answers f x → Says answered_by (gathered_as x) (whole f)
      says None x (inl is) = subst (λ a. Says answered_by (gathered_as a) (whole None)) (sym is) refl
      says (Some range) x (inl is) = subst (λ a. Says answered_by (gathered_as a) (whole (Some range))) (sym is) (ap (λ l. Answer.Unavailable range.stripe l) (sym (back_as (missing_in_answer (whole (Some range))))))
      says f x (inr none) = subst (λ a. Says answered_by (gathered_as a) (whole f)) (sym none) tt

      -- the outcome that it came to, and what is answered then
      record Ends (answer : Answer) : Type 0 where
        outcome : Outcome
        at_end : state_of_read last ≡ CallAt.Ending outcome
        fits : (f : Option Range) → Says answered_by outcome (whole f) → (answer ≡ Answer.NoMemory) ⊎ (answer ≡ whole f)

      replies_so : (given : Reply) → reply_of last ≡ Some given → answered_by ≡ given
      replies_so given e = same_Some answered_by given (sym (replies one.kept.objects one.as_kept.bytes) ∙ ran.reply given e)

      refuses : (given : Reply) (answer : Answer) → is_bytes (Some given) ≡ false → reply_of last ≡ Some given → answer ≡ Answer.Replied given → Ends answer
      refuses given answer other e answers = record {
        outcome = Outcome.Served 0;
        at_end = refused_by last.ended (owed last.gatherings) given (state_in last.gatherings (Sequel.Serve 0)) other e;
        fits = λ f says. inr (answers ∙ ap Answer.Replied (sym (replies_so given e)) ∙ sym says);
      }

      ends_by : (how : SnapOutcome) (answer : Answer) → EndsAs last how → AnswersRead how answer → Ends answer
      ends_by (read.Bytes bytes) answer (e, came) answers = record {
        outcome = Outcome.Served 0;
        at_end = ap (λ (ended : Option Ending). stands_by ended (state_in last.gatherings (Sequel.Serve 0))) (none_by last.ended (owed last.gatherings) bytes.items e) ∙ came (Sequel.Serve 0);
        fits = λ f says. inr (answers ∙ ap Answer.Replied (sym (replies_so (reply.Bytes bytes.items) e)) ∙ sym says);
      }
      ends_by read.NoSuch answer e answers = refuses reply.NoSuch answer refl e answers
      ends_by read.OutRange answer e answers = refuses reply.OutRange answer refl e answers
      ends_by (read.Unavailable stripe missing) answer (none, to) answers = record {
        outcome = Outcome.Unavailable stripe (map lost_in missing.items);
        at_end = ap (λ (ended : Option Ending). stands_by ended (state_in last.gatherings (Sequel.Serve 0))) none ∙ to (Sequel.Serve 0);
        fits = λ f says. by answers f says;
      }
        where
          by : IsUnavailable stripe missing.items answer → (f : Option Range) → whole f ≡ Answer.Unavailable stripe (map back (map lost_in missing.items)) → (answer ≡ Answer.NoMemory) ⊎ (answer ≡ whole f)
          by (inl no_room) f says = inl no_room
          by (inr same) f says = inr (same ∙ ap (λ l. Answer.Unavailable stripe l) (sym (back_in missing.items)) ∙ sym says)
      ends_by read.NoMemory answer e answers = record { outcome = Outcome.NoMemory; at_end = by e; fits = λ f says. inl answers }
        where
          by : (last.ended ≡ Some ending.NoMemory) ⊎ ((last.ended ≡ None) × ((after : Sequel) → state_in last.gatherings after ≡ CallAt.Ending Outcome.NoMemory)) → state_of_read last ≡ CallAt.Ending Outcome.NoMemory
          by (inl ended) = ap (λ (ended : Option Ending). stands_by ended (state_in last.gatherings (Sequel.Serve 0))) ended
          by (inr (none, to)) = ap (λ (ended : Option Ending). stands_by ended (state_in last.gatherings (Sequel.Serve 0))) none ∙ to (Sequel.Serve 0)

      abbrev store_after : StoreOf
      store_after = store_of (record parts { places = after; served = parts.served + 1 })

      same_state : (x : State × Answer) → IsServed g most request state x → x.0 ≡ state
      same_state x (inl e) = ap (λ (y : State × Answer). y.0) (e ∙ ap (λ f. snap_read g name offset count f state) one.there)
      same_state x (inr (no_room, leaves)) = leaves

      stands_after : IsAnswered at.calls g most (seats_at parts.served) state request (places_seen after) → StandsAt store_after state
      stands_after x = record {
        calls = at.calls;
        stands = x.stands;
        between =
            passed_over at.calls g most (seats_at parts.served) (parts.served + 1) (parts.served + 1) (parts.served + 1) x.stands (places_seen after) state (omega arith) (omega arith) (omega arith)
            (subst (IsBetween at.calls g most (seats_at parts.served) x.stands (places_seen after)) (same_state x.served x.allowed) x.between);
        contents = at.contents;
        fresh = fresh_later at.calls parts.served at.fresh;
        next = at.next;
        epochs = later_epochs state.epochs state.epochs parts.served refl at.epochs;
        snapshot = at.snapshot;
      }

      pub serves_here : (how : SnapOutcome) (answer : Answer) → EndsAs last how → AnswersRead how answer → Serves request state answer store_after
      serves_here how answer e answers = record { after = state; served = served; stands = stands_after answered.0 }
        where
          ended : Ends answer
          ended = ends_by how answer e answers

          answered : (x : IsAnswered at.calls g most (seats_at parts.served) state request (places_seen after)) × (ended.outcome ≡ gathered_as x.served.1)
          answered = snap_reads_are_answered at.calls g most (seats_at parts.served) at.stands (places_in (store_of parts)) (places_seen after) state one.kept name offset count ended.outcome is.wide at.between one.there (reads_to ended.outcome ended.at_end)

          first : Option Range
          first = find (is_unavailable g state one.kept.stripes (numbers_of name one.kept.numbers)) (ranges_between g offset (min (offset + count) size))

          choice : IsServed g most request state answered.0.served → Answers first answered.0.served.1
          choice (inl is) = inl (ap (λ (y : State × Answer). y.1) (is ∙ ap (λ f. snap_read g name offset count f state) one.there))
          choice (inr (no_room, leaves)) = inr no_room

          by : (answer ≡ Answer.NoMemory) ⊎ (answer ≡ whole first) → IsServed g most request state (state, answer)
          by (inl no_room) = inr (no_room, refl)
          by (inr same) = inl ((λ i. (state, same i)) ∙ ap (λ f. snap_read g name offset count f state) (sym one.there))

          served : IsServed g most request state (state, answer)
          served = by (ended.fits first (subst (λ o. Says answered_by o (whole first)) (sym answered.1) (says first answered.0.served.1 (choice answered.0.allowed))))

  -- ---- from every state
  module _ (last : ReadOf) (now : SessionPlaces) (ran : HasReadTo r parts.places last now) where
    pub read_is_served : (how : SnapOutcome) (answer : Answer) → EndsAs last how → AnswersRead how answer →
        ServesRequest (Request.SnapRead name offset count) (store_of parts) answer (store_of (record parts { places = now; served = parts.served + 1 }))
    read_is_served how answer e answers =
        subst (λ (p : SessionPlaces). ServesRequest (Request.SnapRead name offset count) (store_of parts) answer (store_of (record parts { places = p; served = parts.served + 1 }))) (sym now_here)
        (record { serves = λ state at. serves_here state at last now ran how answer e answers; same = refl; kept = kept_after })
      where
        now_here : now ≡ record (parts.places) { servers = now.servers }
        now_here = λ i. record { book = ran.same.book i; directory = ran.directory i; servers = now.servers }

        kept_after : IsStore (store_of (record parts { places = record (parts.places) { servers = now.servers }; served = parts.served + 1 }))
        kept_after = record {
          code = is.code;
          wide = is.wide;
          free = is.free;
          book = is.book;
          most = is.most;
          small = is.small;
          servers = subst (λ (b : BookOf). AreServers b now.servers.items) ran.same.book ran.same.places.servers;
          client = seat_later parts.places.directory.core (actor.Client 0) parts.served (parts.served + 1) parts.client (omega arith) is.client;
          repairer = seat_later parts.places.directory.core (actor.Repairer 0) parts.served (parts.served + 1) parts.repairer (omega arith) is.repairer;
          healer = is.healer;
          tickets = tickets_later parts.places.directory.core parts.served (parts.served + 1) parts.places.book (omega arith) parts.snapshot (store_of parts).kept.tickets is.tickets;
          state = (serves_here is.state is.stands last now ran how answer e answers).after;
          stands = (serves_here is.state is.stands last now ran how answer e answers).stands;
        }
