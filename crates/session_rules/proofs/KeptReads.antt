-- A read of the snapshot that is open: it gathers what its looks pinned, as the session answers.
use Rattle.std.proofs.Common.{◌≡◌, ◌≢◌, ℕ, zero, suc, ◌+◌, ◌*◌, ◌-◌, ◌/◌, ◌<◌, ◌≤◌, nat_lt, min, Bool, true, false, not, ◌&&◌, cond, List, [], ◌∷◌, length, map, get_or, take, drop, find, replicate, bytes_eq, Option, None, Some, option_map, unwrap_or, refl, sym, ap, subst, ◌∙◌, arith, if◌then◌else◌, length-drop}
use Rattle.std.specs.Bool.{⊤}
use Rattle.std.specs.List.{AllByRecursion, enumerate_from, list_any, concat}
use Rattle.std.proofs.lemmas.Bool.{true≢false, or_left, or_right, ltb-false, eq-eqb}
use Rattle.std.proofs.lemmas.Option.{same_Some, none-some, slice_get-get_or}
use Rattle.std.proofs.lemmas.List.{length-map, take_min, get_or-map as get_or_at}
use Rattle.std.proofs.lemmas.List.Elements.{All-contains, Contains-get_or}
use Rattle.std.proofs.lemmas.Simd.{map-map}
use Rattle.std.proofs.Math.ListN.{get_or-map}
use Rattle.clay_grid.specs.Shape.{Shape, chunk_count, stripe_length}
use Rattle.clay_model.specs.Code.{stripes_of}
use Rattle.store_map.specs.Limits.{stripes_met}
use Rattle.store_map.specs.PlainMap.{bytes_of, read_at}
use Rattle.store_map.specs.declared.actor.Actor.TheVariants as actor
use Rattle.store_map.specs.declared.call.Call.TheVariants as call
use Rattle.store_map.specs.declared.placement.Found.TheVariants as found
use Rattle.store_map.specs.declared.placement.Placement.TheVariants as placement
use Rattle.store_map.specs.declared.reply.Reply.{Reply}
use Rattle.store_map.specs.declared.reply.Reply.TheVariants as reply
use Rattle.store_map.proofs.LimitLaws.{stripes_met-start}
use Rattle.store_core.specs.Lists.{is_among}
use Rattle.store_core.specs.Told.{Lost}
use Rattle.store_core.specs.Note.{Kind, note_of}
use Rattle.store_core.specs.Act.{Outcome}
use Rattle.store_core.specs.Calls.{Calls}
use Rattle.store_core.specs.Content.{contents_by}
use Rattle.store_core.specs.Directory.{Pin, Pass, Directory}
use Rattle.store_core.specs.Gathering.{Part, lost_at}
use Rattle.store_core.specs.GatheringParts.{chunks_in_range}
use Rattle.store_core.specs.Look.{stripes_between}
use Rattle.store_core.specs.Agreement.{Agrees}
use Rattle.store_core.specs.Server.{Server, new_server}
use Rattle.store_core.specs.Step.{Places}
use Rattle.run_laws.proofs.SoundLists.{at_all, among, is_in}
use Rattle.run_laws.proofs.SoundStripes.{pins_within}
use Rattle.run_laws.specs.State.{Sequel, State as CallAt}
use Rattle.run_laws.specs.States.{open_parts}
use Rattle.run_laws.proofs.Bytes.{stripe_at as stripe_of_bytes, stripes_below_at, count_stripes}
use Rattle.run_laws.specs.Contents.{stripes_in}
use Rattle.run_laws.specs.ReadLaws.{part_bytes, bytes_read}
use Rattle.run_laws.proofs.Ranges.{part_at, parts_are}
use Rattle.session_rules.specs.State.{Chunk, Stripe, Numbering, Snapshot, State, numbers_of, stripe_at, chunk_at}
use Rattle.session_rules.specs.declared.session_answer.Missing.{Missing}
use Rattle.session_rules.specs.declared.session_answer.Answer.{Answer}
use Rattle.session_rules.specs.Gathered.{Range, ranges_between, holds, lacking, asked_first, is_beyond_repair, named, is_unavailable, unavailable, first_unavailable}
use Rattle.session_rules.specs.Snapshots.{reply_unless}
use Rattle.session_rules.specs.Alone.{AtWork}
use Rattle.session_rules.specs.Outcomes.{lost_as}
use Rattle.session_rules.specs.Seen.{version_of, all_numbers, snapshot_numbers, live_numbers, IsSeenAs}
use Rattle.session_rules.proofs.AtPlaces.{map_same}
use Rattle.session_rules.proofs.Counting.{among_append}
use Rattle.session_rules.proofs.Names.{under, under_map, is_some_by, among_all}
use Rattle.session_rules.proofs.Parts.{Answers, Each, Leads, state_by, parts_next}
use Rattle.session_rules.proofs.Walks.{Reaches, here}
use Rattle.session_rules.specs.Reading.{reading, begun, reading_steps}
use Rattle.session_rules.specs.Readers.{pin_at, tickets_of, contents_under, kept_numbers, StandForBytes}
use Rattle.session_rules.specs.AloneSnapshots.{reader_of, pins_by, kept_stripe, kept_parts, gathered_as, IsReadServed}
use Rattle.session_rules.specs.Between.{Seats, IsBetween}
use Rattle.session_rules.proofs.ReadingSteps.{OnlyTaken, opened_gathers, from_steps}

-- ---- what a look pinned, by the tickets
pinned_by_look : (stands : List ℕ) (number unused : ℕ) (d : Directory) (readers : List ℕ) (numbers : Numbering) (name ns : List ℕ) → length numbers ≤ length readers →
    AllByRecursion (Agrees d) (tickets_of stands number unused readers numbers) → bytes_of name numbers ≡ Some ns → pins_by d (reader_of name readers numbers) ≡ map (pin_at stands) (enumerate_from 0 ns)
pinned_by_look stands number unused d [] [] name ns few all e = absurd (none-some ns e)
pinned_by_look stands number unused d [] (object ∷ numbers) name ns few all e = absurd (omega (arith, few))
pinned_by_look stands number unused d (reader ∷ readers) [] name ns few all e = absurd (none-some ns e)
pinned_by_look stands number unused d (reader ∷ readers) (object ∷ numbers) name ns few all e =
    by (bytes_eq name object.0) e (pinned_by_look stands number unused d readers numbers name ns (omega (arith, few)) all.1)
  where
    by : (b : Bool) → (if b then Some object.1 else bytes_of name numbers) ≡ Some ns → (bytes_of name numbers ≡ Some ns → pins_by d (reader_of name readers numbers) ≡ map (pin_at stands) (enumerate_from 0 ns)) →
        pins_by d (if b then Some reader else reader_of name readers numbers) ≡ map (pin_at stands) (enumerate_from 0 ns)
    by true e rest =
        ap (λ (f : Option Pass). unwrap_or (option_map (λ (pass : Pass). pass.pinned) f) []) all.0.is_pass
        ∙ ap (λ l. map (pin_at stands) (enumerate_from 0 l)) (same_Some object.1 ns e)
    by false e rest = rest e

version_pinned : (stands : List ℕ) (a i : ℕ) (ns : List ℕ) → i < length ns → (get_or (map (pin_at stands) (enumerate_from a ns)) i (record { stripe = 0; version = 0 })).version ≡ version_of stands (get_or ns i 0)
version_pinned stands a i [] less = absurd (omega (arith, less))
version_pinned stands a zero (n ∷ ns) less = refl
version_pinned stands a (suc i) (n ∷ ns) less = version_pinned stands (a + 1) i ns (omega (arith, less))

-- ---- a live number's stripe, and its servers
answers_of : (g : Shape) (max : ℕ) (stands : List ℕ) (p : Places) (s : State) → IsSeenAs g max stands p s → (n : ℕ) → is_among n (live_numbers s) ≡ true → (j : ℕ) → j < chunk_count g →
    Answers s.epochs p.servers (get_or s.stripes n []) (version_of stands n) j
answers_of g max stands p s h n live j there = record {
  server = get_or p.servers j new_server;
  found = slice_get-get_or p.servers j new_server within;
  present = at_all (λ (one : Server). one.away ≡ false) p.servers j (get_or p.servers j new_server) h.present (slice_get-get_or p.servers j new_server within);
  held =
      sym (get_or_at (λ (one : Server). is_among (version_of stands n) one.held) p.servers j new_server false within)
      ∙ ap (λ flags. get_or flags j false) (h.stripes n live).held
      ∙ get_or-map (λ (chunk : Chunk). chunk.held) (get_or s.stripes n []) j (record { placed = 0; held = false });
  epoch = sym (get_or_at (λ (one : Server). one.epoch) p.servers j new_server 0 within) ∙ ap (λ epochs. get_or epochs j 0) h.epochs;
}
  where
    within : j < length p.servers
    within = let count : length p.servers ≡ chunk_count g = h.servers in omega (arith, there, count)

module _ (calls : Calls) (g : Shape) (max tries : ℕ) (seats : Seats) (stands : List ℕ) (p : Places) (s : State) (some : 0 < stripe_length g) (h : IsBetween calls g max seats stands p s)
    (kept : Snapshot) (open_one : s.snapshot ≡ Some kept) (name : List ℕ) (offset count : ℕ) where
  abbrev size : ℕ
  size = length (unwrap_or (bytes_of name kept.objects) [])

  abbrev end : ℕ
  end = min (offset + count) size

  abbrev numbers : List ℕ
  numbers = numbers_of name kept.numbers

  abbrev contents : List (List ℕ)
  contents = contents_by g calls p.directory.versions

  -- the stripes that have the bytes, and what is gathered of one
  abbrev stripes_read : List ℕ
  stripes_read = stripes_between g offset end

  abbrev range_at : ℕ → Range
  range_at i = record { stripe = i; start = offset - i * stripe_length g; end = min (end - i * stripe_length g) (stripe_length g) }

  abbrev part_of_stripe : ℕ → Part
  part_of_stripe i = record { seen = kept_stripe g seats.readers p.directory kept name offset count i; start = offset - i * stripe_length g; end = min (end - i * stripe_length g) (stripe_length g) }

  abbrev parts : List Part
  parts = kept_parts g seats.readers p.directory kept name offset count

  parts_same : kept_parts g seats.readers p.directory kept name offset count ≡ map part_of_stripe stripes_read
  parts_same = map-map (λ (range : Range). let part : Part = record { seen = kept_stripe g seats.readers p.directory kept name offset count range.stripe; start = range.start; end = range.end } in part) range_at stripes_read

  -- ---- the object's stripes are as many as its bytes meet
  kept_few : length kept.numbers ≤ length seats.readers
  kept_few = subst (λ snapshot. length (kept_numbers snapshot) ≤ length seats.readers) open_one h.snapshot.few

  kept_tickets : AllByRecursion (Agrees p.directory) (tickets_of stands h.snapshot.number seats.looks seats.readers kept.numbers)
  kept_tickets = subst (λ snapshot. AllByRecursion (Agrees p.directory) (tickets_of stands h.snapshot.number seats.looks seats.readers (kept_numbers snapshot))) open_one h.snapshot.tickets

  kept_bytes : map (contents_under contents stands) kept.numbers ≡ stripes_in g kept.objects
  kept_bytes = subst (StandForBytes calls g stands p.directory) open_one h.snapshot.bytes

  -- what an object's versions stand for
  abbrev contents_at : List ℕ → List (List ℕ)
  contents_at ns = map (λ number. get_or contents (version_of stands number) []) ns

  both : option_map contents_at (bytes_of name kept.numbers) ≡ option_map (stripes_of g) (bytes_of name kept.objects)
  both = sym (under_map contents_at name kept.numbers) ∙ ap (under name) kept_bytes ∙ under_map (stripes_of g) name kept.objects

  many_by : (objects numbers : Option (List ℕ)) → option_map contents_at numbers ≡ option_map (stripes_of g) objects →
      length (unwrap_or numbers []) ≡ stripes_met (stripe_length g) 0 (length (unwrap_or objects []))
  many_by None None e = refl
  many_by None (Some ns) e = absurd (none-some (contents_at ns) (sym e))
  many_by (Some bytes) None e = absurd (none-some (stripes_of g bytes) e)
  many_by (Some bytes) (Some ns) e =
      let same : contents_at ns ≡ stripes_of g bytes = same_Some (contents_at ns) (stripes_of g bytes) e in
      sym (length-map ns (λ number. get_or contents (version_of stands number) [])) ∙ ap length same
      ∙ count_stripes (stripe_length g) ((length bytes + stripe_length g - 1) / stripe_length g) bytes ∙ sym (stripes_met-start (stripe_length g) (length bytes) some)

  many : length numbers ≡ stripes_met (stripe_length g) 0 size
  many = many_by (bytes_of name kept.objects) (bytes_of name kept.numbers) both

  within : (i : ℕ) → is_among i stripes_read ≡ true → i < length numbers
  within i e =
      subst (λ n. i < n) (sym many)
      (All-contains (λ i. i < stripes_met (stripe_length g) 0 size) stripes_read i (pins_within g some Kind.ReadAt (note_of (call.ReadAt name offset count)) size) (is_in i stripes_read e))

  -- ---- a stripe's number and its version
  named_by : (found : Option (List ℕ)) → (i : ℕ) → i < length (unwrap_or found []) → (ns : List ℕ) × (found ≡ Some ns)
  named_by None i less = absurd (omega (arith, less))
  named_by (Some ns) i less = (ns, refl)

  version_is : (i : ℕ) → i < length numbers → (kept_stripe g seats.readers p.directory kept name offset count i).version ≡ version_of stands (get_or numbers i 0)
  version_is i less =
      let its : (ns : List ℕ) × (bytes_of name kept.numbers ≡ Some ns) = named_by (bytes_of name kept.numbers) i less in
      let same : numbers ≡ its.0 = ap (λ f. unwrap_or f []) its.1 in
      ap (λ (pins : List Pin). let pin : Pin = get_or pins i (record { stripe = 0; version = 0 }) in pin.version) (pinned_by_look stands h.snapshot.number seats.looks p.directory seats.readers kept.numbers name its.0 kept_few kept_tickets its.1)
      ∙ version_pinned stands 0 i its.0 (subst (λ ns. i < length ns) same less)
      ∙ ap (λ ns. version_of stands (get_or ns i 0)) (sym same)

  live : (i : ℕ) → i < length numbers → is_among (get_or numbers i 0) (live_numbers s) ≡ true
  live i less =
      let its : (ns : List ℕ) × (bytes_of name kept.numbers ≡ Some ns) = named_by (bytes_of name kept.numbers) i less in
      let same : numbers ≡ its.0 = ap (λ f. unwrap_or f []) its.1 in
      among_append (get_or numbers i 0) (all_numbers s.numbers) (snapshot_numbers s.snapshot)
      ∙ or_right (is_among (get_or numbers i 0) (all_numbers s.numbers)) (is_among (get_or numbers i 0) (snapshot_numbers s.snapshot))
      (ap (λ snapshot. is_among (get_or numbers i 0) (snapshot_numbers snapshot)) open_one
      ∙ ap (λ ns. is_among (get_or ns i 0) (all_numbers kept.numbers)) same
      ∙ among_all name its.0 (get_or its.0 i 0) kept.numbers its.1 (among (get_or its.0 i 0) its.0 (Contains-get_or its.0 i 0 (subst (λ ns. i < length ns) same less))))

  -- ---- all servers answer of each part
  abbrev stripe_for : Part → Stripe
  stripe_for part = stripe_at s.stripes numbers part.seen.stripe

  abbrev Answered : Part → Type 0
  Answered part = (j : ℕ) → j < chunk_count g → Answers s.epochs p.servers (stripe_for part) part.seen.version j

  part_answered : (i : ℕ) → i < length numbers → Answered (part_of_stripe i)
  part_answered i less j there =
      subst (λ v. Answers s.epochs p.servers (stripe_for (part_of_stripe i)) v j) (sym (version_is i less))
      (answers_of g max stands p s h.seen (get_or numbers i 0) (live i less) j there)

  all_answered : (is : List ℕ) → ((i : ℕ) → is_among i is ≡ true → i < length numbers) → Each Answered (map part_of_stripe is)
  all_answered [] each = Each.Nothing
  all_answered (i ∷ is) each = Each.Also (part_answered i (each i (or_left _ _ (eq-eqb i i refl)))) (all_answered is (λ j e. each j (or_right _ _ e)))

  -- ---- the session names the same first stripe
  abbrev out_of : Part → Bool
  out_of part = list_any (λ chunk. not (holds (stripe_for part) chunk)) (chunks_in_range g part.start part.end) && is_beyond_repair g (stripe_for part)

  abbrev lost_of : Part → List Lost
  lost_of part =
      map (λ j. lost_at g part.seen j (found.Absent (get_or s.epochs j 0))) (take (g.parity_count + 1) (lacking (stripe_for part) (asked_first g (chunks_in_range g part.start part.end))))

  abbrev outcome_by : Option Part → Outcome
  outcome_by None = Outcome.Served 0
  outcome_by (Some part) = Outcome.Unavailable part.seen.stripe (lost_of part)

  named_same : (i : ℕ) (first : List ℕ) →
      map lost_as (named g s.epochs (stripe_at kept.stripes numbers i) (stripe_at s.stripes numbers i) first)
      ≡ map (λ j. lost_at g (kept_stripe g seats.readers p.directory kept name offset count i) j (found.Absent (get_or s.epochs j 0))) (take (g.parity_count + 1) (lacking (stripe_at s.stripes numbers i) (asked_first g first)))
  named_same i first =
      map-map lost_as (λ server. let missing : Missing = record { server = server; placed = (chunk_at (stripe_at kept.stripes numbers i) server).placed; found = get_or s.epochs server 0 } in missing)
      (take (g.parity_count + 1) (lacking (stripe_at s.stripes numbers i) (asked_first g first)))
      ∙ map_same _ (λ j. lost_at g (kept_stripe g seats.readers p.directory kept name offset count i) j (found.Absent (get_or s.epochs j 0))) one
      (take (g.parity_count + 1) (lacking (stripe_at s.stripes numbers i) (asked_first g first)))
    where
      one : (j : ℕ) →
          lost_as (record { server = j; placed = (chunk_at (stripe_at kept.stripes numbers i) j).placed; found = get_or s.epochs j 0 })
          ≡ lost_at g (kept_stripe g seats.readers p.directory kept name offset count i) j (found.Absent (get_or s.epochs j 0))
      one j =
          ap (λ placed. let lost : Lost = record { server = j; placed = placed; found = found.Absent (get_or s.epochs j 0) } in lost)
          (sym (get_or-map (λ (chunk : Chunk). placement.At chunk.placed) (stripe_at kept.stripes numbers i) j (record { placed = 0; held = false })))

  agree : (answer : Reply) (is : List ℕ) →
      gathered_as (reply_unless (first_unavailable g s kept.stripes numbers (map range_at is)) answer) ≡ outcome_by (find out_of (map part_of_stripe is))
  agree answer [] = refl
  agree answer (i ∷ is) = by (out_of (part_of_stripe i)) (agree answer is)
    where
      by : (b : Bool) → gathered_as (reply_unless (first_unavailable g s kept.stripes numbers (map range_at is)) answer) ≡ outcome_by (find out_of (map part_of_stripe is)) →
          gathered_as (reply_unless (option_map (unavailable g s kept.stripes numbers) (cond b (Some (range_at i)) (find (is_unavailable g s kept.stripes numbers) (map range_at is)))) answer)
          ≡ outcome_by (cond b (Some (part_of_stripe i)) (find out_of (map part_of_stripe is)))
      by true rest = ap (λ lost. Outcome.Unavailable i lost) (named_same i (chunks_in_range g (range_at i).start (range_at i).end))
      by false rest = rest

  -- ---- the way
  abbrev standing : CallAt → Places → AtWork
  standing at q = record { call = record { pairs = []; at = at }; places = q }

  abbrev Way : Option Part → Type 0
  Way f = Leads g 0 actor.Operator 0 reading [] (Sequel.Serve 0) stripe_for s.epochs p.servers p.directory (state_by g 0 actor.Operator 0 reading [] (Sequel.Serve 0) stripe_for s.epochs p.servers p.directory f)
      (standing (CallAt.Ending (outcome_by f)))

  stops : (f : Option Part) → Way f
  stops None q now same = subst (λ d. Reaches g 0 actor.Operator 0 reading p.servers d (standing (CallAt.Ending (Outcome.Served 0)) q) (standing (CallAt.Ending (Outcome.Served 0)))) same
      (here g 0 actor.Operator 0 reading p.servers q (standing (CallAt.Ending (Outcome.Served 0))) now)
  stops (Some part) q now same = subst (λ d. Reaches g 0 actor.Operator 0 reading p.servers d (standing (CallAt.Ending (outcome_by (Some part))) q) (standing (CallAt.Ending (outcome_by (Some part))))) same
      (here g 0 actor.Operator 0 reading p.servers q (standing (CallAt.Ending (outcome_by (Some part)))) now)

  abbrev outcome : Outcome
  outcome = outcome_by (find out_of (map part_of_stripe stripes_read))

  way : Reaches g 0 actor.Operator 0 reading p.servers p.directory (standing (open_parts g (map part_of_stripe stripes_read) (Sequel.Serve 0)) p) (standing (CallAt.Ending outcome))
  way =
      parts_next g 0 actor.Operator 0 reading [] (Sequel.Serve 0) stripe_for s.epochs p.servers p.directory (map part_of_stripe stripes_read) (all_answered stripes_read within)
      (standing (CallAt.Ending outcome)) (stops (find out_of (map part_of_stripe stripes_read))) p refl refl

  abbrev wants : Outcome → Type 0
  wants Outcome.NoMemory = ⊤
  wants other = ⊥

  no_want : (f : Option Part) → Outcome.NoMemory ≢ outcome_by f
  no_want None e = subst wants e tt
  no_want (Some part) e = subst wants e tt

  -- ---- the bytes
  module _ (given : List ℕ) (replied : read_at offset count (bytes_of name kept.objects) ≡ reply.Bytes given) where
    abbrev is_bytes : Reply → Bool
    is_bytes (reply.Bytes bytes) = true
    is_bytes other = false

    abbrev bytes_in : Reply → List ℕ
    bytes_in (reply.Bytes bytes) = bytes
    bytes_in other = []

    there : (found : Option (List ℕ)) → read_at offset count found ≡ reply.Bytes given → (bytes : List ℕ) × (found ≡ Some bytes) × (offset ≤ length bytes) × (take count (drop offset bytes) ≡ given)
    there None e = absurd (true≢false (sym (ap is_bytes e)))
    there (Some bytes) e = by (nat_lt (length bytes) offset) refl e
      where
        by : (b : Bool) → nat_lt (length bytes) offset ≡ b → (if b then reply.OutRange else reply.Bytes (take count (drop offset bytes))) ≡ reply.Bytes given →
            (other : List ℕ) × (Some bytes ≡ Some other) × (offset ≤ length other) × (take count (drop offset other) ≡ given)
        by true past e = absurd (true≢false (sym (ap is_bytes e)))
        by false past e = (bytes, refl, ltb-false (length bytes) offset past, ap bytes_in e)

    abbrev its : (bytes : List ℕ) × (bytes_of name kept.objects ≡ Some bytes) × (offset ≤ length bytes) × (take count (drop offset bytes) ≡ given)
    its = there (bytes_of name kept.objects) replied

    abbrev bytes : List ℕ
    bytes = its.0

    size_is : size ≡ length bytes
    size_is = ap (λ f. length (unwrap_or f [])) its.1

    long : end ≤ length bytes
    long = let e : size ≡ length bytes = size_is in let least : end ≤ size = omega arith in omega (arith, e, least)

    begins : offset ≤ end
    begins = let e : size ≡ length bytes = size_is in let low : offset ≤ length bytes = its.2 in omega (arith, e, low)

    -- a stripe's version stands for its bytes
    content_is : (i : ℕ) → i < length numbers → get_or contents (kept_stripe g seats.readers p.directory kept name offset count i).version [] ≡ stripe_of_bytes (stripe_length g) bytes i
    content_is i less =
        let ns : (ns : List ℕ) × (bytes_of name kept.numbers ≡ Some ns) × (contents_at ns ≡ stripes_of g bytes) =
        is_some_by contents_at (bytes_of name kept.numbers) (stripes_of g bytes) (both ∙ ap (option_map (stripes_of g)) its.1) in
        let same : numbers ≡ ns.0 = ap (λ f. unwrap_or f []) ns.1 in
        let below : i < length ns.0 = subst (λ l. i < length l) same less in
        let counts : length ns.0 ≡ (length bytes + stripe_length g - 1) / stripe_length g =
        sym (length-map ns.0 (λ number. get_or contents (version_of stands number) [])) ∙ ap length ns.2 ∙ count_stripes (stripe_length g) ((length bytes + stripe_length g - 1) / stripe_length g) bytes in
        ap (λ v. get_or contents v []) (version_is i less ∙ ap (λ l. version_of stands (get_or l i 0)) same)
        ∙ sym (get_or_at (λ number. get_or contents (version_of stands number) []) ns.0 i 0 [] below)
        ∙ ap (λ l. get_or l i []) ns.2
        ∙ stripes_below_at (stripe_length g) ((length bytes + stripe_length g - 1) / stripe_length g) i bytes (subst (λ n. i < n) counts below)

    parts_bytes : (is : List ℕ) → ((i : ℕ) → is_among i is ≡ true → i < length numbers) → map (part_bytes contents) (map part_of_stripe is) ≡ map (part_at (stripe_length g) some bytes offset end long) is
    parts_bytes [] each = refl
    parts_bytes (i ∷ is) each =
        ap (λ content. take (min (end - i * stripe_length g) (stripe_length g) - (offset - i * stripe_length g)) (drop (offset - i * stripe_length g) content) ∷ map (part_bytes contents) (map part_of_stripe is))
        (content_is i (each i (or_left _ _ (eq-eqb i i refl))))
        ∙ ap (λ l. part_at (stripe_length g) some bytes offset end long i ∷ l) (parts_bytes is (λ j e. each j (or_right _ _ e)))

    pub bytes_owed : given ≡ bytes_read contents (kept_parts g seats.readers p.directory kept name offset count)
    bytes_owed =
        sym its.3
        ∙ sym (ap (λ n. take n (drop offset bytes)) (counts (length bytes) (length (drop offset bytes)) size (length-drop offset bytes) size_is) ∙ take_min count (drop offset bytes))
        ∙ sym (parts_are (stripe_length g) some bytes offset end long begins)
        ∙ ap concat (sym (ap (map (part_bytes contents)) parts_same ∙ parts_bytes stripes_read within))
      where
        counts : (m l n : ℕ) → l ≡ m - offset → n ≡ m → min (offset + count) n - offset ≡ min count l
        counts m l n e f = omega (arith, e, f)

  -- ---- it is served
  abbrev answer : Answer
  answer = reply_unless (first_unavailable g s kept.stripes numbers (ranges_between g offset end)) (read_at offset count (bytes_of name kept.objects))

  pub read_ends : (q : Places) × IsReadServed calls g seats.readers kept name offset count p answer q × OnlyTaken p q
  read_ends = (way.places, record { made = its_end.0; ends = starts ∙ its_end.1 ∙ last; bytes = bytes_owed }, record { servers = way.now; directory = way.directory })
    where
      its_end : (m : ℕ) × (reading_steps g (replicate m (record { coding = false; step = false })) (standing (open_parts g (map part_of_stripe stripes_read) (Sequel.Serve 0)) p) ≡ standing (CallAt.Ending outcome) way.places)
      its_end =
          from_steps g way.made [] (open_parts g (map part_of_stripe stripes_read) (Sequel.Serve 0)) p outcome way.places (opened_gathers g 0 (map part_of_stripe stripes_read)) (h.snapshot.others actor.Operator refl)
          (no_want (find out_of (map part_of_stripe stripes_read))) way.comes

      starts : reading_steps g (replicate its_end.0 (record { coding = false; step = false })) (begun g parts p)
          ≡ reading_steps g (replicate its_end.0 (record { coding = false; step = false })) (standing (open_parts g (map part_of_stripe stripes_read) (Sequel.Serve 0)) p)
      starts = ap (λ l. reading_steps g (replicate its_end.0 (record { coding = false; step = false })) (standing (open_parts g l (Sequel.Serve 0)) p)) parts_same

      last : standing (CallAt.Ending outcome) way.places ≡ standing (CallAt.Ending (gathered_as answer)) way.places
      last = ap (λ outcome. standing (CallAt.Ending outcome) way.places) (sym (agree (read_at offset count (bytes_of name kept.objects)) stripes_read))
