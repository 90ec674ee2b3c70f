-- Objects stay within a session's limits, and answers fit into frames.
use Rattle.std.proofs.Common.{◌≡◌, ℕ, zero, suc, ◌+◌, ◌*◌, ◌≤◌, get_or, nat_le, nat_lt, Bool, true, false, ◌&&◌, List, [], ◌∷◌, ◌++◌, length, take, drop, map, flat_map, fold, zip, replicate, bytes_eq, Option, None, Some, option_map, IsTrue, refl, sym, ap, subst, ◌∙◌, inl, inr, arith, if◌then◌else◌}
use Rattle.std.specs.Prelude.{⊤}
use Rattle.std.specs.List.{AllByRecursion, enumerate_from, list_all}
use Rattle.std.proofs.lemmas.Bool.{le-leb, leb-true, ltb-false, and_parts}
use Rattle.std.proofs.lemmas.List.{length-append, length-take, length-drop, length-map, length-replicate}
use Rattle.byteorder.specs.Endian.{big_bytes}
use Rattle.clay_grid.specs.Shape.{Shape, chunk_count}
use Rattle.clay_grid.specs.Limits.{IsGeometry}
use Rattle.store_map.specs.Name.{IsName, is_name_byte}
use Rattle.store_map.specs.Content.{content_bytes, content_length, overwrite}
use Rattle.store_map.specs.PlainMap.{Objects, bytes_of, put, delete, put_sized, write_at, read_at, get_all, length_of, delete_found, apply}
use Rattle.store_map.specs.declared.call.Call.{Call}
use Rattle.store_map.specs.declared.call.Call.TheVariants as call
use Rattle.store_map.specs.declared.reply.Reply.{Reply}
use Rattle.store_map.specs.declared.reply.Reply.TheVariants as reply
use Rattle.store_map.proofs.MapLaws.{length-content_bytes}
use Rattle.store_core.specs.GatheringParts.{chunks_in_range}
use Rattle.session_rules.specs.State.{Stripe, Numbering, Snapshot, State, numbers_of, stripe_at, chunk_at, first_state}
use Rattle.session_rules.specs.declared.request.Request.{Request}
use Rattle.session_rules.specs.declared.session_answer.Answer.{Answer}
use Rattle.session_rules.specs.declared.session_answer.Missing.{Missing}
use Rattle.session_rules.specs.declared.session_answer.LostChunk.{LostChunk}
use Rattle.session_rules.specs.Replies.{missing_bytes, lost_bytes, most_listed, answer_bytes}
use Rattle.session_rules.specs.Input.{is_frame_length, most_frame}
use Rattle.session_rules.specs.Gathered.{Range, holds, lacking, is_beyond_repair, asked_first, named, unavailable}
use Rattle.session_rules.specs.Calls.{name_in, is_refusal, unless_unavailable, serve_by}
use Rattle.session_rules.specs.Placing.{numbers_after, after_call}
use Rattle.session_rules.specs.Rebuilds.{place_anew, rebuild}
use Rattle.session_rules.specs.Heals.{lost_chunks, to_heal, takes_of, number_of, heal_one, heal_all, numbers_last, heal}
use Rattle.session_rules.specs.Snapshots.{most_objects, snap, reply_unless, snap_read, snap_drop}
use Rattle.session_rules.specs.Serve.{serve}
use Rattle.session_rules.specs.Shortages.{Leaves, IsServed}
use Rattle.session_rules.specs.Requests.{request_of}
use Rattle.session_rules.specs.Session.{IsAnswered, AreAnswered}
use Rattle.frame_session.specs.Fits.{AreShort, IsShortSnapshot, AreNamed, IsBounded, IsFitting, AnswersFit}
use Rattle.frame_session.proofs.Asked.{IsSound, request_sound}

-- ---- lists
all_of : {X : Type 0} (P : X → Type 0) → ((x : X) → P x) → (xs : List X) → AllByRecursion P xs
all_of P each [] = tt
all_of P each (x ∷ xs) = (each x, all_of P each xs)

all_append : {X : Type 0} (P : X → Type 0) (xs ys : List X) → AllByRecursion P xs → AllByRecursion P ys → AllByRecursion P (xs ++ ys)
all_append P [] ys a b = b
all_append P (x ∷ xs) ys a b = (a.0, all_append P xs ys a.1 b)

all_map : {X Y : Type 0} (P : Y → Type 0) (f : X → Y) → ((x : X) → P (f x)) → (xs : List X) → AllByRecursion P (map f xs)
all_map P f each [] = tt
all_map P f each (x ∷ xs) = (each x, all_map P f each xs)

all_flat_map : {X Y : Type 0} (P : Y → Type 0) (f : X → List Y) (xs : List X) → AllByRecursion (λ x. AllByRecursion P (f x)) xs → AllByRecursion P (flat_map f xs)
all_flat_map P f [] all = tt
all_flat_map P f (x ∷ xs) all = all_append P (f x) (flat_map f xs) all.0 (all_flat_map P f xs all.1)

all_weaker : {X : Type 0} (P Q : X → Type 0) → ((x : X) → P x → Q x) → (xs : List X) → AllByRecursion P xs → AllByRecursion Q xs
all_weaker P Q each [] all = tt
all_weaker P Q each (x ∷ xs) all = (each x all.0, all_weaker P Q each xs all.1)

-- ---- the map
kept_by_put : (P : List ℕ × List ℕ → Type 0) (name bytes : List ℕ) → P (name, bytes) → ((object : List ℕ × List ℕ) → P object → P (object.0, bytes)) →
    (objects : Objects) → AllByRecursion P objects → AllByRecursion P (put name bytes objects)
kept_by_put P name bytes new again [] all = (new, tt)
kept_by_put P name bytes new again (object ∷ others) all = by (bytes_eq name object.0) (kept_by_put P name bytes new again others all.1)
  where
    by : (same : Bool) → AllByRecursion P (put name bytes others) → AllByRecursion P (if same then (object.0, bytes) ∷ others else object ∷ put name bytes others)
    by true rest = (again object all.0, all.1)
    by false rest = (all.0, rest)

kept_by_delete : (P : List ℕ × List ℕ → Type 0) (name : List ℕ) (objects : Objects) → AllByRecursion P objects → AllByRecursion P (delete name objects)
kept_by_delete P name [] all = tt
kept_by_delete P name (object ∷ others) all = by (bytes_eq name object.0) (kept_by_delete P name others all.1)
  where
    by : (same : Bool) → AllByRecursion P (delete name others) → AllByRecursion P (if same then others else object ∷ delete name others)
    by true rest = all.1
    by false rest = (all.0, rest)

module _ (max : ℕ) where
  abbrev IsShort : List ℕ × List ℕ → Type 0
  IsShort object = length object.1 ≤ max

  abbrev IsShortIn : Option (List ℕ) → Type 0
  IsShortIn None = ⊤
  IsShortIn (Some bytes) = length bytes ≤ max

  found_short : (name : List ℕ) (objects : Objects) → AreShort max objects → IsShortIn (bytes_of name objects)
  found_short name [] short = tt
  found_short name (object ∷ others) short = by (bytes_eq name object.0) (found_short name others short.1)
    where
      by : (same : Bool) → IsShortIn (bytes_of name others) → IsShortIn (if same then Some object.1 else bytes_of name others)
      by true rest = short.0
      by false rest = rest

  abbrev IsShortReply : Reply → Type 0
  IsShortReply (reply.Bytes bytes) = length bytes ≤ max
  IsShortReply _ = ⊤

  -- objects and a reply within the limit
  abbrev AreWithin : Objects × Reply → Type 0
  AreWithin applied = AreShort max applied.0 × IsShortReply applied.1

  put_short : (name bytes : List ℕ) (objects : Objects) → length bytes ≤ max → AreShort max objects → AreShort max (put name bytes objects)
  put_short name bytes objects fits short = kept_by_put IsShort name bytes fits (λ object is. fits) objects short

  read_short : (offset count : ℕ) (found : Option (List ℕ)) → IsShortIn found → IsShortReply (read_at offset count found)
  read_short offset count None short = tt
  read_short offset count (Some bytes) short = by (nat_lt (length bytes) offset)
    where
      by : (past : Bool) → IsShortReply (if past then reply.OutRange else reply.Bytes (take count (drop offset bytes)))
      by true = tt
      by false =
          let a : length (take count (drop offset bytes)) ≤ length (drop offset bytes) = omega (arith, length-take count (drop offset bytes)) in
          omega (arith, a, length-drop offset bytes, short)

  put_within : (name : List ℕ) (content : _) (objects : Objects) → AreShort max objects → AreWithin (put_sized max name content objects)
  put_within name content objects short = by (nat_lt max (content_length content)) refl
    where
      by : (large : Bool) → nat_lt max (content_length content) ≡ large →
          AreWithin (if large then (objects, reply.TooLarge) else (put name (content_bytes content) objects, reply.Done))
      by true e = (short, tt)
      by false e =
          (put_short name (content_bytes content) objects (omega (arith, length-content_bytes content, ltb-false max (content_length content) e)) short, tt)

  overwrite_short : (bytes new : List ℕ) (offset : ℕ) → length bytes ≤ max → offset + length new ≤ max → length (overwrite bytes offset new) ≤ max
  overwrite_short bytes new offset long fits =
      omega (
        arith,
        length-append (take offset bytes ++ new) (drop (offset + length new) bytes),
        length-append (take offset bytes) new,
        length-append (take offset bytes) (new ++ drop (offset + length new) bytes),
        length-append new (drop (offset + length new) bytes),
        length-take offset bytes,
        length-drop (offset + length new) bytes,
        long,
        fits,
      )

  write_within : (name : List ℕ) (offset : ℕ) (content : _) (objects : Objects) (found : Option (List ℕ)) → IsShortIn found → AreShort max objects →
      AreWithin (write_at max name offset content objects found)
  write_within name offset content objects None is short = (short, tt)
  write_within name offset content objects (Some bytes) is short = by (nat_lt (length bytes) offset) (nat_lt max (offset + content_length content)) refl
    where
      by : (past large : Bool) → nat_lt max (offset + content_length content) ≡ large →
          AreWithin (if past then (objects, reply.OutRange) else (if large then (objects, reply.TooLarge) else (put name (overwrite bytes offset (content_bytes content)) objects, reply.Done)))
      by true large e = (short, tt)
      by false true e = (short, tt)
      by false false e = (
        put_short name (overwrite bytes offset (content_bytes content)) objects
            (overwrite_short bytes (content_bytes content) offset is
            (omega (arith, length-content_bytes content, ltb-false max (offset + content_length content) e)))
            short,
        tt,
      )

  get_short : (found : Option (List ℕ)) → IsShortIn found → IsShortReply (get_all found)
  get_short None is = tt
  get_short (Some bytes) is = is

  stat_short : (found : Option (List ℕ)) → IsShortReply (length_of found)
  stat_short None = tt
  stat_short (Some bytes) = tt

  delete_within : (name : List ℕ) (objects : Objects) (found : Option (List ℕ)) → AreShort max objects → AreWithin (delete_found name objects found)
  delete_within name objects None short = (short, tt)
  delete_within name objects (Some bytes) short = (kept_by_delete IsShort name objects short, tt)

  applied_within : (call : Call) (objects : Objects) → AreShort max objects → AreWithin (apply max call objects)
  applied_within (call.Put name content) objects short = put_within name content objects short
  applied_within (call.Write name offset content) objects short =
      write_within name offset content objects (bytes_of name objects) (found_short name objects short) short
  applied_within (call.Get name) objects short = (short, get_short (bytes_of name objects) (found_short name objects short))
  applied_within (call.ReadAt name offset count) objects short = (short, read_short offset count (bytes_of name objects) (found_short name objects short))
  applied_within (call.Stat name) objects short = (short, stat_short (bytes_of name objects))
  applied_within (call.Delete name) objects short = delete_within name objects (bytes_of name objects) short

-- ---- answers
frame_fits : (n : ℕ) → 1 ≤ n → n ≤ 1048700 → IsTrue (is_frame_length n)
frame_fits n some few = ap (λ t. t && nat_le n most_frame) (le-leb 1 n some) ∙ le-leb n most_frame few

reply_fits : (max : ℕ) (reply : Reply) → max ≤ 1048576 → IsShortReply max reply → IsFitting (Answer.Replied reply)
reply_fits max reply.Done most short = record { frame = refl; writable = tt }
reply_fits max (reply.Bytes bytes) most short =
    record { frame = frame_fits (length (1 ∷ bytes)) (omega arith) (omega (arith, most, short)); writable = omega (arith, most, short) }
reply_fits max (reply.Length bytes) most short = record { frame = refl; writable = tt }
reply_fits max reply.NoSuch most short = record { frame = refl; writable = tt }
reply_fits max reply.OutRange most short = record { frame = refl; writable = tt }
reply_fits max reply.TooLarge most short = record { frame = refl; writable = tt }

missing_long : (missing : List Missing) → length (flat_map missing_bytes missing) ≡ 20 * length missing
missing_long [] = refl
missing_long (one ∷ others) =
    let rest : length (flat_map missing_bytes others) ≡ 20 * length others = missing_long others in
    let one_long : length (missing_bytes one) ≡ 20 = refl in
    let first : length (flat_map missing_bytes (one ∷ others)) ≡ length (missing_bytes one) + length (flat_map missing_bytes others) =
    length-append (missing_bytes one) (flat_map missing_bytes others) in
    omega (arith, rest, one_long, first)

unavailable_fits : (stripe : ℕ) (missing : List Missing) → length missing ≤ 9 → IsFitting (Answer.Unavailable stripe missing)
unavailable_fits stripe missing few =
    let bytes : length (flat_map missing_bytes missing) ≡ 20 * length missing = missing_long missing in
    let front_long : length (6 ∷ big_bytes 4 stripe ++ length missing ∷ []) ≡ 6 = refl in
    let all : length (answer_bytes (Answer.Unavailable stripe missing)) ≡ length (6 ∷ big_bytes 4 stripe ++ length missing ∷ []) + length (flat_map missing_bytes missing) =
    length-append (6 ∷ big_bytes 4 stripe ++ length missing ∷ []) (flat_map missing_bytes missing) in
    record {
      frame = frame_fits (length (answer_bytes (Answer.Unavailable stripe missing))) (omega (arith, all, front_long)) (omega (arith, all, front_long, bytes, few));
      writable = omega (arith, few);
    }

named_few : (g : Shape) (epochs : List ℕ) (placed held : Stripe) (first : List ℕ) → IsGeometry g → length (named g epochs placed held first) ≤ 9
named_few g epochs placed held first geometry =
    let parity : g.parity_count ≤ 8 = geometry.limits.parity_chunks.1 in
    let whole : length (named g epochs placed held first) ≡ length (take (g.parity_count + 1) (lacking held (asked_first g first))) =
    length-map (take (g.parity_count + 1) (lacking held (asked_first g first)))
    (λ server. record { server = server; placed = (chunk_at placed server).placed; found = get_or epochs server 0 }) in
    let some : length (take (g.parity_count + 1) (lacking held (asked_first g first))) ≤ g.parity_count + 1 =
    omega (arith, length-take (g.parity_count + 1) (lacking held (asked_first g first))) in
    omega (arith, parity, whole, some)

abbrev IsShortChunk : LostChunk → Type 0
IsShortChunk chunk = length chunk.name ≤ 64

lost_long : (lost : List LostChunk) → AllByRecursion IsShortChunk lost → length (flat_map lost_bytes lost) ≤ 73 * length lost
lost_long [] all = omega arith
lost_long (chunk ∷ others) all =
    let rest : length (flat_map lost_bytes others) ≤ 73 * length others = lost_long others all.1 in
    let name : length chunk.name ≤ 64 = all.0 in
    let front_long : length (length chunk.name ∷ chunk.name) ≡ suc (length chunk.name) = refl in
    let middle : length (length chunk.name ∷ chunk.name ++ big_bytes 4 chunk.stripe) ≡ length (length chunk.name ∷ chunk.name) + length (big_bytes 4 chunk.stripe) =
    length-append (length chunk.name ∷ chunk.name) (big_bytes 4 chunk.stripe) in
    let one : length (lost_bytes chunk) ≡ length (length chunk.name ∷ chunk.name ++ big_bytes 4 chunk.stripe) + length (big_bytes 4 chunk.server) =
    length-append (length chunk.name ∷ chunk.name ++ big_bytes 4 chunk.stripe) (big_bytes 4 chunk.server) in
    let stripe_long : length (big_bytes 4 chunk.stripe) ≡ 4 = refl in
    let server_long : length (big_bytes 4 chunk.server) ≡ 4 = refl in
    let both : length (flat_map lost_bytes (chunk ∷ others)) ≡ length (lost_bytes chunk) + length (flat_map lost_bytes others) =
    length-append (lost_bytes chunk) (flat_map lost_bytes others) in
    omega (arith, rest, name, front_long, middle, one, stripe_long, server_long, both)

all_take : {X : Type 0} (P : X → Type 0) (n : ℕ) (xs : List X) → AllByRecursion P xs → AllByRecursion P (take n xs)
all_take P zero xs all = tt
all_take P (suc n) [] all = tt
all_take P (suc n) (x ∷ xs) all = (all.0, all_take P n xs all.1)

scrubbed_long : (count : ℕ) (some : List LostChunk) → length (15 ∷ big_bytes 4 count ++ flat_map lost_bytes some) ≡ 5 + length (flat_map lost_bytes some)
scrubbed_long count some =
    let front_long : length (15 ∷ big_bytes 4 count) ≡ 5 = refl in
    let all : length (15 ∷ big_bytes 4 count ++ flat_map lost_bytes some) ≡ length (15 ∷ big_bytes 4 count) + length (flat_map lost_bytes some) =
    length-append (15 ∷ big_bytes 4 count) (flat_map lost_bytes some) in
    omega (arith, front_long, all)

listed_fits : (n : ℕ) (some : List LostChunk) → n ≡ 5 + length (flat_map lost_bytes some) → length some ≤ 14000 → AllByRecursion IsShortChunk some →
    IsTrue (is_frame_length n)
listed_fits n some whole few all =
    let bytes : length (flat_map lost_bytes some) ≤ 73 * length some = lost_long some all in
    frame_fits n (omega (arith, whole)) (omega (arith, whole, bytes, few))

scrubbed_fits : (lost : List LostChunk) → AllByRecursion IsShortChunk lost → IsFitting (Answer.Scrubbed lost)
scrubbed_fits lost all = record {
  frame =
      listed_fits (length (answer_bytes (Answer.Scrubbed lost))) (take most_listed lost) (scrubbed_long (length lost) (take most_listed lost))
      (omega (arith, length-take most_listed lost)) (all_take IsShortChunk most_listed lost all);
  writable = tt;
}

counts_long : (counts : List ℕ) → length (flat_map (big_bytes 8) counts) ≡ 8 * length counts
counts_long [] = refl
counts_long (count ∷ others) =
    let rest : length (flat_map (big_bytes 8) others) ≡ 8 * length others = counts_long others in
    let one_long : length (big_bytes 8 count) ≡ 8 = refl in
    let first : length (flat_map (big_bytes 8) (count ∷ others)) ≡ length (big_bytes 8 count) + length (flat_map (big_bytes 8) others) =
    length-append (big_bytes 8 count) (flat_map (big_bytes 8) others) in
    omega (arith, rest, one_long, first)

healed_fits : (rebuilt : ℕ) (taken : List ℕ) → length taken ≤ 26 → IsFitting (Answer.Healed rebuilt taken)
healed_fits rebuilt taken few =
    let bytes : length (flat_map (big_bytes 8) taken) ≡ 8 * length taken = counts_long taken in
    let front_long : length (16 ∷ big_bytes 8 rebuilt) ≡ 9 = refl in
    let whole : length (answer_bytes (Answer.Healed rebuilt taken)) ≡ length (16 ∷ big_bytes 8 rebuilt) + length (flat_map (big_bytes 8) taken) =
    length-append (16 ∷ big_bytes 8 rebuilt) (flat_map (big_bytes 8) taken) in
    record {
      frame = frame_fits (length (answer_bytes (Answer.Healed rebuilt taken))) (omega (arith, whole, front_long)) (omega (arith, whole, front_long, bytes, few));
      writable = omega (arith, few);
    }

-- ---- lost chunks
name_short : (name : List ℕ) → IsName name → length name ≤ 64
name_short name is =
    let both : (nat_le 1 (length name) && nat_le (length name) 64) ≡ true =
    (and_parts (nat_le 1 (length name) && nat_le (length name) 64) (list_all is_name_byte name) is).0 in
    leb-true (length name) 64 (and_parts (nat_le 1 (length name)) (nat_le (length name) 64) both).1

lost_short : (g : Shape) (s : State) → AreNamed s.numbers → AllByRecursion IsShortChunk (lost_chunks g s)
lost_short g s names =
    all_flat_map IsShortChunk _ s.numbers
    (all_weaker (λ object. IsName object.0) _
    (λ object is. all_flat_map IsShortChunk _ (enumerate_from 0 object.1)
    (all_of _ (λ numbered. all_map IsShortChunk _ (λ server. name_short object.0 is) _) (enumerate_from 0 object.1))) s.numbers names)

-- ---- states
module _ (g : Shape) (max : ℕ) (geometry : IsGeometry g) (most : max ≤ 1048576) where
  -- the state is within the limits, and the answer fits
  abbrev pub Keeps : State × Answer → Type 0
  Keeps served = IsBounded max served.0 × IsFitting served.1

  range_fits : (s : State) (placed : List Stripe) (numbers : List ℕ) (range : Range) → IsFitting (unavailable g s placed numbers range)
  range_fits s placed numbers range =
      unavailable_fits range.stripe
      (named g s.epochs (stripe_at placed numbers range.stripe) (stripe_at s.stripes numbers range.stripe) (chunks_in_range g range.start range.end))
      (named_few g s.epochs (stripe_at placed numbers range.stripe) (stripe_at s.stripes numbers range.stripe) (chunks_in_range g range.start range.end)
      geometry)

  unless_keeps : (s : State) (placed : List Stripe) (numbers : List ℕ) (found : Option Range) (served : State × Answer) → IsBounded max s → Keeps served →
      Keeps (unless_unavailable (option_map (unavailable g s placed numbers) found) s served)
  unless_keeps s placed numbers None served bounded keeps = keeps
  unless_keeps s placed numbers (Some range) served bounded keeps = (bounded, range_fits s placed numbers range)

  numbers_named : (call : Call) (new : List ℕ) (numbers : Numbering) → IsName (name_in call) → AreNamed numbers → AreNamed (numbers_after g call new numbers)
  numbers_named (call.Put name content) new numbers is all = kept_by_put (λ object. IsName object.0) name new is (λ object named. named) numbers all
  numbers_named (call.Write name offset content) new numbers is all = kept_by_put (λ object. IsName object.0) name _ is (λ object named. named) numbers all
  numbers_named (call.Get name) new numbers is all = all
  numbers_named (call.ReadAt name offset count) new numbers is all = all
  numbers_named (call.Stat name) new numbers is all = all
  numbers_named (call.Delete name) new numbers is all = kept_by_delete (λ object. IsName object.0) name numbers all

  call_keeps : (call : Call) (s : State) (applied : Objects × Reply) (refused : Bool) → IsName (name_in call) → IsBounded max s → AreWithin max applied →
      Keeps (serve_by refused g call s applied)
  call_keeps call s applied true is bounded within = (bounded, reply_fits max applied.1 most within.1)
  call_keeps call s applied false is bounded within =
      unless_keeps s s.stripes (numbers_of (name_in call) s.numbers) _ (after_call g call applied.0 s, Answer.Replied applied.1) bounded
      (record { objects = within.0; names = numbers_named call _ s.numbers is bounded.names; snapshot = bounded.snapshot }, reply_fits max applied.1 most within.1)

  rebuild_keeps : (stripe server : ℕ) (s : State) (numbers : List ℕ) → IsBounded max s → Keeps (rebuild g stripe server s numbers)
  rebuild_keeps stripe server s numbers bounded =
      by (nat_lt stripe (length numbers)) (holds (get_or s.stripes (get_or numbers stripe 0) []) server)
      (is_beyond_repair g (get_or s.stripes (get_or numbers stripe 0) []))
    where
      by : (there held beyond : Bool) →
          Keeps
          (if there then (if held then (s, Answer.Here)
          else (if beyond then (s, Answer.Unavailable stripe (named g s.epochs (get_or s.stripes (get_or numbers stripe 0) []) (get_or s.stripes (get_or numbers stripe 0) []) (server ∷ [])))
          else (place_anew (get_or numbers stripe 0) server s, Answer.Rebuilt))) else (s, Answer.Replied reply.NoSuch))
      by false held beyond = (bounded, record { frame = refl; writable = tt })
      by true true beyond = (bounded, record { frame = refl; writable = tt })
      by true false true = (
        bounded,
        unavailable_fits stripe
            (named g s.epochs (get_or s.stripes (get_or numbers stripe 0) []) (get_or s.stripes (get_or numbers stripe 0) []) (server ∷ []))
            (named_few g s.epochs (get_or s.stripes (get_or numbers stripe 0) []) (get_or s.stripes (get_or numbers stripe 0) []) (server ∷ []) geometry),
      )
      by true false false =
          (record { objects = bounded.objects; names = bounded.names; snapshot = bounded.snapshot }, record { frame = refl; writable = tt })

  snap_keeps : (kept : Option Snapshot) (s : State) → IsBounded max s → Keeps (snap kept s)
  snap_keeps (Some kept) s bounded = (bounded, record { frame = refl; writable = tt })
  snap_keeps None s bounded = by (nat_lt most_objects (length s.objects))
    where
      by : (many : Bool) →
          Keeps
          (if many then (s, Answer.TooMany (length s.objects))
          else (record s { snapshot = Some (record { objects = s.objects; numbers = s.numbers; stripes = s.stripes }) }, Answer.Replied reply.Done))
      by true = (bounded, record { frame = refl; writable = tt })
      by false =
          (record { objects = bounded.objects; names = bounded.names; snapshot = bounded.objects }, record { frame = refl; writable = tt })

  unless_fits : (s : State) (placed : List Stripe) (numbers : List ℕ) (found : Option Range) (answer : Reply) → IsFitting (Answer.Replied answer) →
      IsFitting (reply_unless (option_map (unavailable g s placed numbers) found) answer)
  unless_fits s placed numbers None answer fits = fits
  unless_fits s placed numbers (Some range) answer fits = range_fits s placed numbers range

  snap_read_keeps : (name : List ℕ) (offset count : ℕ) (kept : Option Snapshot) (s : State) → IsShortSnapshot max kept → IsBounded max s →
      Keeps (snap_read g name offset count kept s)
  snap_read_keeps name offset count None s short bounded = (bounded, record { frame = refl; writable = tt })
  snap_read_keeps name offset count (Some kept) s short bounded = (
    bounded,
    unless_fits s kept.stripes (numbers_of name kept.numbers) _ (read_at offset count (bytes_of name kept.objects))
        (reply_fits max (read_at offset count (bytes_of name kept.objects)) most
        (read_short max offset count (bytes_of name kept.objects) (found_short max name kept.objects short))),
  )

  snap_drop_keeps : (kept : Option Snapshot) (s : State) → IsBounded max s → Keeps (snap_drop kept s)
  snap_drop_keeps None s bounded = (bounded, record { frame = refl; writable = tt })
  snap_drop_keeps (Some kept) s bounded =
      (record { objects = bounded.objects; names = bounded.names; snapshot = tt }, record { frame = refl; writable = tt })

  -- some chunks are healed
  abbrev Heals : State × List ℕ → Type 0
  Heals healed = IsBounded max healed.0 × (length healed.1 ≤ 26)

  zip_short : (xs ys : List ℕ) → length (zip xs ys) ≤ length xs
  zip_short [] ys = omega arith
  zip_short (x ∷ xs) [] = omega arith
  zip_short (x ∷ xs) (y ∷ ys) = let rest : length (zip xs ys) ≤ length xs = zip_short xs ys in omega (arith, rest)

  heals : (chunks : List LostChunk) (healed : State × List ℕ) → Heals healed → Heals (fold (heal_one g) healed chunks)
  heals [] healed keeps = keeps
  heals (chunk ∷ chunks) healed keeps =
      let bounded : IsBounded max healed.0 = keeps.0 in
      let few : length healed.1 ≤ 26 = keeps.1 in
      let more : List ℕ = takes_of g (get_or (healed.0).stripes (number_of g healed.0 chunk) []) chunk.server in
      let zipped : length (zip healed.1 more) ≤ length healed.1 = zip_short healed.1 more in
      let same : length (heal_one g healed chunk).1 ≡ length (zip healed.1 more) = length-map (zip healed.1 more) (λ pair. pair.0 + pair.1) in
      heals chunks (heal_one g healed chunk)
      (record { objects = bounded.objects; names = bounded.names; snapshot = bounded.snapshot }, omega (arith, few, zipped, same))

  heal_all_keeps : (chunks : List LostChunk) (s : State) → IsBounded max s → Heals (heal_all g chunks s)
  heal_all_keeps chunks s bounded =
      let few : chunk_count g ≤ 26 = many in
      let size : length (replicate {A = ℕ} (chunk_count g) 0) ≡ chunk_count g = length-replicate (chunk_count g) 0 in
      heals chunks (s, replicate (chunk_count g) 0) (bounded, omega (arith, few, size))
    where
      many : chunk_count g ≤ 26
      many =
          let k : g.data_count ≤ 18 = geometry.data_chunks in
          let m : g.parity_count ≤ 8 = geometry.limits.parity_chunks.1 in
          omega (arith, k, m)

  heal_keeps : (s : State) → IsBounded max s → Keeps (heal g s)
  heal_keeps s bounded = by (numbers_last g s)
    where
      healed : Heals (heal_all g (to_heal g s) s)
      healed = heal_all_keeps (to_heal g s) s bounded

      by : (last : Bool) →
          Keeps
          (if last then (record ((heal_all g (to_heal g s) s).0) { next = s.next + length (to_heal g s) }, Answer.Healed (length (to_heal g s)) (heal_all g (to_heal g s) s).1)
          else (s, Answer.BadRequest))
      by true = (
        record { objects = healed.0.objects; names = healed.0.names; snapshot = healed.0.snapshot },
        healed_fits (length (to_heal g s)) (heal_all g (to_heal g s) s).1 healed.1,
      )
      by false = (bounded, record { frame = refl; writable = tt })

  serve_keeps : (request : Request) (s : State) → IsSound (chunk_count g) request → IsBounded max s → Keeps (serve g max request s)
  serve_keeps (Request.OfMap call) s sound bounded =
      call_keeps call s (apply max call s.objects) (is_refusal (apply max call s.objects).1) sound bounded (applied_within max call s.objects bounded.objects)
  serve_keeps (Request.Lose server) s sound bounded =
      (record { objects = bounded.objects; names = bounded.names; snapshot = bounded.snapshot }, record { frame = refl; writable = tt })
  serve_keeps (Request.Rebuild name stripe server) s sound bounded = rebuild_keeps stripe server s (numbers_of name s.numbers) bounded
  serve_keeps Request.Snap s sound bounded = snap_keeps s.snapshot s bounded
  serve_keeps (Request.SnapRead name offset count) s sound bounded = snap_read_keeps name offset count s.snapshot s bounded.snapshot bounded
  serve_keeps Request.SnapDrop s sound bounded = snap_drop_keeps s.snapshot s bounded
  serve_keeps Request.Scrub s sound bounded = (bounded, scrubbed_fits (lost_chunks g s) (lost_short g s bounded.names))
  serve_keeps Request.Heal s sound bounded = heal_keeps s bounded

  leaves_bounded : (request : Request) (s after : State) → Leaves g request s after → IsBounded max s → IsBounded max after
  leaves_bounded (Request.OfMap call) s after same bounded = subst (IsBounded max) (sym same) bounded
  leaves_bounded (Request.Lose server) s after none bounded = absurd none
  leaves_bounded (Request.Rebuild name stripe server) s after same bounded = subst (IsBounded max) (sym same) bounded
  leaves_bounded Request.Snap s after same bounded = subst (IsBounded max) (sym same) bounded
  leaves_bounded (Request.SnapRead name offset count) s after same bounded = subst (IsBounded max) (sym same) bounded
  leaves_bounded Request.SnapDrop s after none bounded = absurd none
  leaves_bounded Request.Scrub s after same bounded = subst (IsBounded max) (sym same) bounded
  leaves_bounded Request.Heal s after cut bounded =
      let healed : Heals (heal_all g (take cut.made (to_heal g s)) s) = heal_all_keeps (take cut.made (to_heal g s)) s bounded in
      subst (IsBounded max) (sym cut.state) (record { objects = healed.0.objects; names = healed.0.names; snapshot = healed.0.snapshot })

  no_memory_fits : IsFitting Answer.NoMemory
  no_memory_fits = record { frame = refl; writable = tt }

  served_keeps : (request : Request) (s : State) (served : State × Answer) → IsSound (chunk_count g) request → IsBounded max s →
      IsServed g max request s served → Keeps served
  served_keeps request s served sound bounded (inl is) = subst Keeps (sym is) (serve_keeps request s sound bounded)
  served_keeps request s served sound bounded (inr (none, leaves)) =
      (leaves_bounded request s served.0 leaves bounded, subst IsFitting (sym none) no_memory_fits)

  pub answered_keeps : (frame : List ℕ) (s : State) (served : State × Answer) → IsBounded max s →
      IsAnswered g max (request_of (chunk_count g) frame) s served → Keeps served
  answered_keeps frame s served bounded answered = by (request_of (chunk_count g) frame) refl answered
    where
      by : (found : Option Request) → request_of (chunk_count g) frame ≡ found → IsAnswered g max found s served → Keeps served
      by None is same = subst Keeps (sym same) (bounded, record { frame = refl; writable = tt })
      by (Some request) is one = served_keeps request s served (request_sound (chunk_count g) frame request is) bounded one

  all_fit : (frames : List (List ℕ)) (s : State) (answers : List Answer) → IsBounded max s → AreAnswered g max s frames answers → AllByRecursion IsFitting answers
  all_fit [] s answers bounded answered = subst (AllByRecursion IsFitting) (sym answered) tt
  all_fit (frame ∷ frames) s [] bounded answered = tt
  all_fit (frame ∷ frames) s (answer ∷ answers) bounded (after, one, rest) =
      let keeps : Keeps (after, answer) = answered_keeps frame s (after, answer) bounded one in
      (keeps.1, all_fit frames after answers keeps.0 rest)

pub first_bounded : (g : Shape) (max : ℕ) → IsBounded max (first_state g)
first_bounded g max = record { objects = tt; names = tt; snapshot = tt }

pub answers_fit : AnswersFit
answers_fit g max frames answers geometry most answered = all_fit g max geometry most frames (first_state g) answers (first_bounded g max) answered
