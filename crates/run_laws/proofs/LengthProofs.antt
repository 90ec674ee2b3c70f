-- The map by names and lengths is the plain map seen so.
use Rattle.std.proofs.Common.{◌≡◌, ℕ, ◌+◌, ◌-◌, ◌%◌, ◌≤◌, max, nat_lt, Bool, true, false, cond, List, [], ◌∷◌, ◌++◌, length, take, drop, Option, None, Some, option_map, bytes_eq, refl, sym, ap, ◌∙◌, arith, length-append, length-drop}
use Rattle.std.proofs.lemmas.Bool.{ltb-false}
use Rattle.std.proofs.lemmas.List.{length-take-le, length-replicate}
use Rattle.std.proofs.lemmas.List.FromFn.{length-map-range_with_len}
use Rattle.store_map.specs.Content.{content_bytes, content_length, overwrite}
use Rattle.store_map.specs.PlainMap.{Objects, bytes_of, put, delete, put_sized, write_at, read_at, get_all, length_of, delete_found, apply}
use Rattle.store_map.specs.declared.call.Call.{Call}
use Rattle.store_map.specs.declared.call.Call.TheVariants as call
use Rattle.store_map.specs.declared.content.Content.{Content}
use Rattle.store_map.specs.declared.content.Content.TheVariants as content
use Rattle.store_map.specs.declared.reply.Reply.{Reply}
use Rattle.store_map.specs.declared.reply.Reply.TheVariants as reply
use Rattle.store_core.specs.Note.{Note, note_of, refusal}
use Rattle.store_core.specs.Lengths.{Lengths, length_in, put_length, delete_length, found_length, answered_by}
use Rattle.run_laws.specs.LengthLaws.{lengths_seen, unread, IsSeenByLengths, LengthsAreTheMap}

-- ---- bytes and their counts
-- a content's count
pub content_count : (c : Content) → length (content_bytes c) ≡ content_length c
content_count (content.Hex bytes) = refl
content_count (content.Fill byte n) = length-replicate n byte
content_count (content.Ramp first n) = length-map-range_with_len (λ i. (first + i) % 256) 0 n

-- the count of overwritten bytes
pub length-overwrite : (bytes : List ℕ) (offset : ℕ) (news : List ℕ) → offset ≤ length bytes → length (overwrite bytes offset news) ≡ max (length bytes) (offset + length news)
length-overwrite bytes offset news h =
    let front : length (take offset bytes) ≡ offset = length-take-le offset bytes h in
    let both : length (take offset bytes ++ news) ≡ length (take offset bytes) + length news = length-append (take offset bytes) news in
    let rest : length (drop (offset + length news) bytes) ≡ length bytes - (offset + length news) = length-drop (offset + length news) bytes in
    let all : length (overwrite bytes offset news) ≡ length (take offset bytes ++ news) + length (drop (offset + length news) bytes) = length-append (take offset bytes ++ news) (drop (offset + length news) bytes) in
    omega (arith, front, both, rest, all)

-- ---- names
-- the length found is that of the bytes found
pub length_of_found : (name : List ℕ) (objects : Objects) → length_in name (lengths_seen objects) ≡ option_map (λ (bytes : List ℕ). length bytes) (bytes_of name objects)
length_of_found name [] = refl
length_of_found name (object ∷ others) = by (length_of_found name others) (bytes_eq name object.0)
  where
    by : length_in name (lengths_seen others) ≡ option_map (λ (bytes : List ℕ). length bytes) (bytes_of name others) → (b : Bool)
        → cond {A = Option ℕ} b (Some (length object.1)) (length_in name (lengths_seen others)) ≡ option_map (λ (bytes : List ℕ). length bytes) (cond {A = Option (List ℕ)} b (Some object.1) (bytes_of name others))
    by rest true = refl
    by rest false = rest

-- a put
pub lengths_of_put : (name bytes : List ℕ) (objects : Objects) → lengths_seen (put name bytes objects) ≡ put_length name (length bytes) (lengths_seen objects)
lengths_of_put name bytes [] = refl
lengths_of_put name bytes (object ∷ others) = by (lengths_of_put name bytes others) (bytes_eq name object.0)
  where
    by : lengths_seen (put name bytes others) ≡ put_length name (length bytes) (lengths_seen others) → (b : Bool)
        → lengths_seen (cond {A = Objects} b ((object.0, bytes) ∷ others) (object ∷ put name bytes others))
        ≡ cond {A = Lengths} b ((object.0, length bytes) ∷ lengths_seen others) ((object.0, length object.1) ∷ put_length name (length bytes) (lengths_seen others))
    by rest true = refl
    by rest false = ap (λ l. (object.0, length object.1) ∷ l) rest

-- a delete
pub lengths_of_delete : (name : List ℕ) (objects : Objects) → lengths_seen (delete name objects) ≡ delete_length name (lengths_seen objects)
lengths_of_delete name [] = refl
lengths_of_delete name (object ∷ others) = by (lengths_of_delete name others) (bytes_eq name object.0)
  where
    by : lengths_seen (delete name others) ≡ delete_length name (lengths_seen others) → (b : Bool)
        → lengths_seen (cond {A = Objects} b others (object ∷ delete name others)) ≡ cond {A = Lengths} b (lengths_seen others) ((object.0, length object.1) ∷ delete_length name (lengths_seen others))
    by rest true = refl
    by rest false = ap (λ l. (object.0, length object.1) ∷ l) rest

-- ---- each call
module _ (most : ℕ) (objects : Objects) where
  -- a result of the map, and one of the lengths
  record Same (map_result : Objects × Reply) (result : Lengths × Reply) : Type 0 where
    lengths_same : lengths_seen map_result.0 ≡ result.0
    reply_same : unread map_result.1 ≡ result.1

  -- the lengths by what was found
  abbrev by_found : Note → Option ℕ → Lengths × Reply
  by_found note found = answered_by note (lengths_seen objects) (refusal most note found)

  put_same : (name : List ℕ) (c : Content) (found : Option ℕ) → Same (put_sized most name c objects) (by_found (note_of (call.Put name c)) found)
  put_same name c found = by (nat_lt most (content_length c))
    where
      by : (b : Bool) → Same (cond {A = Objects × Reply} b (objects, reply.TooLarge) (put name (content_bytes c) objects, reply.Done))
          (answered_by (note_of (call.Put name c)) (lengths_seen objects) (cond {A = Option Reply} b (Some reply.TooLarge) None))
      by true = record { lengths_same = refl; reply_same = refl }
      by false = record { lengths_same = lengths_of_put name (content_bytes c) objects ∙ ap (λ n. put_length name n (lengths_seen objects)) (content_count c); reply_same = refl }

  module _ (name : List ℕ) (offset : ℕ) (c : Content) where
    abbrev note : Note
    note = note_of (call.Write name offset c)

    write_found : (bytes : List ℕ) → bytes_of name objects ≡ Some bytes → (b : Bool) → nat_lt (length bytes) offset ≡ b → (large : Bool)
        → Same (cond {A = Objects × Reply} b (objects, reply.OutRange) (cond {A = Objects × Reply} large (objects, reply.TooLarge) (put name (overwrite bytes offset (content_bytes c)) objects, reply.Done)))
        (answered_by note (lengths_seen objects) (cond {A = Option Reply} b (Some reply.OutRange) (cond {A = Option Reply} large (Some reply.TooLarge) None)))
    write_found bytes found true e large = record { lengths_same = refl; reply_same = refl }
    write_found bytes found false e true = record { lengths_same = refl; reply_same = refl }
    write_found bytes found false e false =
        record {
          lengths_same =
              lengths_of_put name (overwrite bytes offset (content_bytes c)) objects
              ∙ ap (λ n. put_length name n (lengths_seen objects)) (length-overwrite bytes offset (content_bytes c) (ltb-false (length bytes) offset e) ∙ ap (λ n. max (length bytes) (offset + n)) (content_count c))
              ∙ ap (λ o. put_length name (max (found_length o) (offset + content_length c)) (lengths_seen objects)) (sym (length_of_found name objects ∙ ap (option_map (λ (bytes : List ℕ). length bytes)) found));
          reply_same = refl;
        }

    write_same : (found : Option (List ℕ)) → bytes_of name objects ≡ found → Same (write_at most name offset c objects found) (by_found note (option_map (λ (bytes : List ℕ). length bytes) found))
    write_same None e = record { lengths_same = refl; reply_same = refl }
    write_same (Some bytes) e = write_found bytes e (nat_lt (length bytes) offset) refl (nat_lt most (offset + content_length c))

  get_same : (name : List ℕ) (found : Option (List ℕ)) → Same (objects, get_all found) (by_found (note_of (call.Get name)) (option_map (λ (bytes : List ℕ). length bytes) found))
  get_same name None = record { lengths_same = refl; reply_same = refl }
  get_same name (Some bytes) = record { lengths_same = refl; reply_same = refl }

  read_same : (name : List ℕ) (offset count : ℕ) (found : Option (List ℕ)) → Same (objects, read_at offset count found) (by_found (note_of (call.ReadAt name offset count)) (option_map (λ (bytes : List ℕ). length bytes) found))
  read_same name offset count None = record { lengths_same = refl; reply_same = refl }
  read_same name offset count (Some bytes) = by (nat_lt (length bytes) offset)
    where
      by : (b : Bool) → Same (objects, cond {A = Reply} b reply.OutRange (reply.Bytes (take count (drop offset bytes))))
          (answered_by (note_of (call.ReadAt name offset count)) (lengths_seen objects) (cond {A = Option Reply} b (Some reply.OutRange) None))
      by true = record { lengths_same = refl; reply_same = refl }
      by false = record { lengths_same = refl; reply_same = refl }

  stat_same : (name : List ℕ) (found : Option (List ℕ)) → bytes_of name objects ≡ found → Same (objects, length_of found) (by_found (note_of (call.Stat name)) (option_map (λ (bytes : List ℕ). length bytes) found))
  stat_same name None e = record { lengths_same = refl; reply_same = refl }
  stat_same name (Some bytes) e =
      record {
        lengths_same = refl;
        reply_same = ap (λ o. reply.Length (found_length o)) (sym (length_of_found name objects ∙ ap (option_map (λ (bytes : List ℕ). length bytes)) e));
      }

  delete_same : (name : List ℕ) (found : Option (List ℕ)) → Same (delete_found name objects found) (by_found (note_of (call.Delete name)) (option_map (λ (bytes : List ℕ). length bytes) found))
  delete_same name None = record { lengths_same = refl; reply_same = refl }
  delete_same name (Some bytes) = record { lengths_same = lengths_of_delete name objects; reply_same = refl }

  -- where the lengths find what the map does
  seen : (c : Call) (name : List ℕ) → (note_of c).name ≡ name → Same (apply most c objects) (by_found (note_of c) (option_map (λ (bytes : List ℕ). length bytes) (bytes_of name objects))) → IsSeenByLengths most c objects
  seen c name e same =
      let found : option_map (λ (bytes : List ℕ). length bytes) (bytes_of name objects) ≡ length_in (note_of c).name (lengths_seen objects) =
      sym (ap (λ n. length_in n (lengths_seen objects)) e ∙ length_of_found name objects) in
      record {
        lengths = same.lengths_same ∙ ap (λ o. (by_found (note_of c) o).0) found;
        replies = same.reply_same ∙ ap (λ o. (by_found (note_of c) o).1) found;
      }

  pub call_same : (c : Call) → IsSeenByLengths most c objects
  call_same (call.Put name c) = seen (call.Put name c) name refl (put_same name c (option_map (λ (bytes : List ℕ). length bytes) (bytes_of name objects)))
  call_same (call.Write name offset c) = seen (call.Write name offset c) name refl (write_same name offset c (bytes_of name objects) refl)
  call_same (call.Get name) = seen (call.Get name) name refl (get_same name (bytes_of name objects))
  call_same (call.ReadAt name offset count) = seen (call.ReadAt name offset count) name refl (read_same name offset count (bytes_of name objects))
  call_same (call.Stat name) = seen (call.Stat name) name refl (stat_same name (bytes_of name objects) refl)
  call_same (call.Delete name) = seen (call.Delete name) name refl (delete_same name (bytes_of name objects))

-- the law
pub lengths_are_the_map : LengthsAreTheMap
lengths_are_the_map most c objects = call_same most objects c
