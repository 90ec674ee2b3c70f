-- What is read as a request was written as it.
use Rattle.std.proofs.Common.{◌≡◌, ℕ, zero, suc, ◌+◌, ◌*◌, ◌^◌, ◌<◌, ◌≤◌, nat_le, nat_lt, Bool, true, false, ◌&&◌, List, [], ◌∷◌, ◌++◌, length, take, drop, Option, None, Some, All, IsTrue, option_and_then, refl, sym, ap, subst, ◌∙◌, arith, if◌then◌else◌}
use Rattle.std.specs.Int.{w32, from_be_bytes}
use Rattle.std.specs.List.{slice_get}
use Rattle.std.proofs.lemmas.Bool.{leb-true, ltb-true, and_parts}
use Rattle.std.proofs.lemmas.Option.{same_Some, none-some}
use Rattle.std.proofs.lemmas.List.{append-nil, length-take-le, take-append-drop}
use Rattle.byteorder.specs.Endian.{big_bytes}
use Rattle.store_map.specs.Name.{is_name}
use Rattle.store_map.specs.declared.call.Call.TheVariants as call
use Rattle.store_map.specs.declared.content.Content.TheVariants as content
use Rattle.session_rules.specs.declared.request.Request.{Request}
use Rattle.session_rules.specs.Fields.{Reader, name_then, number_then, then_end, rest_then}
use Rattle.session_rules.specs.Requests.{server_then, put_fields, get_fields, read_fields, write_fields, stat_fields, delete_fields, lose_fields, rebuild_fields, snap_read_fields, no_kind, fields_by_kind, request_of}
use Rattle.frame_bytes.specs.Sent.{name_bytes, request_bytes, IsSendable, RequestsAreSent}
use Rattle.frame_bytes.proofs.Numbers.{number_at, number_written}
use Rattle.frame_bytes.proofs.Cuts.{all_head, all_tail, all_right}

abbrev AreBytes : List ℕ → Type 0
AreBytes bytes = All (λ byte. byte < 256) bytes

-- a name was read, and what follows it
record IsNamed {X : Type 0} (next : List ℕ → Reader X) (bytes : List ℕ) (x : X) : Type 0 where
  name : List ℕ
  rest : List ℕ
  is : is_name name ≡ true
  whole : bytes ≡ name_bytes name ++ rest
  made : next name rest ≡ Some x
  are : AreBytes rest

named : {X : Type 0} (next : List ℕ → Reader X) (bytes : List ℕ) (x : X) → AreBytes bytes → name_then next bytes ≡ Some x → IsNamed next bytes x
named next [] x all e = absurd (none-some x e)
named next (count ∷ bytes) x all e = by (nat_le count (length bytes) && is_name (take count bytes)) refl
  where
    by : (t : Bool) → (nat_le count (length bytes) && is_name (take count bytes)) ≡ t → IsNamed next (count ∷ bytes) x
    by false none = absurd (none-some x (sym (ap (λ t. if t then next (take count bytes) (drop count bytes) else None) none) ∙ e))
    by true there =
        let parts : (nat_le count (length bytes) ≡ true) × (is_name (take count bytes) ≡ true) = and_parts (nat_le count (length bytes)) (is_name (take count bytes)) there in
        let size : length (take count bytes) ≡ count = length-take-le count bytes (leb-true count (length bytes) parts.0) in
        record {
          name = take count bytes;
          rest = drop count bytes;
          is = parts.1;
          whole = ap (λ n. n ∷ bytes) (sym size) ∙ ap (λ l. length (take count bytes) ∷ l) (sym (take-append-drop count bytes));
          made = sym (ap (λ t. if t then next (take count bytes) (drop count bytes) else None) there) ∙ e;
          are =
              all_right (λ byte. byte < 256) (take count bytes) (drop count bytes)
              (subst AreBytes (sym (take-append-drop count bytes)) (all_tail (λ byte. byte < 256) count bytes all));
        }

-- a number was read
record IsNumbered {X : Type 0} (next : ℕ → Reader X) (bytes : List ℕ) (x : X) : Type 0 where
  number : ℕ
  rest : List ℕ
  fits : number < 2 ^ 32
  whole : bytes ≡ big_bytes 4 number ++ rest
  made : next number rest ≡ Some x
  are : AreBytes rest

numbered : {X : Type 0} (next : ℕ → Reader X) (bytes : List ℕ) (x : X) → AreBytes bytes → number_then next bytes ≡ Some x → IsNumbered next bytes x
numbered next [] x all e = absurd (none-some x e)
numbered next (a ∷ []) x all e = absurd (none-some x e)
numbered next (a ∷ b ∷ []) x all e = absurd (none-some x e)
numbered next (a ∷ b ∷ c ∷ []) x all e = absurd (none-some x e)
numbered next (a ∷ b ∷ c ∷ d ∷ rest) x all e =
    let first : a < 256 = all 0 0 (omega arith) in
    let second : b < 256 = all 1 0 (omega arith) in
    let third : c < 256 = all 2 0 (omega arith) in
    let fourth : d < 256 = all 3 0 (omega arith) in
    let number : ℕ = from_be_bytes w32 (a ∷ b ∷ c ∷ d ∷ []) in
    let sum : from_be_bytes w32 (a ∷ b ∷ c ∷ d ∷ []) ≡ a * 16777216 + b * 65536 + c * 256 + d = refl in
    record {
      number = number;
      rest = rest;
      fits = omega (arith, first, second, third, fourth, sum);
      whole = ap (λ l. l ++ rest) (sym (number_written a b c d first second third fourth));
      made = sym (number_at next a b c d rest) ∙ e;
      are = all_right (λ byte. byte < 256) (a ∷ b ∷ c ∷ d ∷ []) rest all;
    }

-- the number of a server was read
record IsServer (servers : ℕ) (next : ℕ → Reader Request) (bytes : List ℕ) (x : Request) : Type 0 where
  number : ℕ
  rest : List ℕ
  below : number < servers
  fits : number < 2 ^ 32
  whole : bytes ≡ big_bytes 4 number ++ rest
  made : next number rest ≡ Some x

served : (servers : ℕ) (next : ℕ → Reader Request) (bytes : List ℕ) (x : Request) → AreBytes bytes → server_then servers next bytes ≡ Some x →
    IsServer servers next bytes x
served servers next bytes x all e = by (nat_lt it.number servers) refl
  where
    it : IsNumbered (λ server bytes. if nat_lt server servers then next server bytes else None) bytes x
    it = numbered (λ server bytes. if nat_lt server servers then next server bytes else None) bytes x all e

    by : (t : Bool) → nat_lt it.number servers ≡ t → IsServer servers next bytes x
    by false none = absurd (none-some x (sym (ap (λ t. if t then next it.number it.rest else None) none) ∙ it.made))
    by true there = record {
      number = it.number;
      rest = it.rest;
      below = ltb-true it.number servers there;
      fits = it.fits;
      whole = it.whole;
      made = sym (ap (λ t. if t then next it.number it.rest else None) there) ∙ it.made;
    }

-- nothing was left
ended : {X : Type 0} (x y : X) (bytes : List ℕ) → then_end x bytes ≡ Some y → (bytes ≡ []) × (x ≡ y)
ended x y [] e = (refl, same_Some x y e)
ended x y (byte ∷ bytes) e = absurd (none-some y e)

-- the fields of a kind are read as they are written
abbrev Sends : ℕ → ℕ → Reader Request → Type 0
Sends servers kind reads =
    (fields : List ℕ) (request : Request) → AreBytes fields → reads fields ≡ Some request → IsSendable servers request × (kind ∷ fields ≡ request_bytes request)

-- a request that was made of its fields
abbrev IsSent : ℕ → ℕ → List ℕ → Request → Type 0
IsSent servers kind fields request = IsSendable servers request × (kind ∷ fields ≡ request_bytes request)

put_sent : (servers : ℕ) → Sends servers 1 put_fields
put_sent servers fields request all e =
    let it = named (λ name. rest_then (λ bytes. Request.OfMap (call.Put name (content.Hex bytes)))) fields request all e in
    subst (IsSent servers 1 fields) (same_Some (Request.OfMap (call.Put it.name (content.Hex it.rest))) request it.made) ((it.is, refl), ap (λ l. 1 ∷ l) it.whole)

write_sent : (servers : ℕ) → Sends servers 4 write_fields
write_sent servers fields request all e =
    let it = named (λ name. number_then (λ offset. rest_then (λ bytes. Request.OfMap (call.Write name offset (content.Hex bytes))))) fields request all e in
    let at = numbered (λ offset. rest_then (λ bytes. Request.OfMap (call.Write it.name offset (content.Hex bytes)))) it.rest request it.are it.made in
    subst (IsSent servers 4 fields) (same_Some (Request.OfMap (call.Write it.name at.number (content.Hex at.rest))) request at.made)
    ((it.is, at.fits, refl), ap (λ l. 4 ∷ l) (it.whole ∙ ap (λ l. name_bytes it.name ++ l) at.whole))

-- a name alone
name_sent : (kind servers : ℕ) (of : List ℕ → Request) → ((name : List ℕ) → is_name name ≡ true → IsSent servers kind (name_bytes name) (of name)) →
    Sends servers kind (name_then (λ name. then_end (of name)))
name_sent kind servers of each fields request all e =
    let it = named (λ name. then_end (of name)) fields request all e in
    let end : (it.rest ≡ []) × (of it.name ≡ request) = ended (of it.name) request it.rest it.made in
    let whole : fields ≡ name_bytes it.name = it.whole ∙ ap (λ l. name_bytes it.name ++ l) end.0 ∙ append-nil (name_bytes it.name) in
    subst (IsSent servers kind fields) end.1 (subst (λ l. IsSent servers kind l (of it.name)) (sym whole) (each it.name it.is))

-- a name and two numbers
numbers_sent : (kind servers : ℕ) (of : List ℕ → ℕ → ℕ → Request) →
    ((name : List ℕ) (a b : ℕ) → is_name name ≡ true → a < 2 ^ 32 → b < 2 ^ 32 → IsSent servers kind (name_bytes name ++ (big_bytes 4 a ++ big_bytes 4 b)) (of name a b)) →
    Sends servers kind (name_then (λ name. number_then (λ a. number_then (λ b. then_end (of name a b)))))
numbers_sent kind servers of each fields request all e =
    let it = named (λ name. number_then (λ a. number_then (λ b. then_end (of name a b)))) fields request all e in
    let one = numbered (λ a. number_then (λ b. then_end (of it.name a b))) it.rest request it.are it.made in
    let two = numbered (λ b. then_end (of it.name one.number b)) one.rest request one.are one.made in
    let end : (two.rest ≡ []) × (of it.name one.number two.number ≡ request) = ended (of it.name one.number two.number) request two.rest two.made in
    let last : one.rest ≡ big_bytes 4 two.number = two.whole ∙ ap (λ l. big_bytes 4 two.number ++ l) end.0 ∙ append-nil (big_bytes 4 two.number) in
    let whole : fields ≡ name_bytes it.name ++ (big_bytes 4 one.number ++ big_bytes 4 two.number) =
    it.whole ∙ ap (λ l. name_bytes it.name ++ l) (one.whole ∙ ap (λ l. big_bytes 4 one.number ++ l) last) in
    subst (IsSent servers kind fields) end.1
    (subst (λ l. IsSent servers kind l (of it.name one.number two.number)) (sym whole) (each it.name one.number two.number it.is one.fits two.fits))

lose_sent : (servers : ℕ) → Sends servers 7 (lose_fields servers)
lose_sent servers fields request all e =
    let it = served servers (λ server. then_end (Request.Lose server)) fields request all e in
    let end : (it.rest ≡ []) × (Request.Lose it.number ≡ request) = ended (Request.Lose it.number) request it.rest it.made in
    let whole : fields ≡ big_bytes 4 it.number = it.whole ∙ ap (λ l. big_bytes 4 it.number ++ l) end.0 ∙ append-nil (big_bytes 4 it.number) in
    subst (IsSent servers 7 fields) end.1 ((it.below, it.fits), ap (λ l. 7 ∷ l) whole)

rebuild_sent : (servers : ℕ) → Sends servers 8 (rebuild_fields servers)
rebuild_sent servers fields request all e =
    let it = named (λ name. number_then (λ stripe. server_then servers (λ server. then_end (Request.Rebuild name stripe server)))) fields request all e in
    let at = numbered (λ stripe. server_then servers (λ server. then_end (Request.Rebuild it.name stripe server))) it.rest request it.are it.made in
    let to = served servers (λ server. then_end (Request.Rebuild it.name at.number server)) at.rest request at.are at.made in
    let end : (to.rest ≡ []) × (Request.Rebuild it.name at.number to.number ≡ request) = ended (Request.Rebuild it.name at.number to.number) request to.rest to.made in
    let last : at.rest ≡ big_bytes 4 to.number = to.whole ∙ ap (λ l. big_bytes 4 to.number ++ l) end.0 ∙ append-nil (big_bytes 4 to.number) in
    subst (IsSent servers 8 fields) end.1 (
      (it.is, at.fits, to.below, to.fits),
      ap (λ l. 8 ∷ l) (it.whole ∙ ap (λ l. name_bytes it.name ++ l) (at.whole ∙ ap (λ l. big_bytes 4 at.number ++ l) last)),
    )

-- no fields
alone_sent : (kind servers : ℕ) (request : Request) → IsSent servers kind [] request → Sends servers kind (then_end request)
alone_sent kind servers request sent fields other all e =
    let end : (fields ≡ []) × (request ≡ other) = ended request other fields e in
    subst (IsSent servers kind fields) end.1 (subst (λ l. IsSent servers kind l request) (sym end.0) sent)

-- each kind is read so
abbrev SendsAt : ℕ → ℕ → Type 0
SendsAt servers kind = (reads : Reader Request) → slice_get (fields_by_kind servers) kind ≡ Some reads → Sends servers kind reads

at_kind : (servers kind : ℕ) (of reads : Reader Request) → Sends servers kind of → Some of ≡ Some reads → Sends servers kind reads
at_kind servers kind of reads sends e = subst (Sends servers kind) (same_Some {A = Reader Request} of reads e) sends

each_kind : (servers kind : ℕ) → SendsAt servers kind
each_kind servers zero reads e = at_kind servers 0 no_kind reads (λ fields request all e. absurd (none-some request e)) e
each_kind servers (suc zero) reads e = at_kind servers 1 put_fields reads (put_sent servers) e
each_kind servers (suc (suc zero)) reads e =
    at_kind servers 2 get_fields reads (name_sent 2 servers (λ name. Request.OfMap (call.Get name)) (λ name is. (is, refl))) e
each_kind servers (suc (suc (suc zero))) reads e =
    at_kind servers 3 read_fields reads (numbers_sent 3 servers (λ name a b. Request.OfMap (call.ReadAt name a b)) (λ name a b is fits fit. ((is, fits, fit), refl))) e
each_kind servers (suc (suc (suc (suc zero)))) reads e = at_kind servers 4 write_fields reads (write_sent servers) e
each_kind servers (suc (suc (suc (suc (suc zero))))) reads e =
    at_kind servers 5 stat_fields reads (name_sent 5 servers (λ name. Request.OfMap (call.Stat name)) (λ name is. (is, refl))) e
each_kind servers (suc (suc (suc (suc (suc (suc zero)))))) reads e =
    at_kind servers 6 delete_fields reads (name_sent 6 servers (λ name. Request.OfMap (call.Delete name)) (λ name is. (is, refl))) e
each_kind servers (suc (suc (suc (suc (suc (suc (suc zero))))))) reads e = at_kind servers 7 (lose_fields servers) reads (lose_sent servers) e
each_kind servers (suc (suc (suc (suc (suc (suc (suc (suc zero)))))))) reads e = at_kind servers 8 (rebuild_fields servers) reads (rebuild_sent servers) e
each_kind servers (suc (suc (suc (suc (suc (suc (suc (suc (suc zero))))))))) reads e =
    at_kind servers 9 (then_end Request.Snap) reads (alone_sent 9 servers Request.Snap (tt, refl)) e
each_kind servers (suc (suc (suc (suc (suc (suc (suc (suc (suc (suc zero)))))))))) reads e =
    at_kind servers 10 snap_read_fields reads (numbers_sent 10 servers (λ name a b. Request.SnapRead name a b) (λ name a b is fits fit. ((is, fits, fit), refl))) e
each_kind servers (suc (suc (suc (suc (suc (suc (suc (suc (suc (suc (suc zero))))))))))) reads e =
    at_kind servers 11 (then_end Request.SnapDrop) reads (alone_sent 11 servers Request.SnapDrop (tt, refl)) e
each_kind servers (suc (suc (suc (suc (suc (suc (suc (suc (suc (suc (suc (suc zero)))))))))))) reads e =
    at_kind servers 12 (then_end Request.Scrub) reads (alone_sent 12 servers Request.Scrub (tt, refl)) e
each_kind servers (suc (suc (suc (suc (suc (suc (suc (suc (suc (suc (suc (suc (suc zero))))))))))))) reads e =
    at_kind servers 13 (then_end Request.Heal) reads (alone_sent 13 servers Request.Heal (tt, refl)) e
each_kind servers (suc (suc (suc (suc (suc (suc (suc (suc (suc (suc (suc (suc (suc (suc kind)))))))))))))) reads e = absurd (none-some reads e)

pub requests_are_sent : RequestsAreSent
requests_are_sent servers [] request all e = absurd (none-some request e)
requests_are_sent servers (kind ∷ fields) request all e = by (slice_get (fields_by_kind servers) kind) refl
  where
    by : (found : Option (Reader Request)) → slice_get (fields_by_kind servers) kind ≡ found → IsSendable servers request × (kind ∷ fields ≡ request_bytes request)
    by None none = absurd (none-some request (sym (ap (option_and_then (λ reads. reads fields)) none) ∙ e))
    by (Some reads) there =
        each_kind servers kind reads there fields request (all_tail (λ byte. byte < 256) kind fields all)
        (sym (ap (option_and_then (λ reads. reads fields)) there) ∙ e)
