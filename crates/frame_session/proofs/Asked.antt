-- What a request names: names are names, and servers are among those that there are.
use Rattle.std.proofs.Common.{◌≡◌, ℕ, zero, suc, ◌<◌, nat_le, nat_lt, Bool, true, false, ◌&&◌, List, [], ◌∷◌, length, take, drop, Option, None, Some, option_and_then, refl, sym, ap, subst, ◌∙◌, if◌then◌else◌}
use Rattle.std.specs.List.{slice_get}
use Rattle.std.proofs.lemmas.Bool.{ltb-true, and_parts}
use Rattle.std.proofs.lemmas.Option.{same_Some, none-some}
use Rattle.byteorder.specs.Endian.{big_number}
use Rattle.store_map.specs.Name.{IsName, is_name}
use Rattle.store_map.specs.declared.call.Call.TheVariants as call
use Rattle.store_map.specs.declared.content.Content.TheVariants as content
use Rattle.session_rules.specs.declared.request.Request.{Request}
use Rattle.session_rules.specs.Calls.{name_in}
use Rattle.session_rules.specs.Fields.{Reader, name_then, number_then, then_end, rest_then}
use Rattle.session_rules.specs.Requests.{server_then, put_fields, get_fields, read_fields, write_fields, stat_fields, delete_fields, lose_fields, rebuild_fields, snap_read_fields, no_kind, fields_by_kind, request_of}
use Rattle.session_store.specs.Serving.{NamesServerBelow}

-- a call's name is one, and a server is one of so many
abbrev pub IsSound : ℕ → Request → Type 0
IsSound servers (Request.OfMap call) = IsName (name_in call)
IsSound servers request = NamesServerBelow servers request

-- what is made of a name has what is made of each name
of_name : {X : Type 0} (P : X → Type 0) (next : List ℕ → Reader X) → ((name rest : List ℕ) (x : X) → is_name name ≡ true → next name rest ≡ Some x → P x) →
    (bytes : List ℕ) (x : X) → name_then next bytes ≡ Some x → P x
of_name P next each [] x e = absurd (none-some x e)
of_name P next each (count ∷ bytes) x e = by (nat_le count (length bytes) && is_name (take count bytes)) refl
  where
    by : (t : Bool) → (nat_le count (length bytes) && is_name (take count bytes)) ≡ t → P x
    by false none = absurd (none-some x (sym (ap (λ t. if t then next (take count bytes) (drop count bytes) else None) none) ∙ e))
    by true there =
        each (take count bytes) (drop count bytes) x (and_parts (nat_le count (length bytes)) (is_name (take count bytes)) there).1
        (sym (ap (λ t. if t then next (take count bytes) (drop count bytes) else None) there) ∙ e)

of_number : {X : Type 0} (P : X → Type 0) (next : ℕ → Reader X) → ((number : ℕ) (rest : List ℕ) (x : X) → next number rest ≡ Some x → P x) →
    (bytes : List ℕ) (x : X) → number_then next bytes ≡ Some x → P x
of_number P next each bytes x e = by (nat_le 4 (length bytes)) e
  where
    by : (t : Bool) → (if t then next (big_number 4 bytes) (drop 4 bytes) else None) ≡ Some x → P x
    by false none = absurd (none-some x none)
    by true some = each (big_number 4 bytes) (drop 4 bytes) x some

of_server : (servers : ℕ) (P : Request → Type 0) (next : ℕ → Reader Request) →
    ((server : ℕ) (rest : List ℕ) (x : Request) → server < servers → next server rest ≡ Some x → P x) → (bytes : List ℕ) (x : Request) →
    server_then servers next bytes ≡ Some x → P x
of_server servers P next each bytes x e =
    of_number P (λ server bytes. if nat_lt server servers then next server bytes else None)
    (λ server rest x e. by server rest x (nat_lt server servers) refl e) bytes x e
  where
    by : (server : ℕ) (rest : List ℕ) (x : Request) (t : Bool) → nat_lt server servers ≡ t → (if t then next server rest else None) ≡ Some x → P x
    by server rest x false is none = absurd (none-some x none)
    by server rest x true is some = each server rest x (ltb-true server servers is) some

at_end : {X : Type 0} (P : X → Type 0) (x : X) → P x → (bytes : List ℕ) (y : X) → then_end x bytes ≡ Some y → P y
at_end P x holds [] y e = subst P (same_Some x y e) holds
at_end P x holds (byte ∷ bytes) y e = absurd (none-some y e)

of_rest : {X : Type 0} (P : X → Type 0) (next : List ℕ → X) → ((rest : List ℕ) → P (next rest)) → (bytes : List ℕ) (y : X) → rest_then next bytes ≡ Some y → P y
of_rest P next each bytes y e = subst P (same_Some (next bytes) y e) (each bytes)

-- what is read of the fields of a kind is sound
abbrev Reads : ℕ → Reader Request → Type 0
Reads servers reads = (fields : List ℕ) (request : Request) → reads fields ≡ Some request → IsSound servers request

put_reads : (servers : ℕ) → Reads servers put_fields
put_reads servers =
    of_name (IsSound servers) (λ name. rest_then (λ bytes. Request.OfMap (call.Put name (content.Hex bytes))))
    (λ name rest x is e. of_rest (IsSound servers) (λ bytes. Request.OfMap (call.Put name (content.Hex bytes))) (λ bytes. is) rest x e)

write_reads : (servers : ℕ) → Reads servers write_fields
write_reads servers =
    of_name (IsSound servers) (λ name. number_then (λ offset. rest_then (λ bytes. Request.OfMap (call.Write name offset (content.Hex bytes)))))
    (λ name rest x is e.
    of_number (IsSound servers) (λ offset. rest_then (λ bytes. Request.OfMap (call.Write name offset (content.Hex bytes))))
    (λ offset rest x e. of_rest (IsSound servers) (λ bytes. Request.OfMap (call.Write name offset (content.Hex bytes))) (λ bytes. is) rest x e) rest x e)

-- a name alone
name_reads : (servers : ℕ) (of : List ℕ → Request) → ((name : List ℕ) → is_name name ≡ true → IsSound servers (of name)) →
    Reads servers (name_then (λ name. then_end (of name)))
name_reads servers of each =
    of_name (IsSound servers) (λ name. then_end (of name)) (λ name rest x is e. at_end (IsSound servers) (of name) (each name is) rest x e)

-- a name and two numbers
numbers_reads : (servers : ℕ) (of : List ℕ → ℕ → ℕ → Request) → ((name : List ℕ) (a b : ℕ) → is_name name ≡ true → IsSound servers (of name a b)) →
    Reads servers (name_then (λ name. number_then (λ a. number_then (λ b. then_end (of name a b)))))
numbers_reads servers of each =
    of_name (IsSound servers) (λ name. number_then (λ a. number_then (λ b. then_end (of name a b))))
    (λ name rest x is e.
    of_number (IsSound servers) (λ a. number_then (λ b. then_end (of name a b)))
    (λ a rest x e.
    of_number (IsSound servers) (λ b. then_end (of name a b)) (λ b rest x e. at_end (IsSound servers) (of name a b) (each name a b is) rest x e) rest x e) rest x e)

lose_reads : (servers : ℕ) → Reads servers (lose_fields servers)
lose_reads servers =
    of_server servers (IsSound servers) (λ server. then_end (Request.Lose server))
    (λ server rest x below e. at_end (IsSound servers) (Request.Lose server) below rest x e)

rebuild_reads : (servers : ℕ) → Reads servers (rebuild_fields servers)
rebuild_reads servers =
    of_name (IsSound servers) (λ name. number_then (λ stripe. server_then servers (λ server. then_end (Request.Rebuild name stripe server))))
    (λ name rest x is e.
    of_number (IsSound servers) (λ stripe. server_then servers (λ server. then_end (Request.Rebuild name stripe server)))
    (λ stripe rest x e.
    of_server servers (IsSound servers) (λ server. then_end (Request.Rebuild name stripe server))
    (λ server rest x below e. at_end (IsSound servers) (Request.Rebuild name stripe server) below rest x e) rest x e) rest x e)

at_kind : (servers : ℕ) (of reads : Reader Request) → Reads servers of → Some of ≡ Some reads → Reads servers reads
at_kind servers of reads all e = subst (Reads servers) (same_Some {A = Reader Request} of reads e) all

each_kind : (servers kind : ℕ) (reads : Reader Request) → slice_get (fields_by_kind servers) kind ≡ Some reads → Reads servers reads
each_kind servers zero reads e = at_kind servers no_kind reads (λ fields request e. absurd (none-some request e)) e
each_kind servers (suc zero) reads e = at_kind servers put_fields reads (put_reads servers) e
each_kind servers (suc (suc zero)) reads e =
    at_kind servers get_fields reads (name_reads servers (λ name. Request.OfMap (call.Get name)) (λ name is. is)) e
each_kind servers (suc (suc (suc zero))) reads e =
    at_kind servers read_fields reads (numbers_reads servers (λ name a b. Request.OfMap (call.ReadAt name a b)) (λ name a b is. is)) e
each_kind servers (suc (suc (suc (suc zero)))) reads e = at_kind servers write_fields reads (write_reads servers) e
each_kind servers (suc (suc (suc (suc (suc zero))))) reads e =
    at_kind servers stat_fields reads (name_reads servers (λ name. Request.OfMap (call.Stat name)) (λ name is. is)) e
each_kind servers (suc (suc (suc (suc (suc (suc zero)))))) reads e =
    at_kind servers delete_fields reads (name_reads servers (λ name. Request.OfMap (call.Delete name)) (λ name is. is)) e
each_kind servers (suc (suc (suc (suc (suc (suc (suc zero))))))) reads e = at_kind servers (lose_fields servers) reads (lose_reads servers) e
each_kind servers (suc (suc (suc (suc (suc (suc (suc (suc zero)))))))) reads e = at_kind servers (rebuild_fields servers) reads (rebuild_reads servers) e
each_kind servers (suc (suc (suc (suc (suc (suc (suc (suc (suc zero))))))))) reads e =
    at_kind servers (then_end Request.Snap) reads (at_end (IsSound servers) Request.Snap tt) e
each_kind servers (suc (suc (suc (suc (suc (suc (suc (suc (suc (suc zero)))))))))) reads e =
    at_kind servers snap_read_fields reads (numbers_reads servers (λ name a b. Request.SnapRead name a b) (λ name a b is. tt)) e
each_kind servers (suc (suc (suc (suc (suc (suc (suc (suc (suc (suc (suc zero))))))))))) reads e =
    at_kind servers (then_end Request.SnapDrop) reads (at_end (IsSound servers) Request.SnapDrop tt) e
each_kind servers (suc (suc (suc (suc (suc (suc (suc (suc (suc (suc (suc (suc zero)))))))))))) reads e =
    at_kind servers (then_end Request.Scrub) reads (at_end (IsSound servers) Request.Scrub tt) e
each_kind servers (suc (suc (suc (suc (suc (suc (suc (suc (suc (suc (suc (suc (suc zero))))))))))))) reads e =
    at_kind servers (then_end Request.Heal) reads (at_end (IsSound servers) Request.Heal tt) e
each_kind servers (suc (suc (suc (suc (suc (suc (suc (suc (suc (suc (suc (suc (suc (suc kind)))))))))))))) reads e = absurd (none-some reads e)

pub request_sound : (servers : ℕ) (bytes : List ℕ) (request : Request) → request_of servers bytes ≡ Some request → IsSound servers request
request_sound servers [] request e = absurd (none-some request e)
request_sound servers (kind ∷ fields) request e = by (slice_get (fields_by_kind servers) kind) refl
  where
    by : (found : Option (Reader Request)) → slice_get (fields_by_kind servers) kind ≡ found → IsSound servers request
    by None none = absurd (none-some request (sym (ap (option_and_then (λ reads. reads fields)) none) ∙ e))
    by (Some reads) there = each_kind servers kind reads there fields request (sym (ap (option_and_then (λ reads. reads fields)) there) ∙ e)

pub names_server : (servers : ℕ) (request : Request) → IsSound servers request → NamesServerBelow servers request
names_server servers (Request.OfMap call) sound = tt
names_server servers (Request.Lose server) sound = sound
names_server servers (Request.Rebuild name stripe server) sound = sound
names_server servers Request.Snap sound = tt
names_server servers (Request.SnapRead name offset count) sound = tt
names_server servers Request.SnapDrop sound = tt
names_server servers Request.Scrub sound = tt
names_server servers Request.Heal sound = tt
