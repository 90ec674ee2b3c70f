-- A request is read from its frame as it was written.
use Rattle.std.proofs.Common.{◌≡◌, ℕ, ◌+◌, ◌^◌, ◌<◌, ◌≤◌, nat_lt, Bool, true, ◌&&◌, List, [], ◌++◌, length, take, drop, None, Some, refl, sym, ap, ◌∙◌, arith, if◌then◌else◌}
use Rattle.std.proofs.lemmas.Bool.{le-leb, lt-ltb}
use Rattle.std.proofs.lemmas.List.{append-nil, length-append, take_at, drop_at}
use Rattle.byteorder.specs.Endian.{big_bytes}
use Rattle.store_map.specs.Name.{is_name}
use Rattle.store_map.specs.Content.{content_bytes}
use Rattle.store_map.specs.declared.call.Call.TheVariants as call
use Rattle.store_map.specs.declared.content.Content.TheVariants as content
use Rattle.session_rules.specs.declared.request.Request.{Request}
use Rattle.session_rules.specs.Fields.{Reader, name_then, number_then, then_end, rest_then}
use Rattle.session_rules.specs.Requests.{server_then}
use Rattle.frame_bytes.specs.Sent.{name_bytes, RequestsAreRead}
use Rattle.frame_bytes.proofs.Numbers.{number_read}

-- a name that was written is read
name_read : {X : Type 0} (next : List ℕ → Reader X) (name rest : List ℕ) → is_name name ≡ true → name_then next (name_bytes name ++ rest) ≡ next name rest
name_read next name rest is =
    ap (λ (b : Bool). if b && is_name (take (length name) (name ++ rest)) then next (take (length name) (name ++ rest)) (drop (length name) (name ++ rest)) else None) (le-leb (length name) (length (name ++ rest)) enough)
    ∙ ap (λ l. if is_name l then next l (drop (length name) (name ++ rest)) else None) (take_at name rest (length name) refl)
    ∙ ap (λ b. if b then next name (drop (length name) (name ++ rest)) else None) is
    ∙ ap (next name) (drop_at name rest (length name) refl)
  where
    enough : length name ≤ length (name ++ rest)
    enough = let both : length (name ++ rest) ≡ length name + length rest = length-append name rest in omega (arith, both)

-- so is one that nothing follows
name_alone : {X : Type 0} (next : List ℕ → Reader X) (name : List ℕ) → is_name name ≡ true → name_then next (name_bytes name) ≡ next name []
name_alone next name is = ap (name_then next) (sym (append-nil (name_bytes name))) ∙ name_read next name [] is

-- so is a server's number
server_read : (servers : ℕ) (next : ℕ → Reader Request) (server : ℕ) (rest : List ℕ) → server < servers → server < 2 ^ 32 → server_then servers next (big_bytes 4 server ++ rest) ≡ next server rest
server_read servers next server rest below fits =
    number_read (λ server bytes. if nat_lt server servers then next server bytes else None) server rest fits
    ∙ ap (λ b. if b then next server rest else None) (lt-ltb server servers below)

-- and two numbers
numbers_read : {X : Type 0} (next : ℕ → ℕ → Reader X) (a b : ℕ) (rest : List ℕ) → a < 2 ^ 32 → b < 2 ^ 32 → number_then (λ a. number_then (next a)) (big_bytes 4 a ++ (big_bytes 4 b ++ rest)) ≡ next a b rest
numbers_read next a b rest fits_a fits_b = number_read (λ a. number_then (next a)) a (big_bytes 4 b ++ rest) fits_a ∙ number_read (next a) b rest fits_b

pub requests_are_read : RequestsAreRead
requests_are_read servers (Request.OfMap (call.Put name data_of)) (named, literal) =
    name_read (λ name. rest_then (λ bytes. Request.OfMap (call.Put name (content.Hex bytes)))) name (content_bytes data_of) named
    ∙ ap (λ c. Some (Request.OfMap (call.Put name c))) (sym literal)
requests_are_read servers (Request.OfMap (call.Write name offset data_of)) (named, fits, literal) =
    name_read (λ name. number_then (λ offset. rest_then (λ bytes. Request.OfMap (call.Write name offset (content.Hex bytes))))) name (big_bytes 4 offset ++ content_bytes data_of) named
    ∙ number_read (λ offset. rest_then (λ bytes. Request.OfMap (call.Write name offset (content.Hex bytes)))) offset (content_bytes data_of) fits
    ∙ ap (λ c. Some (Request.OfMap (call.Write name offset c))) (sym literal)
requests_are_read servers (Request.OfMap (call.Get name)) named = name_alone (λ name. then_end (Request.OfMap (call.Get name))) name named
requests_are_read servers (Request.OfMap (call.Stat name)) named = name_alone (λ name. then_end (Request.OfMap (call.Stat name))) name named
requests_are_read servers (Request.OfMap (call.Delete name)) named = name_alone (λ name. then_end (Request.OfMap (call.Delete name))) name named
requests_are_read servers (Request.OfMap (call.ReadAt name offset count)) (named, fits, fit) =
    name_read (λ name. number_then (λ offset. number_then (λ count. then_end (Request.OfMap (call.ReadAt name offset count))))) name (big_bytes 4 offset ++ big_bytes 4 count) named
    ∙ numbers_read (λ offset count. then_end (Request.OfMap (call.ReadAt name offset count))) offset count [] fits fit
requests_are_read servers (Request.Lose server) (below, fits) = server_read servers (λ server. then_end (Request.Lose server)) server [] below fits
requests_are_read servers (Request.Rebuild name stripe server) (named, fits, below, fit) =
    name_read (λ name. number_then (λ stripe. server_then servers (λ server. then_end (Request.Rebuild name stripe server)))) name (big_bytes 4 stripe ++ big_bytes 4 server) named
    ∙ number_read (λ stripe. server_then servers (λ server. then_end (Request.Rebuild name stripe server))) stripe (big_bytes 4 server) fits
    ∙ server_read servers (λ server. then_end (Request.Rebuild name stripe server)) server [] below fit
requests_are_read servers Request.Snap ok = refl
requests_are_read servers (Request.SnapRead name offset count) (named, fits, fit) =
    name_read (λ name. number_then (λ offset. number_then (λ count. then_end (Request.SnapRead name offset count)))) name (big_bytes 4 offset ++ big_bytes 4 count) named
    ∙ numbers_read (λ offset count. then_end (Request.SnapRead name offset count)) offset count [] fits fit
requests_are_read servers Request.SnapDrop ok = refl
requests_are_read servers Request.Scrub ok = refl
requests_are_read servers Request.Heal ok = refl
