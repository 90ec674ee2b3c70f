-- What the fields of a request are made of.
use Rattle.std.proofs.Common.{◌≡◌, ◌≤◌, ◌<◌, ℕ, nat_le, nat_lt, ◌==◌, ◌&&◌, Bool, true, false, Option, None, Some, List, [], ◌∷◌, length, take, drop, Result, Ok, Err, IsErr, refl, sym, ap, subst, ◌∙◌, arith, if◌then◌else◌}
use Rattle.std.proofs.lemmas.Bool.{true≢false, false≢true, le-leb, lt-leb, lt-ltb, le-ltb, eqb-true, and_from, and_right}
use Rattle.std.proofs.lemmas.List.{nil_from_length}
use Rattle.store_map.specs.Name.{is_name}
use Rattle.session_rules.specs.declared.request.Request.{Request}
use Rattle.session_rules.specs.Fields.{Reader, number_then, then_end}
use Rattle.frame_bytes.specs.Requests.{HasName, IsNamed, IsRead, BeginsWithName, BeginsWithNoName, BeginsWithNumber, BeginsWithNoNumber, IsNameAlone, IsNoNameAlone, AreNameAndNumbers, AreNoNameAndNumbers, IsServerAlone, IsNoServerAlone}

-- a name's length goes past the end, or the bytes are no name, or they are one
pub name_short : (count : ℕ) (bytes : List ℕ) → length bytes < count → BeginsWithNoName (count ∷ bytes)
name_short count bytes less next =
    ap (λ t. if t && is_name (take count bytes) then next (take count bytes) (drop count bytes) else None) (lt-leb count (length bytes) less)

pub name_bad : (count : ℕ) (bytes : List ℕ) → is_name (take count bytes) ≡ false → BeginsWithNoName (count ∷ bytes)
name_bad count bytes bad next =
    ap (λ t. if t then next (take count bytes) (drop count bytes) else None)
    (and_right (nat_le count (length bytes)) (is_name (take count bytes)) bad)

pub name_there : (count : ℕ) (bytes : List ℕ) → count ≤ length bytes → is_name (take count bytes) ≡ true →
    BeginsWithName (count ∷ bytes) (take count bytes) (drop count bytes)
name_there count bytes enough good next =
    ap (λ t. if t then next (take count bytes) (drop count bytes) else None)
    (and_from (nat_le count (length bytes)) (is_name (take count bytes)) (le-leb count (length bytes) enough) good)

-- bytes that are left where none may be
pub not_ended : {X : Type 0} (x : X) (rest : List ℕ) → 0 < length rest → then_end x rest ≡ None
not_ended x [] some = absurd (omega (arith, some))
not_ended x (byte ∷ rest) some = refl

pub ended : {X : Type 0} (x : X) (rest : List ℕ) → rest ≡ [] → then_end x rest ≡ Some x
ended x rest nothing = ap (then_end x) nothing

-- bytes that are left, by the answer of a test
pub some_left : (rest : List ℕ) (empty : Bool) → empty ≡ (length rest == 0) → empty ≡ false → 0 < length rest
some_left [] empty is not = absurd (true≢false (sym is ∙ not))
some_left (byte ∷ rest) empty is not = omega arith

pub none_left : (rest : List ℕ) (empty : Bool) → empty ≡ (length rest == 0) → empty ≡ true → rest ≡ []
none_left rest empty is true_is = nil_from_length rest (eqb-true (length rest) 0 (sym is ∙ true_is))

-- a name alone
pub alone : (fields name rest : List ℕ) → BeginsWithName fields name rest → rest ≡ [] → IsNameAlone fields name
alone fields name rest there nothing request = there (λ name. then_end (request name)) ∙ ended (request name) rest nothing

pub not_alone : (fields name rest : List ℕ) → BeginsWithName fields name rest → 0 < length rest → IsNoNameAlone fields
not_alone fields name rest there some request = there (λ name. then_end (request name)) ∙ not_ended (request name) rest some

pub nameless : (fields : List ℕ) → BeginsWithNoName fields → IsNoNameAlone fields
nameless fields none request = none (λ name. then_end (request name))

-- a name and two numbers
abbrev numbers_of : (List ℕ → ℕ → ℕ → Request) → List ℕ → Reader Request
numbers_of request name = number_then (λ first. number_then (λ second. then_end (request name first second)))

pub numbers_there : (fields name after rest left : List ℕ) (first second : ℕ) → BeginsWithName fields name after →
    BeginsWithNumber after first rest → BeginsWithNumber rest second left → left ≡ [] → AreNameAndNumbers fields name first second
numbers_there fields name after rest left first second named one two nothing request =
    named (numbers_of request) ∙ one (λ first. number_then (λ second. then_end (request name first second)))
    ∙ two (λ second. then_end (request name first second)) ∙ ended (request name first second) left nothing

pub numbers_unended : (fields name after rest left : List ℕ) (first second : ℕ) → BeginsWithName fields name after →
    BeginsWithNumber after first rest → BeginsWithNumber rest second left → 0 < length left → AreNoNameAndNumbers fields
numbers_unended fields name after rest left first second named one two some request =
    named (numbers_of request) ∙ one (λ first. number_then (λ second. then_end (request name first second)))
    ∙ two (λ second. then_end (request name first second)) ∙ not_ended (request name first second) left some

pub numbers_nameless : (fields : List ℕ) → BeginsWithNoName fields → AreNoNameAndNumbers fields
numbers_nameless fields none request = none (numbers_of request)

pub no_first : (fields name after : List ℕ) → BeginsWithName fields name after → BeginsWithNoNumber after → AreNoNameAndNumbers fields
no_first fields name after named none request =
    named (numbers_of request) ∙ none (λ first. number_then (λ second. then_end (request name first second)))

pub no_second : (fields name after rest : List ℕ) (first : ℕ) → BeginsWithName fields name after → BeginsWithNumber after first rest →
    BeginsWithNoNumber rest → AreNoNameAndNumbers fields
no_second fields name after rest first named one none request =
    named (numbers_of request) ∙ one (λ first. number_then (λ second. then_end (request name first second)))
    ∙ none (λ second. then_end (request name first second))

-- a server
abbrev server_of : ℕ → (ℕ → Request) → ℕ → Reader Request
server_of servers request server bytes = if nat_lt server servers then then_end (request server) bytes else None

pub server_there : (servers server : ℕ) (fields rest : List ℕ) → BeginsWithNumber fields server rest → server < servers → rest ≡ [] →
    IsServerAlone servers fields server
server_there servers server fields rest one below nothing request =
    one (server_of servers request) ∙ ap (λ t. if t then then_end (request server) rest else None) (lt-ltb server servers below)
    ∙ ended (request server) rest nothing

pub server_unended : (servers server : ℕ) (fields rest : List ℕ) → BeginsWithNumber fields server rest → server < servers → 0 < length rest →
    IsNoServerAlone servers fields
server_unended servers server fields rest one below some request =
    one (server_of servers request) ∙ ap (λ t. if t then then_end (request server) rest else None) (lt-ltb server servers below)
    ∙ not_ended (request server) rest some

pub no_server : (servers server : ℕ) (fields rest : List ℕ) → BeginsWithNumber fields server rest → servers ≤ server → IsNoServerAlone servers fields
no_server servers server fields rest one above request =
    one (server_of servers request) ∙ ap (λ t. if t then then_end (request server) rest else None) (le-ltb server servers above)

pub numberless : (servers : ℕ) (fields : List ℕ) → BeginsWithNoNumber fields → IsNoServerAlone servers fields
numberless servers fields none request = none (server_of servers request)

-- a request with a name is there, for which memory was wanting
pub wanting : {E : Type 0} (request : Option Request) (it : Request) → HasName it → request ≡ Some it → (r : Result (Option Request) E) → IsErr r →
    IsRead request r
wanting request it named is (Ok found) bad = absurd (false≢true bad)
wanting request it named is (Err fault) bad = subst IsNamed (sym is) named
