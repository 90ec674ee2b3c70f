-- How a request is read from the fields of its frame.
use Rattle.std.specs.Prelude.{◌≡◌, ⊤, ℕ, Option, None, Some, List, Result, Ok, Err}
use Rattle.session_rules.specs.declared.request.Request.{Request}
use Rattle.session_rules.specs.Fields.{Reader, name_then, number_then, then_end}
use Rattle.session_rules.specs.Requests.{server_then}

-- a request that has a name, which takes memory of its own
abbrev pub HasName : Request → Type 0
HasName (Request.OfMap call) = ⊤
HasName (Request.Rebuild name stripe server) = ⊤
HasName (Request.SnapRead name offset count) = ⊤
HasName request = ⊥

-- there is one, and it has a name
abbrev pub IsNamed : Option Request → Type 0
IsNamed None = ⊥
IsNamed (Some request) = HasName request

-- this was found: the request, if the bytes are one; memory was wanting only for one with a name
abbrev pub IsRead : {E : Type 0} → Option Request → Result (Option Request) E → Type 0
IsRead request (Ok found) = found ≡ request
IsRead request (Err fault) = IsNamed request

-- a name stands first, and these bytes follow it: whatever is made of them is made of the fields
abbrev pub BeginsWithName : List ℕ → List ℕ → List ℕ → Type 0
BeginsWithName fields name rest = (next : List ℕ → Reader Request) → name_then next fields ≡ next name rest

abbrev pub BeginsWithNoName : List ℕ → Type 0
BeginsWithNoName fields = (next : List ℕ → Reader Request) → name_then next fields ≡ None

-- the same of a number
abbrev pub BeginsWithNumber : List ℕ → ℕ → List ℕ → Type 0
BeginsWithNumber fields number rest = (next : ℕ → Reader Request) → number_then next fields ≡ next number rest

abbrev pub BeginsWithNoNumber : List ℕ → Type 0
BeginsWithNoNumber fields = (next : ℕ → Reader Request) → number_then next fields ≡ None

-- a name is all of the fields
abbrev pub IsNameAlone : List ℕ → List ℕ → Type 0
IsNameAlone fields name = (request : List ℕ → Request) → name_then (λ name. then_end (request name)) fields ≡ Some (request name)

abbrev pub IsNoNameAlone : List ℕ → Type 0
IsNoNameAlone fields = (request : List ℕ → Request) → name_then (λ name. then_end (request name)) fields ≡ None

-- a name and two numbers are all of the fields
abbrev pub AreNameAndNumbers : List ℕ → List ℕ → ℕ → ℕ → Type 0
AreNameAndNumbers fields name first second =
    (request : List ℕ → ℕ → ℕ → Request) →
    name_then (λ name. number_then (λ first. number_then (λ second. then_end (request name first second)))) fields ≡ Some (request name first second)

abbrev pub AreNoNameAndNumbers : List ℕ → Type 0
AreNoNameAndNumbers fields =
    (request : List ℕ → ℕ → ℕ → Request) →
    name_then (λ name. number_then (λ first. number_then (λ second. then_end (request name first second)))) fields ≡ None

-- the number of one of so many servers is all of the fields
abbrev pub IsServerAlone : ℕ → List ℕ → ℕ → Type 0
IsServerAlone servers fields server =
    (request : ℕ → Request) → server_then servers (λ server. then_end (request server)) fields ≡ Some (request server)

abbrev pub IsNoServerAlone : ℕ → List ℕ → Type 0
IsNoServerAlone servers fields = (request : ℕ → Request) → server_then servers (λ server. then_end (request server)) fields ≡ None
