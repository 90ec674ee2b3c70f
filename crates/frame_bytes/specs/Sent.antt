-- A request is read from its frame as it was written.
use Rattle.std.specs.Prelude.{◌≡◌, ◌<◌, ℕ, ◌^◌, List, [], ◌∷◌, ◌++◌, length, Some, All, ⊤}
use Rattle.byteorder.specs.Endian.{big_bytes}
use Rattle.store_map.specs.Name.{IsName}
use Rattle.store_map.specs.Content.{content_bytes}
use Rattle.store_map.specs.declared.call.Call.{Call}
use Rattle.store_map.specs.declared.call.Call.TheVariants as call
use Rattle.store_map.specs.declared.content.Content.{Content}
use Rattle.store_map.specs.declared.content.Content.TheVariants as content
use Rattle.session_rules.specs.declared.request.Request.{Request}
use Rattle.session_rules.specs.Requests.{request_of}

-- a name's length in one byte, then its bytes
abbrev pub name_bytes : List ℕ → List ℕ
name_bytes name = length name ∷ name

-- the frame of a call: its kind, then its fields
abbrev pub call_bytes : Call → List ℕ
call_bytes (call.Put name data_of) = 1 ∷ name_bytes name ++ content_bytes data_of
call_bytes (call.Get name) = 2 ∷ name_bytes name
call_bytes (call.ReadAt name offset count) = 3 ∷ name_bytes name ++ (big_bytes 4 offset ++ big_bytes 4 count)
call_bytes (call.Write name offset data_of) = 4 ∷ name_bytes name ++ (big_bytes 4 offset ++ content_bytes data_of)
call_bytes (call.Stat name) = 5 ∷ name_bytes name
call_bytes (call.Delete name) = 6 ∷ name_bytes name

-- the frame of a request
abbrev pub request_bytes : Request → List ℕ
request_bytes (Request.OfMap call) = call_bytes call
request_bytes (Request.Lose server) = 7 ∷ big_bytes 4 server
request_bytes (Request.Rebuild name stripe server) = 8 ∷ name_bytes name ++ (big_bytes 4 stripe ++ big_bytes 4 server)
request_bytes Request.Snap = 9 ∷ []
request_bytes (Request.SnapRead name offset count) = 10 ∷ name_bytes name ++ (big_bytes 4 offset ++ big_bytes 4 count)
request_bytes Request.SnapDrop = 11 ∷ []
request_bytes Request.Scrub = 12 ∷ []
request_bytes Request.Heal = 13 ∷ []

-- bytes are sent as they are
abbrev pub IsLiteral : Content → Type 0
IsLiteral data_of = data_of ≡ content.Hex (content_bytes data_of)

-- a call whose name is one, and whose numbers fit their fields
abbrev pub IsSendableCall : Call → Type 0
IsSendableCall (call.Put name data_of) = IsName name × IsLiteral data_of
IsSendableCall (call.Write name offset data_of) = IsName name × (offset < 2 ^ 32) × IsLiteral data_of
IsSendableCall (call.Get name) = IsName name
IsSendableCall (call.ReadAt name offset count) = IsName name × (offset < 2 ^ 32) × (count < 2 ^ 32)
IsSendableCall (call.Stat name) = IsName name
IsSendableCall (call.Delete name) = IsName name

-- the same of a request, whose server is one
abbrev pub IsSendable : ℕ → Request → Type 0
IsSendable servers (Request.OfMap call) = IsSendableCall call
IsSendable servers (Request.Lose server) = (server < servers) × (server < 2 ^ 32)
IsSendable servers (Request.Rebuild name stripe server) = IsName name × (stripe < 2 ^ 32) × (server < servers) × (server < 2 ^ 32)
IsSendable servers (Request.SnapRead name offset count) = IsName name × (offset < 2 ^ 32) × (count < 2 ^ 32)
IsSendable servers request = ⊤

-- each such request is read as it was written
abbrev pub RequestsAreRead : Type 0
RequestsAreRead = (servers : ℕ) (request : Request) → IsSendable servers request → request_of servers (request_bytes request) ≡ Some request

-- and what is read as a request is the frame of one that can be sent, and of no other
abbrev pub RequestsAreSent : Type 0
RequestsAreSent =
    (servers : ℕ) (bytes : List ℕ) (request : Request) → All (λ byte. byte < 256) bytes → request_of servers bytes ≡ Some request →
    IsSendable servers request × (bytes ≡ request_bytes request)
