-- What is handed to a sink through a block in which bytes wait.
use Rattle.std.specs.Prelude.{◌≡◌, ◌≤◌, ◌<◌, ℕ, ◌+◌, ◌*◌, ◌^◌, Option, List, ◌++◌, length, Result, Ok, Err, OnOk, OnErr}
use Rattle.clay_bytes.specs.Stream.{Rises, Accepts, AcceptsPrefix}
use Rattle.store_map.specs.declared.reply.Reply.{Reply}
use Rattle.store_map.specs.declared.reply.Reply.TheVariants as reply
use Rattle.session_rules.specs.declared.session_answer.Answer.{Answer}

-- of these bytes some were accepted, and the others wait
abbrev pub Passes : List ℕ → Option (List ℕ) → List ℕ → List ℕ → Option (List ℕ) → List ℕ → Type 0
Passes accepted written bytes now new waiting = (gone : List ℕ) × Accepts accepted written gone now new × (bytes ≡ gone ++ waiting)

-- so it is after a call that put bytes behind others; after a fault a prefix of them was accepted
abbrev pub Reaches : {X E : Type 0} → Result X E → List ℕ → Option (List ℕ) → List ℕ → List ℕ → Option (List ℕ) → List ℕ → Type 0
Reaches (Ok done) accepted written bytes now new waiting = Passes accepted written bytes now new waiting
Reaches (Err fault) accepted written bytes now new waiting = AcceptsPrefix accepted written bytes now new

-- a piece was put behind the bytes that waited, or a write failed, and then its count rose
pub record Puts {K X E : Type 0} (accepted : K → List ℕ) (written : K → Option (List ℕ)) (faults : K → ℕ) (old new : K)
    (waited waiting piece : List ℕ) (result : Result X E) : Type 0 where
  pub bytes : Reaches result (accepted old) (written old) (waited ++ piece) (accepted new) (written new) waiting
  pub cause : OnErr result (Rises (faults old) (faults new))
  pub steady : OnOk result (faults new ≡ faults old)
  pub count : faults old ≤ faults new

-- a reply's frame has a length in four bytes
abbrev pub IsWritableReply : Reply → Type 0
IsWritableReply (reply.Bytes bytes) = length bytes + 1 < 2 ^ 32
IsWritableReply _ = Unit {0}

-- an answer's frame has a length in four bytes, and the servers that it names are counted in one
abbrev pub IsWritable : Answer → Type 0
IsWritable (Answer.Replied reply) = IsWritableReply reply
IsWritable (Answer.Unavailable stripe missing) = length missing < 2 ^ 8
IsWritable (Answer.Healed rebuilt taken) = 9 + 8 * length taken < 2 ^ 32
IsWritable _ = Unit {0}
