-- The plain map by names and lengths alone.
use Rattle.std.specs.Prelude.{ℕ, ◌+◌, max, List, [], ◌∷◌, Option, None, Some, bytes_eq, if◌then◌else◌}
use Rattle.store_map.specs.declared.reply.Reply.{Reply}
use Rattle.store_map.specs.declared.reply.Reply.TheVariants as reply
use Rattle.store_core.specs.Note.{Note, Kind, refusal}

-- each object's name and length, in order of creation
abbrev pub Lengths : Type 0
Lengths = List (List ℕ × ℕ)

-- the length of the object with this name
abbrev pub length_in : List ℕ → Lengths → Option ℕ
length_in name [] = None
length_in name (entry ∷ entries) = if bytes_eq name entry.0 then Some entry.1 else length_in name entries

-- the object with this name gets a length; a new name goes to the end
abbrev pub put_length : List ℕ → ℕ → Lengths → Lengths
put_length name length [] = (name, length) ∷ []
put_length name length (entry ∷ entries) =
    if bytes_eq name entry.0 then (entry.0, length) ∷ entries else entry ∷ put_length name length entries

-- without the object with this name
abbrev pub delete_length : List ℕ → Lengths → Lengths
delete_length name [] = []
delete_length name (entry ∷ entries) = if bytes_eq name entry.0 then entries else entry ∷ delete_length name entries

-- the reply to a call that isn't refused; of a get or a read the bytes are left out
abbrev pub reply_by : Kind → ℕ → Reply
reply_by Kind.Put length = reply.Done
reply_by Kind.Write length = reply.Done
reply_by Kind.Delete length = reply.Done
reply_by Kind.Stat length = reply.Length length
reply_by _ length = reply.Bytes []

-- the lengths after a call that isn't refused, of an object of some length
abbrev pub lengths_by : Kind → Note → ℕ → Lengths → Lengths
lengths_by Kind.Put note length lengths = put_length note.name note.length lengths
lengths_by Kind.Write note length lengths = put_length note.name (max length (note.offset + note.length)) lengths
lengths_by Kind.Delete note length lengths = delete_length note.name lengths
lengths_by _ note length lengths = lengths

-- a new object has no bytes yet
abbrev pub found_length : Option ℕ → ℕ
found_length None = 0
found_length (Some length) = length

-- by the reply where the map refuses the call
abbrev pub answered_by : Note → Lengths → Option Reply → Lengths × Reply
answered_by note lengths (Some refused) = (lengths, refused)
answered_by note lengths None =
    let length : ℕ = found_length (length_in note.name lengths) in
    (lengths_by note.kind note length lengths, reply_by note.kind length)

-- the lengths after a call, and the reply, where an object has at most max bytes
abbrev pub apply_length : ℕ → Note → Lengths → Lengths × Reply
apply_length max_length note lengths = answered_by note lengths (refusal max_length note (length_in note.name lengths))
