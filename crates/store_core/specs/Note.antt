-- What the directory keeps of a call: no bytes.
use Rattle.std.specs.Prelude.{ℕ, ◌+◌, List, Option, None, Some, nat_lt, if◌then◌else◌}
use Rattle.store_map.specs.Content.{content_length}
use Rattle.store_map.specs.declared.call.Call.{Call}
use Rattle.store_map.specs.declared.call.Call.TheVariants as call
use Rattle.store_map.specs.declared.call.Rebuild.{Rebuild as RebuildCall}
use Rattle.store_map.specs.declared.reply.Reply.{Reply}
use Rattle.store_map.specs.declared.reply.Reply.TheVariants as reply

-- the kinds of call
pub data Kind : Type 0 where
  Put Write Get ReadAt Stat Delete Rebuild : Kind

-- a call's kind, its object's name, and the bytes that it speaks of; of a rebuild the offset is the stripe's number
pub record Note : Type 0 where
  pub kind : Kind
  pub name : List ℕ
  pub offset : ℕ
  pub length : ℕ

-- what is kept of a client's call
abbrev pub note_of : Call → Note
note_of (call.Put name content) = record { kind = Kind.Put; name = name; offset = 0; length = content_length content }
note_of (call.Write name offset content) = record { kind = Kind.Write; name = name; offset = offset; length = content_length content }
note_of (call.Get name) = record { kind = Kind.Get; name = name; offset = 0; length = 0 }
note_of (call.ReadAt name offset count) = record { kind = Kind.ReadAt; name = name; offset = offset; length = count }
note_of (call.Stat name) = record { kind = Kind.Stat; name = name; offset = 0; length = 0 }
note_of (call.Delete name) = record { kind = Kind.Delete; name = name; offset = 0; length = 0 }

-- what is kept of a repairer's call
abbrev pub note_of_rebuild : RebuildCall → Note
note_of_rebuild rebuild = record { kind = Kind.Rebuild; name = rebuild.name; offset = rebuild.stripe; length = 0 }

-- too large for an object of at most max bytes
abbrev pub refusal_of_size : ℕ → ℕ → Option Reply
refusal_of_size max n = if nat_lt max n then Some reply.TooLarge else None

-- an offset past the end goes before any other reason
abbrev pub refusal_of_offset : ℕ → ℕ → Option Reply → Option Reply
refusal_of_offset length offset otherwise = if nat_lt length offset then Some reply.OutRange else otherwise

-- the reply where the map refuses a call, by the most bytes that an object may have and the length of the object, if there is one
abbrev pub refusal_by : ℕ → Kind → ℕ → ℕ → Option ℕ → Option Reply
refusal_by max Kind.Put offset n found = refusal_of_size max n
refusal_by max Kind.Write offset n (Some length) = refusal_of_offset length offset (refusal_of_size max (offset + n))
refusal_by max Kind.ReadAt offset n (Some length) = refusal_of_offset length offset None
refusal_by max kind offset n None = Some reply.NoSuch
refusal_by max kind offset n (Some length) = None

-- the same for a call that is known by its note
abbrev pub refusal : ℕ → Note → Option ℕ → Option Reply
refusal max note found = refusal_by max note.kind note.offset note.length found
