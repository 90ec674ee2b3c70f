-- The plain map from names to bytes: what each call does to it, and what it answers.
use Rattle.std.specs.Prelude.{ℕ, ◌+◌, List, [], ◌∷◌, length, take, drop, Option, None, Some, nat_lt, bytes_eq, if◌then◌else◌}
use Rattle.store_map.specs.Content.{content_bytes, content_length, overwrite}
use Rattle.store_map.specs.declared.content.Content.{Content}
use Rattle.store_map.specs.declared.call.Call.{Call}
use Rattle.store_map.specs.declared.call.Call.TheVariants.{Put, Write, Get, ReadAt, Stat, Delete}
use Rattle.store_map.specs.declared.reply.Reply.{Reply}
use Rattle.store_map.specs.declared.reply.Reply.TheVariants.{Done, Bytes, Length, NoSuch, OutRange, TooLarge}

-- each object's name and its bytes, in order of creation
abbrev pub Objects : Type 0
Objects = List (List ℕ × List ℕ)

-- a map whose objects have at most max bytes each
pub record SizedMap : Type 0 where
  pub max : ℕ
  pub objects : Objects

-- the bytes of the object with this name
abbrev pub bytes_of : List ℕ → Objects → Option (List ℕ)
bytes_of name [] = None
bytes_of name (object ∷ others) = if bytes_eq name object.0 then Some object.1 else bytes_of name others

-- the object with this name gets these bytes in its place; a new name goes to the end
abbrev pub put : List ℕ → List ℕ → Objects → Objects
put name bytes [] = (name, bytes) ∷ []
put name bytes (object ∷ others) =
    if bytes_eq name object.0 then (object.0, bytes) ∷ others else object ∷ put name bytes others

-- without the object with this name; the others keep their order
abbrev pub delete : List ℕ → Objects → Objects
delete name [] = []
delete name (object ∷ others) = if bytes_eq name object.0 then others else object ∷ delete name others

-- a put is refused above max bytes
abbrev pub put_sized : ℕ → List ℕ → Content → Objects → Objects × Reply
put_sized max name content objects =
    if nat_lt max (content_length content) then (objects, TooLarge) else (put name (content_bytes content) objects, Done)

-- a write is refused where nothing has the name, past the end, and above max bytes, in this order
abbrev pub write_at : ℕ → List ℕ → ℕ → Content → Objects → Option (List ℕ) → Objects × Reply
write_at max name offset content objects None = (objects, NoSuch)
write_at max name offset content objects (Some bytes) =
    if nat_lt (length bytes) offset then (objects, OutRange)
    else (if nat_lt max (offset + content_length content) then (objects, TooLarge)
    else (put name (overwrite bytes offset (content_bytes content)) objects, Done))

-- a read past the end is refused; one that reaches over the end stops there
abbrev pub read_at : ℕ → ℕ → Option (List ℕ) → Reply
read_at offset count None = NoSuch
read_at offset count (Some bytes) = if nat_lt (length bytes) offset then OutRange else Bytes (take count (drop offset bytes))

-- a get gives all bytes
abbrev pub get_all : Option (List ℕ) → Reply
get_all None = NoSuch
get_all (Some bytes) = Bytes bytes

-- a stat gives the length
abbrev pub length_of : Option (List ℕ) → Reply
length_of None = NoSuch
length_of (Some bytes) = Length (length bytes)

-- a delete is refused where nothing has the name
abbrev pub delete_found : List ℕ → Objects → Option (List ℕ) → Objects × Reply
delete_found name objects None = (objects, NoSuch)
delete_found name objects (Some bytes) = (delete name objects, Done)

-- the map after a call, and the reply; an object has at most max bytes
abbrev pub apply : ℕ → Call → Objects → Objects × Reply
apply max (Put name content) objects = put_sized max name content objects
apply max (Write name offset content) objects = write_at max name offset content objects (bytes_of name objects)
apply max (Get name) objects = (objects, get_all (bytes_of name objects))
apply max (ReadAt name offset count) objects = (objects, read_at offset count (bytes_of name objects))
apply max (Stat name) objects = (objects, length_of (bytes_of name objects))
apply max (Delete name) objects = delete_found name objects (bytes_of name objects)
