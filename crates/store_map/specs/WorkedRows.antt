-- Calls with their replies, as the definitions alone compute them.
use Rattle.std.specs.Prelude.{◌≡◌, ℕ, List, [], ◌∷◌}
use Rattle.store_map.specs.History.{replies_of, map_after}
use Rattle.store_map.specs.declared.call.Call.{Call}
use Rattle.store_map.specs.declared.call.Call.TheVariants.{Put, Write, Get, ReadAt, Stat, Delete}
use Rattle.store_map.specs.declared.content.Content.TheVariants.{Hex, Fill, Ramp}
use Rattle.store_map.specs.declared.reply.Reply.TheVariants.{Done, Bytes, Length, NoSuch, OutRange, TooLarge}

-- the name 'a'
abbrev pub name_a : List ℕ
name_a = 97 ∷ []

-- the name 'b'
abbrev pub name_b : List ℕ
name_b = 98 ∷ []

-- each reason to refuse, under 10 bytes an object, and which goes first
abbrev pub refused_calls : List Call
refused_calls =
    Write name_a 0 (Hex (0 ∷ [])) ∷ Put name_a (Fill 0 11) ∷ Put name_a (Fill 0 8) ∷ Write name_a 9 (Fill 0 9)
    ∷ Write name_a 8 (Hex (1 ∷ 2 ∷ [])) ∷ Write name_a 9 (Hex (1 ∷ 2 ∷ [])) ∷ Stat name_a ∷ ReadAt name_a 7 100
    ∷ Delete name_a ∷ Delete name_a ∷ []

-- an empty object, read at its end and past it
abbrev pub empty_object_calls : List Call
empty_object_calls =
    Put name_a (Fill 0 0) ∷ Get name_a ∷ ReadAt name_a 0 0 ∷ ReadAt name_a 1 0 ∷ Stat name_a ∷ Write name_a 0 (Hex []) ∷ []

-- a ramp that passes 255, written over in its middle, read in part
abbrev pub ramp_calls : List Call
ramp_calls = Put name_a (Ramp 254 4) ∷ Write name_a 1 (Hex (7 ∷ [])) ∷ Get name_a ∷ ReadAt name_a 2 1 ∷ []

-- a put of an object that is there
abbrev pub replacing_calls : List Call
replacing_calls = Put name_a (Fill 1 1) ∷ Put name_b (Fill 2 1) ∷ Put name_a (Fill 3 2) ∷ []

-- a put of an object that was deleted
abbrev pub recreating_calls : List Call
recreating_calls = Put name_a (Fill 1 1) ∷ Put name_b (Fill 2 1) ∷ Delete name_a ∷ Put name_a (Fill 3 2) ∷ []

-- the replies and the maps that these calls lead to
pub record AreRowsOfTheMap : Type 0 where
  pub refused :
      replies_of 10 refused_calls
      ≡ NoSuch ∷ TooLarge ∷ Done ∷ OutRange ∷ Done ∷ TooLarge ∷ Length 10 ∷ Bytes (0 ∷ 1 ∷ 2 ∷ []) ∷ Done ∷ NoSuch ∷ []
  pub empty : replies_of 10 empty_object_calls ≡ Done ∷ Bytes [] ∷ Bytes [] ∷ OutRange ∷ Length 0 ∷ Done ∷ []
  pub ramp : replies_of 10 ramp_calls ≡ Done ∷ Done ∷ Bytes (254 ∷ 7 ∷ 0 ∷ 1 ∷ []) ∷ Bytes (0 ∷ []) ∷ []
  pub replaced : map_after 10 replacing_calls ≡ (name_a, 3 ∷ 3 ∷ []) ∷ (name_b, 2 ∷ []) ∷ []
  pub recreated : map_after 10 recreating_calls ≡ (name_b, 2 ∷ []) ∷ (name_a, 3 ∷ 3 ∷ []) ∷ []
