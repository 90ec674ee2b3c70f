-- The words of a line that has values.
use Rattle.std.specs.Prelude.{ℕ, List, [], ◌∷◌, ◌++◌, codes}
use Rattle.clay_grid.specs.Shape.{Shape}
use Rattle.hex.specs.Hex.{encode_lower}
use Rattle.store_map.specs.declared.actor.Token.{Token}
use Rattle.store_map.specs.declared.actor.Token.TheVariants as token
use Rattle.store_map.specs.declared.call.Call.{Call}
use Rattle.store_map.specs.declared.call.Call.TheVariants.{Put, Write, Get, ReadAt, Stat, Delete}
use Rattle.store_map.specs.declared.call.Rebuild.{Rebuild}
use Rattle.store_map.specs.declared.content.Content.{Content}
use Rattle.store_map.specs.declared.content.Content.TheVariants.{Hex, Fill, Ramp}
use Rattle.line_grammar.specs.Numbers.{number_word}

-- a byte's digits and a length, with a colon between
abbrev pub run_word : ℕ → ℕ → List ℕ
run_word byte n = encode_lower (byte ∷ []) ++ (codes ":" ++ number_word n)

-- data: the bytes as digits, or a byte and a length
abbrev pub content_word : Content → List ℕ
content_word (Hex bytes) = codes "hex:" ++ encode_lower bytes
content_word (Fill byte n) = codes "fill:" ++ run_word byte n
content_word (Ramp first n) = codes "ramp:" ++ run_word first n

-- a client's call
abbrev pub call_words : Call → List (List ℕ)
call_words (Put name content) = codes "put" ∷ name ∷ content_word content ∷ []
call_words (Write name offset content) =
    codes "write" ∷ name ∷ number_word offset ∷ content_word content ∷ []
call_words (Get name) = codes "get" ∷ name ∷ []
call_words (ReadAt name offset count) =
    codes "read" ∷ name ∷ number_word offset ∷ number_word count ∷ []
call_words (Stat name) = codes "stat" ∷ name ∷ []
call_words (Delete name) = codes "delete" ∷ name ∷ []

-- a repairer's call
abbrev pub rebuild_words : Rebuild → List (List ℕ)
rebuild_words r = codes "rebuild" ∷ r.name ∷ number_word r.stripe ∷ number_word r.server ∷ []

-- a step of the schedule
abbrev pub token_words : Token → List (List ℕ)
token_words (token.Client i) = codes "c" ∷ number_word i ∷ []
token_words (token.Repairer i) = codes "r" ∷ number_word i ∷ []
token_words token.Sweep = codes "s" ∷ []
token_words (token.Wipe j) = codes "wipe" ∷ number_word j ∷ []
token_words (token.Down j) = codes "down" ∷ number_word j ∷ []
token_words (token.Up j) = codes "up" ∷ number_word j ∷ []
token_words (token.ReapClient i) = codes "reap" ∷ codes "c" ∷ number_word i ∷ []
token_words (token.ReapRepairer i) = codes "reap" ∷ codes "r" ∷ number_word i ∷ []
token_words token.Drain = codes "drain" ∷ []

-- the code
abbrev pub code_words : Shape → List (List ℕ)
code_words g =
    codes "code" ∷ number_word g.data_count ∷ number_word g.parity_count ∷ number_word g.width ∷ []
