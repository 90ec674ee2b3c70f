-- How the parts of a transcript's lines are spelled.
use Rattle.std.specs.Prelude.{ℕ, List, ◌++◌, codes, decimal}
use Rattle.std.specs.List.{flat_map}
use Rattle.hex.specs.Hex.{encode_lower}
use Rattle.store_map.specs.declared.reply.Reply.{Reply}
use Rattle.store_map.specs.declared.reply.Reply.TheVariants.{Done, Bytes, Length, NoSuch as AbsentReply, OutRange, TooLarge}
use Rattle.store_map.specs.declared.cause.Triple.{Triple}
use Rattle.store_map.specs.declared.cause.Cause.{Cause}
use Rattle.store_map.specs.declared.cause.Cause.TheVariants.{Unavailable, Contended, Reaped, NoMemory}
use Rattle.store_map.specs.declared.cause.RepairResult.{RepairResult}
use Rattle.store_map.specs.declared.cause.RepairResult.TheVariants.{Rebuilt, Here, Away as RepairAway, NoSuch, Superseded, Unavailable as RepairUnavailable, Reaped as RepairReaped, NoMemory as RepairNoMemory}
use Rattle.store_map.specs.declared.shown.Shown.{Shown}
use Rattle.store_map.specs.declared.shown.Shown.TheVariants.{Reply as Replied, Unfinished}
use Rattle.store_map.specs.Triples.{triple_text}

-- a reply of the map
abbrev pub reply_text : Reply → List ℕ
reply_text Done = codes "ok"
reply_text (Bytes bytes) = codes "bytes hex:" ++ encode_lower bytes
reply_text (Length length) = codes "length " ++ decimal length
reply_text AbsentReply = codes "nosuch"
reply_text OutRange = codes "outrange"
reply_text TooLarge = codes "toolarge"

-- REPLY
abbrev pub shown_text : Shown → List ℕ
shown_text (Replied reply) = reply_text reply
shown_text Unfinished = codes "open"

-- missing J/P/F J/P/F ..
abbrev pub missing_text : List Triple → List ℕ
missing_text missing = codes "missing" ++ flat_map (λ triple. codes " " ++ triple_text triple) missing

-- unavailable stripe S missing J/P/F J/P/F ..
abbrev pub unavailable_text : ℕ → List Triple → List ℕ
unavailable_text stripe missing = codes "unavailable stripe " ++ decimal stripe ++ codes " " ++ missing_text missing

-- contended B/N B/N ..
abbrev pub contended_text : List (ℕ × ℕ) → List ℕ
contended_text pairs = codes "contended" ++ flat_map (λ pair. codes " " ++ decimal pair.0 ++ codes "/" ++ decimal pair.1) pairs

-- CAUSE
abbrev pub cause_text : Cause → List ℕ
cause_text (Unavailable stripe missing) = unavailable_text stripe missing
cause_text (Contended pairs) = contended_text pairs
cause_text (Reaped at) = codes "reaped " ++ decimal at
cause_text NoMemory = codes "nomem"

-- RESULT
abbrev pub result_text : RepairResult → List ℕ
result_text Rebuilt = codes "rebuilt"
result_text Here = codes "here"
result_text (RepairAway downs) = codes "away " ++ decimal downs
result_text NoSuch = codes "nosuch"
result_text (Superseded newer) = codes "superseded " ++ decimal newer
result_text (RepairUnavailable stripe missing) = unavailable_text stripe missing
result_text (RepairReaped at) = codes "reaped " ++ decimal at
result_text RepairNoMemory = codes "nomem"
