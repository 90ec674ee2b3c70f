-- What a transcript's lines say of calls.
use Rattle.std.specs.Prelude.{ℕ, ◌+◌, ◌^◌, ◌<◌, Bool, true, false, nat_eq, ◌&&◌, List, ◌++◌, map, filter, length, bytes_eq}
use Rattle.std.specs.List.{list_any}
use Rattle.std.specs.Option.{option_map_or}
use Rattle.store_map.specs.declared.call.Call.{Call}
use Rattle.store_map.specs.declared.call.Call.TheVariants.{Put, Write, Delete}
use Rattle.store_map.specs.declared.reply.Reply.{Reply}
use Rattle.store_map.specs.declared.reply.Reply.TheVariants.{Done}
use Rattle.store_map.specs.declared.script.Script.{Script}
use Rattle.store_map.specs.declared.call_name.CallName.{CallName}
use Rattle.store_map.specs.declared.call_name.CallName.TheVariants.{Client, Repairer}
use Rattle.store_map.specs.declared.shown.Shown.{Shown}
use Rattle.store_map.specs.declared.shown.Shown.TheVariants.{Reply as Replied, Unfinished}
use Rattle.store_map.specs.declared.line.HLine.{HLine}
use Rattle.store_map.specs.declared.transcript.Transcript.{Transcript}
use Rattle.hist_rules.specs.Calls.{call_of}

-- the calls of which a line says what became of them, in the order of lines
abbrev pub listed_calls : Transcript → List CallName
listed_calls t =
    map (λ line. Client line.call) t.history ++ map (λ line. Client line.call) t.refused ++ map (λ line. Repairer line.call) t.repairs ++ map (λ line. line.call) t.unanswered

-- the lines that tell of calls and rebuilds can be counted
abbrev pub HasFewLines : Transcript → Type 0
HasFewLines t = length t.history + length t.refused + length t.repairs < 2 ^ 32

-- a reply that the caller got
abbrev pub is_reply : Shown → Bool
is_reply (Replied reply) = true
is_reply Unfinished = false

-- the calls that were answered or refused, and the rebuilds that have a result, in the order of lines
abbrev pub answered_calls : Transcript → List CallName
answered_calls t =
    map (λ line. Client line.call) (filter (λ line. is_reply line.reply) t.history) ++ map (λ line. Client line.call) t.refused ++ map (λ line. Repairer line.call) t.repairs

-- the reply ok
abbrev pub is_ok : Reply → Bool
is_ok Done = true
is_ok _ = false

-- the call took effect, whether or not its caller got a reply
abbrev pub is_effect : Shown → Bool
is_effect (Replied reply) = is_ok reply
is_effect Unfinished = true

-- a put, a write or a delete of the object with this name
abbrev pub changes_name : List ℕ → Call → Bool
changes_name name (Put other content) = bytes_eq name other
changes_name name (Write other offset content) = bytes_eq name other
changes_name name (Delete other) = bytes_eq name other
changes_name name _ = false

-- a line of the history that changes the object with this name
abbrev pub is_change_line : Script → List ℕ → HLine → Bool
is_change_line script name line = is_effect line.reply && option_map_or (changes_name name) (call_of script line.call) false

-- whether such a line stands at a point
abbrev pub is_change_point : Script → Transcript → List ℕ → ℕ → Bool
is_change_point script t name point = list_any (λ line. nat_eq line.point point && is_change_line script name line) t.history
