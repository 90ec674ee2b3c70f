-- Each reply of the history is the plain map's, where the calls are made in its order.
use Rattle.std.specs.Prelude.{Bool, true, false, nat_eq, ◌&&◌, List, Option, bytes_eq}
use Rattle.std.specs.List.{zip, filter_map}
use Rattle.std.specs.Option.{option_map_or}
use Rattle.store_map.specs.History.{replies_of}
use Rattle.store_map.specs.Limits.{size_of}
use Rattle.store_map.specs.declared.call.Call.{Call}
use Rattle.store_map.specs.declared.call.Call.TheVariants.{Put, Write}
use Rattle.store_map.specs.declared.reply.Reply.{Reply}
use Rattle.store_map.specs.declared.reply.Reply.TheVariants.{Done, Bytes, Length, NoSuch, OutRange, TooLarge}
use Rattle.store_map.specs.declared.script.Script.{Script}
use Rattle.store_map.specs.declared.call_name.CallName.TheVariants.{Client}
use Rattle.store_map.specs.declared.shown.Shown.{Shown}
use Rattle.store_map.specs.declared.shown.Shown.TheVariants.{Reply as Replied, Unfinished}
use Rattle.store_map.specs.declared.line.HLine.{HLine}
use Rattle.store_map.specs.declared.transcript.Transcript.{Transcript}
use Rattle.hist_rules.specs.declared.verdict.Verdict.{Verdict}
use Rattle.hist_rules.specs.declared.verdict.Verdict.TheVariants.{Differs}
use Rattle.hist_rules.specs.First.{unless, first_fault}
use Rattle.hist_rules.specs.Calls.{call_of}
use Rattle.hist_rules.specs.Named.{is_ok}

-- whether two replies are the same
abbrev pub same_reply : Reply → Reply → Bool
same_reply Done Done = true
same_reply (Bytes one) (Bytes other) = bytes_eq one other
same_reply (Length one) (Length other) = nat_eq one other
same_reply NoSuch NoSuch = true
same_reply OutRange OutRange = true
same_reply TooLarge TooLarge = true
same_reply _ _ = false

-- a put or a write, which can take effect without a reply
abbrev pub is_put_or_write : Call → Bool
is_put_or_write (Put name content) = true
is_put_or_write (Write name offset content) = true
is_put_or_write _ = false

-- whether what is shown of a call agrees with the map's reply
abbrev pub shows_reply : Option Call → Reply → Shown → Bool
shows_reply call reply (Replied printed) = same_reply reply printed
shows_reply call reply Unfinished = is_ok reply && option_map_or is_put_or_write call false

-- a line beside the map's reply; the fault tells that reply and what is printed
abbrev pub reply_matches : Script → HLine × Reply → Option Verdict
reply_matches script line =
    unless (shows_reply (call_of script line.0.call) line.1 line.0.reply) (Differs (Client line.0.call) line.1 line.0.reply)

-- the calls of lines of a history in their order
abbrev pub calls_in : Script → List HLine → List Call
calls_in script lines = filter_map (λ line. call_of script line.call) lines

-- those of all
abbrev pub history_calls : Script → Transcript → List Call
history_calls script t = calls_in script t.history

-- the first reply that isn't the map's
abbrev pub replies_match : Script → Transcript → Option Verdict
replies_match script t = first_fault (reply_matches script) (zip t.history (replies_of (size_of script) (history_calls script t)))
