-- The plain map's replies: each reply of the history is the map's there, and the objects at the end are the map's.
use Rattle.std.specs.Prelude.{◌≡◌, All, IsTrue, Option, false}
use Rattle.std.specs.List.{zip}
use Rattle.std.specs.Option.{option_map_or}
use Rattle.store_map.specs.History.{replies_of}
use Rattle.store_map.specs.Limits.{size_of}
use Rattle.store_map.specs.declared.call.Call.{Call}
use Rattle.store_map.specs.declared.reply.Reply.{Reply}
use Rattle.store_map.specs.declared.reply.Reply.TheVariants.{Done}
use Rattle.store_map.specs.declared.script.Script.{Script}
use Rattle.store_map.specs.declared.shown.Shown.{Shown}
use Rattle.store_map.specs.declared.shown.Shown.TheVariants.{Reply as Replied, Unfinished}
use Rattle.store_map.specs.declared.transcript.Transcript.{Transcript}
use Rattle.hist_rules.specs.Calls.{call_of}
use Rattle.hist_rules.specs.RepliesMatch.{is_put_or_write, history_calls}
use Rattle.hist_rules.specs.ObjectsListed.{map_lines}

-- what is shown is the map's reply; a put or a write to which the map replies ok may have no reply
abbrev pub ShowsReply : Option Call → Reply → Shown → Type 0
ShowsReply call reply (Replied printed) = printed ≡ reply
ShowsReply call reply Unfinished = (reply ≡ Done) × IsTrue (option_map_or is_put_or_write call false)

-- no update is lost or torn, each read is the map's at its own point, and no object is lost or comes back: all calls could have been made one after the other on a map in memory
pub record HasMapReplies (script : Script) (t : Transcript) : Type 0 where
  pub replies :
      All (λ line. ShowsReply (call_of script line.0.call) line.1 line.0.reply) (zip t.history (replies_of (size_of script) (history_calls script t)))
  pub objects : t.objects ≡ map_lines script t
