-- What points stand for, in the words of the definitions.
use Rattle.store_map.specs.declared.reply.Reply.{Reply}
use Rattle.store_map.specs.declared.reply.Reply.TheVariants as reply
use Rattle.store_core.specs.Directory.{Event as CoreEvent}
use Rattle.dir_parts.specs.declared.history.DirectoryReply.{DirectoryReply}
use Rattle.dir_parts.specs.declared.history.DirectoryReply.TheVariants as answer
use Rattle.dir_parts.specs.declared.history.Event.{Event}
use Rattle.dir_parts.specs.declared.history.Event.TheVariants as event

-- a reply of the directory itself, as one of the map
abbrev pub reply_in : DirectoryReply → Reply
reply_in answer.Done = reply.Done
reply_in (answer.Length length) = reply.Length length
reply_in answer.NoSuch = reply.NoSuch
reply_in answer.OutRange = reply.OutRange
reply_in answer.TooLarge = reply.TooLarge

abbrev pub event_in : Event → CoreEvent
event_in (event.Answer given) = CoreEvent.Answer (reply_in given)
event_in event.Pinned = CoreEvent.Pinned
event_in event.Done = CoreEvent.Done
event_in event.Reaped = CoreEvent.Reaped
