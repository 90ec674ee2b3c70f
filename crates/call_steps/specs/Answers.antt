-- What a step is told, without the stripes and the versions that it lists.
use Rattle.std.specs.Prelude.{Option, None, Some, Result, Ok, Err, option_map, ℕ}
use Rattle.store_map.specs.declared.actor.Point.{Point}
use Rattle.store_map.specs.declared.actor.Version.{Version}
use Rattle.store_map.specs.declared.reply.Reply.{Reply}
use Rattle.store_map.specs.declared.reply.Reply.TheVariants as reply
use Rattle.store_core.specs.Told.{Told}
use Rattle.call_steps.specs.declared.answer.ReplyKind.{ReplyKind}
use Rattle.call_steps.specs.declared.answer.ReplyKind.TheVariants as kind
use Rattle.call_steps.specs.declared.answer.DirectoryAnswer.{DirectoryAnswer}
use Rattle.call_steps.specs.declared.answer.DirectoryAnswer.TheVariants as there
use Rattle.call_steps.specs.declared.answer.ServerAnswer.{ServerAnswer}
use Rattle.call_steps.specs.declared.answer.ServerAnswer.TheVariants as here

-- a reply without its bytes
abbrev pub reply_kind : Reply → ReplyKind
reply_kind reply.Done = kind.Done
reply_kind (reply.Bytes bytes) = kind.Bytes
reply_kind (reply.Length length) = kind.Length length
reply_kind reply.NoSuch = kind.NoSuch
reply_kind reply.OutRange = kind.OutRange
reply_kind reply.TooLarge = kind.TooLarge

abbrev point_at : ℕ → Point
point_at point = record { 0 = point }

abbrev version_at : ℕ → Version
version_at version = record { 0 = version }

-- what the directory tells, without its lists; a server's answers aren't among its own
abbrev pub directory_answer : Told → Option DirectoryAnswer
directory_answer (Told.Answer point answer) = Some (there.Answered (point_at point) (reply_kind answer))
directory_answer (Told.Pinned point length stripes) = Some (there.Pinned (point_at point) length)
directory_answer (Told.Ready base length stripes) = Some (there.Ready (option_map point_at base) length)
directory_answer Told.NoSuch = Some there.NoSuch
directory_answer (Told.PinnedStripe seen) = Some there.PinnedStripe
directory_answer (Told.Versions versions) = Some there.Versions
directory_answer (Told.Done point) = Some (there.Done (point_at point))
directory_answer (Told.Changed base newer) = Some (there.Changed (point_at base) (point_at newer))
directory_answer Told.Ended = Some there.Ended
directory_answer Told.Current = Some there.Current
directory_answer (Told.Superseded newer) = Some (there.Superseded (point_at newer))
directory_answer (Told.Reaped point) = Some (there.Reaped (point_at point))
directory_answer (Told.Taken version) = Some (there.Taken (option_map version_at version))
directory_answer (Told.GivenUp point) = Some (there.GivenUp (option_map point_at point))
directory_answer Told.Made = Some there.Made
directory_answer Told.Short = Some there.Short
directory_answer answer = None

-- what a server's answer tells: all of it
abbrev pub server_told : ServerAnswer → Told
server_told (here.Prepared placement) = Told.Prepared placement
server_told here.Settled = Told.Settled
server_told here.Here = Told.Here
server_told (here.Missing found) = Told.Missing found
server_told (here.Given layers) = Told.Given layers
server_told (here.Placed epoch) = Told.Placed epoch
server_told here.AlreadyThere = Told.AlreadyThere
server_told (here.Away downs) = Told.Away downs
server_told here.Made = Told.Made
server_told here.Short = Told.Short

-- an error is want of memory
abbrev pub told_by_server : {E : Type 0} → Result ServerAnswer E → Told
told_by_server (Ok answer) = server_told answer
told_by_server (Err e) = Told.Short
