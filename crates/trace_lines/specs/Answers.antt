-- How the answer of a step is spelled.
use Rattle.std.specs.Prelude.{ℕ, List, None, Some, ◌++◌, codes, decimal}
use Rattle.call_steps.specs.declared.answer.ReplyKind.{ReplyKind}
use Rattle.call_steps.specs.declared.answer.ReplyKind.TheVariants as reply
use Rattle.call_steps.specs.declared.answer.DirectoryAnswer.{DirectoryAnswer}
use Rattle.call_steps.specs.declared.answer.DirectoryAnswer.TheVariants as there
use Rattle.call_steps.specs.declared.answer.ServerAnswer.{ServerAnswer}
use Rattle.call_steps.specs.declared.answer.ServerAnswer.TheVariants as here
use Rattle.store_map.specs.Triples.{placement_text, found_text}
use Rattle.call_steps.specs.declared.step_made.StepAnswer.{StepAnswer}
use Rattle.call_steps.specs.declared.step_made.StepAnswer.TheVariants as answer

-- REPLY: the first word of a transcript's, and a length with its number
abbrev pub reply_kind_text : ReplyKind → List ℕ
reply_kind_text reply.Done = codes "ok"
reply_kind_text reply.Bytes = codes "bytes"
reply_kind_text (reply.Length length) = codes "length " ++ decimal length
reply_kind_text reply.NoSuch = codes "nosuch"
reply_kind_text reply.OutRange = codes "outrange"
reply_kind_text reply.TooLarge = codes "toolarge"

-- ANSWER of the directory
abbrev pub directory_answer_text : DirectoryAnswer → List ℕ
directory_answer_text (there.Answered point kind) = codes "answer " ++ decimal point.0 ++ codes " " ++ reply_kind_text kind
directory_answer_text (there.Pinned point length) = codes "pinned " ++ decimal point.0 ++ codes " " ++ decimal length
directory_answer_text (there.Ready None length) = codes "ready - " ++ decimal length
directory_answer_text (there.Ready (Some point) length) = codes "ready " ++ decimal point.0 ++ codes " " ++ decimal length
directory_answer_text there.NoSuch = codes "nosuch"
directory_answer_text there.PinnedStripe = codes "stripe"
directory_answer_text there.Versions = codes "versions"
directory_answer_text (there.Done point) = codes "done " ++ decimal point.0
directory_answer_text (there.Changed looked_at newer) = codes "changed " ++ decimal looked_at.0 ++ codes " " ++ decimal newer.0
directory_answer_text there.Ended = codes "ended"
directory_answer_text there.Current = codes "current"
directory_answer_text (there.Superseded newer) = codes "superseded " ++ decimal newer.0
directory_answer_text (there.Reaped point) = codes "reaped " ++ decimal point.0
directory_answer_text (there.Taken None) = codes "taken -"
directory_answer_text (there.Taken (Some version)) = codes "taken " ++ decimal version.0
directory_answer_text there.Made = codes "made"
directory_answer_text (there.GivenUp None) = codes "givenup -"
directory_answer_text (there.GivenUp (Some point)) = codes "givenup " ++ decimal point.0
directory_answer_text there.Short = codes "short"

-- ANSWER of a server
abbrev pub server_answer_text : ServerAnswer → List ℕ
server_answer_text (here.Prepared placement) = codes "prepared " ++ placement_text placement
server_answer_text here.Settled = codes "settled"
server_answer_text here.Here = codes "here"
server_answer_text (here.Missing found) = codes "missing " ++ found_text found
server_answer_text (here.Given subchunks) = codes "given " ++ decimal subchunks
server_answer_text (here.Placed epoch) = codes "placed " ++ decimal epoch
server_answer_text here.AlreadyThere = codes "there"
server_answer_text (here.Away downs) = codes "away " ++ decimal downs
server_answer_text here.Made = codes "made"
server_answer_text here.Short = codes "short"

-- ANSWER
abbrev pub answer_text : StepAnswer → List ℕ
answer_text (answer.Directory told) = directory_answer_text told
answer_text (answer.Server told) = server_answer_text told
