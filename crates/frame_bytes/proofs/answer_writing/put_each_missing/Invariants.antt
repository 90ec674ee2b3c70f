use Rattle.std.proofs.Common.{take}
use Rattle.std.specs.Prelude.{flat_map}
use Rattle.session_rules.specs.Replies.{missing_bytes}
use Rattle.frame_bytes.specs.Writing.{Puts}
use Rattle.frame_bytes.proofs.WriteLemmas.{put_done}
use Rattle.frame_bytes.proofs.answer_writing.put_each_missing.Given as goal

abbrev pub invariant-loop-server : goal.invariant-loop-server
invariant-loop-server g l =
    Puts g.K.Sink.accepted g.K.Sink.written g.K.Sink.faults l.fn.sink l.sink l.fn.block.items l.block.items (flat_map missing_bytes (take l.server-index l.missing))
    put_done
