use Rattle.std.proofs.Common.{take}
use Rattle.std.specs.Prelude.{flat_map}
use Rattle.session_rules.specs.Replies.{lost_bytes}
use Rattle.frame_bytes.specs.Writing.{Puts}
use Rattle.frame_bytes.proofs.WriteLemmas.{put_done}
use Rattle.frame_bytes.proofs.answer_writing.put_each_lost.Given as goal

abbrev pub invariant-loop-chunk : goal.invariant-loop-chunk
invariant-loop-chunk g l =
    Puts g.K.Sink.accepted g.K.Sink.written g.K.Sink.faults l.fn.sink l.sink l.fn.block.items l.block.items (flat_map lost_bytes (take l.chunk-index l.lost)) put_done
