use Rattle.std.proofs.Common.{take}
use Rattle.std.specs.Prelude.{flat_map}
use Rattle.byteorder.specs.Endian.{big_bytes}
use Rattle.frame_bytes.specs.Writing.{Puts}
use Rattle.frame_bytes.proofs.WriteLemmas.{put_done}
use Rattle.frame_bytes.proofs.answer_writing.put_each_taken.Given as goal

abbrev pub invariant-loop-count : goal.invariant-loop-count
invariant-loop-count g l =
    Puts g.K.Sink.accepted g.K.Sink.written g.K.Sink.faults l.fn.sink l.sink l.fn.block.items l.block.items (flat_map (big_bytes 8) (take l.count-index l.taken))
    put_done
