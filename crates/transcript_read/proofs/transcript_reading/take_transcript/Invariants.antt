use Rattle.std.proofs.Common.{length}
use Rattle.transcript_read.proofs.ReadLaws.{IsReadTo}
use Rattle.transcript_read.proofs.transcript_reading.take_transcript.Given as goal

abbrev pub invariant-loop-alloc : goal.invariant-loop-alloc
invariant-loop-alloc l = IsReadTo l.fn.servers l.fn.text l.reader l.rest l.lines

abbrev pub decreases-loop-alloc : goal.decreases-loop-alloc
decreases-loop-alloc l = length l.rest
