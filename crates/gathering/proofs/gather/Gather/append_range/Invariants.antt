use Rattle.gathering.proofs.Serving.{IsUpTo}
use Rattle.gathering.proofs.gather.Gather.append_range.Given as goal

abbrev pub invariant-loop-chunk : goal.invariant-loop-chunk
invariant-loop-chunk l = IsUpTo l.self.course.geometry l.self.stamp.content l.self.course.aim l.chunk l.fn.bytes.items l.bytes.items
