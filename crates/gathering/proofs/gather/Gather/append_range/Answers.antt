use Rattle.std.proofs.Common.{subst}
use Rattle.gathering.specs.Made.{IsWithin}
use Rattle.gathering.specs.Gathers.{GatherOf}
use Rattle.gathering.proofs.Serving.{up_more}
use Rattle.gathering.proofs.gather.Gather.append_range.Goals as goal

pub loop-chunk-preserved : goal.loop-chunk-preserved
loop-chunk-preserved c =
    let w = c.args.self.now in
    up_more w.course.geometry w.stamp.content w.course.aim c.loop-chunk.chunk c.args.bytes.now.items c.loop-chunk.bytes.items c.append_chunk.new.bytes.items
    (subst (λ (w : GatherOf). IsWithin w.course.geometry w.course.aim) c.self.view_is c.self.invariant.within)
    c.loop-chunk.invariant c.in_ok-append_chunk.ensures
