use Rattle.session_rules.specs.Replies.{lost_bytes}
use Rattle.frame_bytes.proofs.WriteLemmas.{read_next, read_stop}
use Rattle.frame_bytes.proofs.answer_writing.put_each_lost.Goals as goal

pub returns-in_err-put_lost : goal.returns-in_err-put_lost
returns-in_err-put_lost g c =
    read_stop _ lost_bytes c.args.lost.now c.loop-chunk.chunk-index c.chunk-item.result c.loop-chunk-test.true c.chunk-item.is _
    c.from_residual.ensures.1 c.loop-chunk.invariant c.in_err-put_lost.ensures

pub loop-chunk-preserved : goal.loop-chunk-preserved
loop-chunk-preserved g c =
    read_next lost_bytes c.args.lost.now c.loop-chunk.chunk-index c.chunk-item.result c.loop-chunk-test.true c.chunk-item.is
    c.loop-chunk.invariant c.in_ok-put_lost.ensures
