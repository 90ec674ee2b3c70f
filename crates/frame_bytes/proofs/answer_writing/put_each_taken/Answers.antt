use Rattle.byteorder.specs.Endian.{big_bytes}
use Rattle.frame_bytes.proofs.WriteLemmas.{each_next, each_stop}
use Rattle.frame_bytes.proofs.answer_writing.put_each_taken.Goals as goal

pub returns-in_err-put_u64 : goal.returns-in_err-put_u64
returns-in_err-put_u64 g c =
    each_stop _ (big_bytes 8) c.args.taken.now c.loop-count.count-index _ c.loop-count-test.true _ c.from_residual.ensures.1 c.loop-count.invariant
    c.in_err-put_u64.ensures

pub loop-count-preserved : goal.loop-count-preserved
loop-count-preserved g c =
    each_next (big_bytes 8) c.args.taken.now c.loop-count.count-index _ c.loop-count-test.true c.loop-count.invariant c.in_ok-put_u64.ensures
