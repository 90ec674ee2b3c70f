use Rattle.session_rules.specs.Replies.{missing_bytes}
use Rattle.frame_bytes.proofs.WriteLemmas.{each_next, each_stop}
use Rattle.frame_bytes.proofs.answer_writing.put_each_missing.Goals as goal

pub returns-in_err-put_missing : goal.returns-in_err-put_missing
returns-in_err-put_missing g c =
    each_stop _ missing_bytes c.args.missing.now c.loop-server.server-index _ c.loop-server-test.true _ c.from_residual.ensures.1
    c.loop-server.invariant c.in_err-put_missing.ensures

pub loop-server-preserved : goal.loop-server-preserved
loop-server-preserved g c =
    each_next missing_bytes c.args.missing.now c.loop-server.server-index _ c.loop-server-test.true c.loop-server.invariant
    c.in_ok-put_missing.ensures
