use Rattle.hist_rules.specs.RepliesMatch.{calls_in}
use Rattle.hist_check.proofs.Replays.{rest_fault, replay_ends}
use Rattle.hist_check.proofs.replay.replay.Goals as goal

pub returns-clause-found : goal.returns-clause-found
returns-clause-found c =
    replay_ends c.args.script.now c.loop-line.map.max c.args.lines.now c.loop-line.replied c.loop-line.line-index c.loop-line.map.objects
    (rest_fault c.args.script.now c.args.map.now.max c.args.lines.now (calls_in c.args.script.now c.args.lines.now) c.args.map.now.objects)
    c.loop-line.invariant.so_far c.loop-line-test.false
