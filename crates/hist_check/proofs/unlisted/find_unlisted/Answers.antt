use Rattle.std.proofs.Common.{ap, ◌∙◌}
use Rattle.hist_rules.specs.First.{first_fault}
use Rattle.hist_rules.specs.TakesHaveCalls.{has_call}
use Rattle.hist_check.proofs.unlisted.find_unlisted.Goals as goal

pub returns : goal.returns
returns c =
    c.find_missing.ensures c.args.transcript.now c.in_ok-listed.ensures ∙ ap (first_fault (λ line. has_call c.args.transcript.now line.call)) c.as_slice.ensures
