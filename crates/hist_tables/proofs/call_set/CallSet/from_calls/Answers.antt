use Rattle.std.proofs.Common.{ap, ◌∙◌}
use Rattle.std.proofs.lemmas.List.{take_all}
use Rattle.hist_rules.specs.Calls.{is_named}
use Rattle.hist_tables.proofs.Names.{taken_more}
use Rattle.hist_tables.proofs.call_set.CallSet.from_calls.Goals as goal

pub loop-call-preserved : goal.loop-call-preserved
loop-call-preserved c = taken_more c.loop-call.set c.insert.new.self c.args.calls.now c.loop-call.call-index _ c.loop-call-test.true c.in_ok-insert.ensures c.loop-call.invariant

pub returns : goal.returns
returns c = λ call. c.loop-call.invariant call ∙ ap (is_named call) (take_all c.loop-call.call-index c.args.calls.now c.loop-call-test.false)
