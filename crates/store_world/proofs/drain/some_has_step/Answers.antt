use Rattle.std.proofs.Common.{◌≡◌, ◌<◌, ◌≤◌, length, sym, ◌∙◌, arith}
use Rattle.store_world.specs.Having.{caller_has}
use Rattle.store_world.proofs.Lists.{got, one_has, none_more, none_has}
use Rattle.store_world.proofs.drain.some_has_step.Goals as goal

pub returns-then-has_step : goal.returns-then-has_step
returns-then-has_step c script code =
    let less : c.loop-caller.caller-index < length c.args.callers.now = omega (arith, c.loop-caller-test.true) in
    let its : c.has_step.result ≡ caller_has script c.caller-item.result = c.has_step.ensures script (code c.loop-caller.caller-index c.caller-item.result (got c.args.callers.now c.loop-caller.caller-index c.caller-item.result less c.caller-item.is)) in
    one_has (caller_has script) c.args.callers.now c.loop-caller.caller-index c.caller-item.result less c.caller-item.is (sym its ∙ c.if-has_step.true)

pub loop-caller-preserved : goal.loop-caller-preserved
loop-caller-preserved c script code =
    let less : c.loop-caller.caller-index < length c.args.callers.now = omega (arith, c.loop-caller-test.true) in
    let its : c.has_step.result ≡ caller_has script c.caller-item.result = c.has_step.ensures script (code c.loop-caller.caller-index c.caller-item.result (got c.args.callers.now c.loop-caller.caller-index c.caller-item.result less c.caller-item.is)) in
    none_more (caller_has script) c.args.callers.now c.loop-caller.caller-index (c.loop-caller.invariant script code) c.caller-item.result less c.caller-item.is (sym its ∙ c.if-has_step.false)

pub returns : goal.returns
returns c script code =
    let all : length c.args.callers.now ≤ c.loop-caller.caller-index = omega (arith, c.loop-caller-test.false) in
    none_has (caller_has script) c.args.callers.now c.loop-caller.caller-index (c.loop-caller.invariant script code) all
