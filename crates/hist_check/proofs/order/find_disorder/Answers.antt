use Rattle.std.proofs.Common.{◌∙◌, sym, ap}
use Rattle.std.specs.Prelude.{◌||◌, None, Some}
use Rattle.hist_rules.specs.Calls.{same_call}
use Rattle.hist_rules.specs.CallsInOrder.{follows_answered, is_first_answer}
use Rattle.hist_rules.specs.Named.{answered_calls}
use Rattle.hist_tables.specs.Tables.{has}
use Rattle.hist_tables.proofs.Faults.{or_first, or_second}
use Rattle.hist_check.specs.Searched.{answer_fault}
use Rattle.hist_check.proofs.Searches.{all_searched, answer_right, answer_wrong, passed_over}
use Rattle.hist_check.proofs.order.find_disorder.Goals as goal

pub loop-line-preserved-then-not-is_answer : goal.loop-line-preserved-then-not-is_answer
loop-line-preserved-then-not-is_answer g c = record {
  so_far = λ earlier rest whole.
      passed_over g.L.NamesCall.call g.L.NamesCall.is_answer (answered_calls c.args.transcript.now) earlier rest c.args.lines.now c.loop-line.line-index c.line-item.result c.loop-line.before
      c.loop-line-test.true c.line-item.is (sym c.is_answer.ensures ∙ c.if-not-is_answer.true) (c.loop-line.invariant.so_far earlier rest whole);
  reached = c.loop-line.invariant.reached;
}

pub returns-in-Some-clause-found : goal.returns-in-Some-clause-found
returns-in-Some-clause-found g c = λ earlier rest whole.
    let answered = answered_calls c.args.transcript.now in
    let so_far = c.loop-line.invariant.so_far earlier rest whole in
    answer_wrong g.L.NamesCall.call g.L.NamesCall.is_answer answered earlier rest c.args.lines.now c.loop-line.line-index c.line-item.result c.loop-line.before c.in-Some.fault
    c.loop-line-test.true c.line-item.is (sym c.is_answer.ensures ∙ c.if-not-is_answer.false) so_far
    (ap (answer_fault answered so_far.0) (sym c.call-call.ensures)
    ∙ or_first (follows_answered answered c.call-call.result) (is_first_answer so_far.0 c.call-call.result) c.in-Some.fault (sym c.in_ok-fault.ensures.found ∙ c.in-Some.is))

pub returns-in-Some-is_first_answer-clause-found : goal.returns-in-Some-is_first_answer-clause-found
returns-in-Some-is_first_answer-clause-found g c = λ earlier rest whole.
    let answered = answered_calls c.args.transcript.now in
    let so_far = c.loop-line.invariant.so_far earlier rest whole in
    answer_wrong g.L.NamesCall.call g.L.NamesCall.is_answer answered earlier rest c.args.lines.now c.loop-line.line-index c.line-item.result c.loop-line.before c.in-Some-is_first_answer.fault
    c.loop-line-test.true c.line-item.is (sym c.is_answer.ensures ∙ c.if-not-is_answer.false) so_far
    (ap (answer_fault answered so_far.0) (sym c.call-call.ensures)
    ∙ or_second (follows_answered answered c.call-call.result) (is_first_answer so_far.0 c.call-call.result) (Some c.in-Some-is_first_answer.fault)
    (sym c.in_ok-fault.ensures.found ∙ c.in_default.is) (sym (c.in-Some-is_first_answer.ensures so_far.0 so_far.1)))

pub loop-line-preserved : goal.loop-line-preserved
loop-line-preserved g c = record {
  so_far = λ earlier rest whole.
      let answered = answered_calls c.args.transcript.now in
      let so_far = c.loop-line.invariant.so_far earlier rest whole in
      answer_right g.L.NamesCall.call g.L.NamesCall.is_answer answered earlier rest c.args.lines.now c.loop-line.line-index c.line-item.result c.loop-line.before c.insert.new.self
      c.loop-line-test.true c.line-item.is (sym c.is_answer.ensures ∙ c.if-not-is_answer.false) so_far
      (ap (answer_fault answered so_far.0) (sym c.call-call.ensures)
      ∙ or_second (follows_answered answered c.call-call.result) (is_first_answer so_far.0 c.call-call.result) None
      (sym c.in_ok-fault.ensures.found ∙ c.in_default.is) (sym (c.in_default-is_first_answer.ensures so_far.0 so_far.1)))
      (λ other. c.in_ok-insert.ensures other ∙ ap (λ name. same_call other name || has c.loop-line.before other) c.call-call.ensures);
  reached = c.in_ok-fault.ensures.reached;
}

pub returns-clause-found : goal.returns-clause-found
returns-clause-found g c = λ earlier rest whole.
    all_searched g.L.NamesCall.call g.L.NamesCall.is_answer (answered_calls c.args.transcript.now) earlier rest c.args.lines.now c.loop-line.line-index c.loop-line.before
    c.loop-line-test.false (c.loop-line.invariant.so_far earlier rest whole)
