use Rattle.std.proofs.Common.{[], ◌++◌, true, refl, ap, ◌∙◌}
use Rattle.store_map.specs.declared.call_name.CallName.TheVariants.{Client, Repairer}
use Rattle.hist_rules.specs.Named.{answered_calls, is_reply}
use Rattle.hist_tables.proofs.Names.{passing}
use Rattle.hist_check.proofs.Searches.{finally_found, found_after, kinds_of_answers, order_first, order_second}
use Rattle.hist_check.proofs.order.find_wrong_answer_by.Goals as goal

pub returns-in-Some : goal.returns-in-Some
returns-in-Some c =
    let t = c.args.transcript.now in
    let answered = answered_calls t in
    let replies = passing (λ line. Client line.call) (λ line. is_reply line.reply) c.as_slice-replies.result.now in
    let refusals = passing (λ line. Client line.call) (λ line. true) t.refused in
    let results = passing (λ line. Repairer line.call) (λ line. true) t.repairs in
    order_first answered replies refusals results c.in_ok-fault.field-0 c.find_disorder.new.before c.in-Some.fault c.in-Some.is
    (c.in_ok-fault.ensures.found [] (refusals ++ results) c.requires.before)
    ∙ ap (found_after answered []) (kinds_of_answers t c.as_slice-replies.result.now t.refused t.repairs c.as_slice-replies.ensures refl refl)

pub returns-in-Some-2 : goal.returns-in-Some-2
returns-in-Some-2 c =
    let t = c.args.transcript.now in
    let answered = answered_calls t in
    let replies = passing (λ line. Client line.call) (λ line. is_reply line.reply) c.as_slice-replies.result.now in
    let refusals = passing (λ line. Client line.call) (λ line. true) c.as_slice-refusals.result.now in
    let results = passing (λ line. Repairer line.call) (λ line. true) t.repairs in
    order_second answered replies refusals results c.in_ok-fault.field-0 c.in_ok-fault-2.field-0 c.find_disorder.new.before c.find_disorder-2.new.before c.in-Some-2.fault c.in_default.is
    (c.in_ok-fault.ensures.found [] (refusals ++ results) c.requires.before) c.in-Some-2.is
    (λ later whole. c.in_ok-fault-2.ensures.found later results whole)
    ∙ ap (found_after answered []) (kinds_of_answers t c.as_slice-replies.result.now c.as_slice-refusals.result.now t.repairs c.as_slice-replies.ensures c.as_slice-refusals.ensures refl)

pub returns : goal.returns
returns c =
    let t = c.args.transcript.now in
    let answered = answered_calls t in
    let replies = passing (λ line. Client line.call) (λ line. is_reply line.reply) c.as_slice-replies.result.now in
    let refusals = passing (λ line. Client line.call) (λ line. true) c.as_slice-refusals.result.now in
    let results = passing (λ line. Repairer line.call) (λ line. true) c.as_slice-results.result.now in
    finally_found answered replies refusals results (answered_calls t) c.in_ok-fault.field-0 c.in_ok-fault-2.field-0 c.find_disorder.new.before c.find_disorder-2.new.before c.find_disorder-3.new.before
    c.find_disorder-3.result c.in_default.is (c.in_ok-fault.ensures.found [] (refusals ++ results) c.requires.before) c.in_default-2.is
    (λ later whole. c.in_ok-fault-2.ensures.found later results whole) (λ later whole. c.find_disorder-3.ensures.found later [] whole)
    (kinds_of_answers t c.as_slice-replies.result.now c.as_slice-refusals.result.now c.as_slice-results.result.now c.as_slice-replies.ensures c.as_slice-refusals.ensures c.as_slice-results.ensures)
