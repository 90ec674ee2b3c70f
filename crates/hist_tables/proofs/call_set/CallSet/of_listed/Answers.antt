use Rattle.std.proofs.Common.{map, ap, ◌++◌, ◌∙◌}
use Rattle.store_map.specs.declared.call_name.CallName.TheVariants.{Client, Repairer}
use Rattle.hist_rules.specs.Calls.{is_named}
use Rattle.hist_tables.proofs.Names.{both_named, from_none, listed_of}
use Rattle.hist_tables.proofs.call_set.CallSet.of_listed.Goals as goal

pub returns : goal.returns
returns c = λ call.
    let replies = map (λ line. Client line.call) c.as_slice.result.now in
    let refusals = map (λ line. Client line.call) c.as_slice-2.result.now in
    let results = map (λ line. Repairer line.call) c.as_slice-3.result.now in
    let waiting = map (λ line. line.call) c.as_slice-4.result.now in
    from_none c.new-set.result c.insert_calls-4.new.self (replies ++ refusals ++ results ++ waiting) call (c.new-set.ensures call)
    (both_named c.new-set.result c.insert_calls-3.new.self c.insert_calls-4.new.self (replies ++ refusals ++ results) waiting call
    (both_named c.new-set.result c.insert_calls-2.new.self c.insert_calls-3.new.self (replies ++ refusals) results call
    (both_named c.new-set.result c.insert_calls.new.self c.insert_calls-2.new.self replies refusals call (c.in_ok-insert_calls.ensures call) (c.in_ok-insert_calls-2.ensures call))
    (c.in_ok-insert_calls-3.ensures call))
    (c.in_ok-insert_calls-4.ensures call))
    ∙ ap (is_named call) (listed_of c.args.transcript.now c.as_slice.result.now c.as_slice-2.result.now c.as_slice-3.result.now c.as_slice-4.result.now c.as_slice.ensures c.as_slice-2.ensures c.as_slice-3.ensures c.as_slice-4.ensures)
