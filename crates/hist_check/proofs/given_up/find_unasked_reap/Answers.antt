use Rattle.hist_check.proofs.given_up.find_unasked_reap.Goals as goal

pub returns : goal.returns
returns c = c.find_unasked_reap_by.ensures c.args.script.now c.in_ok-reaps.ensures
