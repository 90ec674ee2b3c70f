use Rattle.trace_run.proofs.trace_top.traced.Goals as goal

pub returns-clause-text : goal.returns-clause-text
returns-clause-text g c =
    record { steps = c.in_ok-run.run'.steps.items; transcript = c.in_ok-run.run'.transcript; traced = c.in_ok-run.ensures; written = c.in_ok-bytes.ensures }
