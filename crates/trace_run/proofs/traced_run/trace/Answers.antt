use Rattle.std.proofs.Common.{◌≡◌, ◌++◌, List, sym, subst, ◌∙◌}
use Rattle.call_steps.specs.declared.step_made.Step.{Step}
use Rattle.store_world.specs.Traced.{IsTracedRun}
use Rattle.trace_run.proofs.traced_run.trace.Goals as goal

pub returns : goal.returns
returns g c =
    let steps : List Step = c.in_ok-transcript.ensures.0 in
    let are : c.run.new.watch.items ≡ steps = c.in_ok-transcript.ensures.1 ∙ (λ k. c.new-steps.ensures.items k ++ steps) in
    subst (λ (l : List Step). IsTracedRun c.args.script l c.in_ok-transcript.transcript) (sym are) c.in_ok-transcript.ensures.2
