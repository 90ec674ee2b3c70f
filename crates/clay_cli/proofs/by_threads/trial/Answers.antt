use Rattle.std.proofs.Common.{subst}
use Rattle.store_map.specs.declared.script.Script.{Script}
use Rattle.store_run.specs.Swept.{IsRunToEnd}
use Rattle.clay_cli.proofs.Outputs.{on_ok}
use Rattle.clay_cli.proofs.by_threads.trial.Goals as goal

pub returns : goal.returns
returns g c =
    let P : Script → Type 0 = λ script. IsRunToEnd script c.in_ok-_transcript._transcript in
    on_ok c.trial_lines.result
    (λ text made. record { transcript = c.in_ok-_transcript._transcript; run = subst P c.in_ok-script.ensures.script c.in_ok-_transcript.ensures; written = made })
    c.trial_lines.ensures
