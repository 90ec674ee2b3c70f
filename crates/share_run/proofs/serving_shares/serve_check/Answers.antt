use Rattle.share_run.proofs.serving_shares.serve_check.Goals as goal

pub returns : goal.returns
returns g c = record { exit = (c.check_main-status.result, c.ended.ensures, c.check_main-status.ensures) }
