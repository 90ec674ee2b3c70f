use Rattle.share_run.proofs.serving_shares.serve_join.Goals as goal

pub returns : goal.returns
returns g c = record { exit = (c.join_main-status.result, c.ended.ensures, c.join_main-status.ensures) }
