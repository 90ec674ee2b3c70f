use Rattle.share_run.proofs.serving_shares.serve_cut.Goals as goal

pub returns : goal.returns
returns g c = record { exit = (c.cut_main-status.result, c.ended.ensures, c.cut_main-status.ensures) }
