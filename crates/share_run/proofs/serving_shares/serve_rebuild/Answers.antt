use Rattle.share_run.proofs.serving_shares.serve_rebuild.Goals as goal

pub returns : goal.returns
returns g c = record { exit = (c.rebuild_main-status.result, c.ended.ensures, c.rebuild_main-status.ensures) }
