use Rattle.share_files.proofs.CutLemmas.{cut_whole}
use Rattle.share_files.proofs.cutting.cut.Goals as goal

pub returns-in-Ok-write_headers-clause-cut : goal.returns-in-Ok-write_headers-clause-cut
returns-in-Ok-write_headers-clause-cut g c =
    cut_whole c.args.geometry _ _ _ _ c.in-Ok.sum.size c.in-Ok.sum.checksum _ _ _ c.in-Ok.ensures.cut c.in-Ok.ensures.fits c.in-Ok.ensures.told c.in-Ok.ensures.spent
    c.in-Ok-write_headers.ensures.written
