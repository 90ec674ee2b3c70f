use Rattle.crc64.proofs.Struck.{gap_more}
use Rattle.crc64.proofs.folding.added.Goals as goal

pub returns : goal.returns
returns c = λ gaps byte have. gap_more gaps c.args.gap byte c.args.history.now c.args.sum c.requires.long c.requires.gap have
