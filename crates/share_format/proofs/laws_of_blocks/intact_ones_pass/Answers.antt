use Rattle.share_format.proofs.Intact.{block_kept, part_intact}
use Rattle.share_format.proofs.laws_of_blocks.intact_ones_pass.Goals as goal

pub returns-clause-block : goal.returns-clause-block
returns-clause-block c = block_kept

pub returns-clause-part : goal.returns-clause-part
returns-clause-part c = part_intact
