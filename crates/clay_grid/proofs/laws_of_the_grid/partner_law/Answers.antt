use Rattle.clay_grid.proofs.LayerLaws.{partner_of-partner_of}
use Rattle.clay_grid.proofs.laws_of_the_grid.partner_law.Goals as goal

pub returns : goal.returns
returns c = partner_of-partner_of
