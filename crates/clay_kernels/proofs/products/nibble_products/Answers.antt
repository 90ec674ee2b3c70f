use Rattle.clay_kernels.proofs.NibbleLemmas.{HasLanes-bits}
use Rattle.clay_kernels.proofs.products.nibble_products.Goals as goal

pub returns : goal.returns
returns c = (HasLanes-bits c.args.c c.twice-two.result c.twice-four.result c.twice.result c.ranges.c.fits c.twice-two.ensures c.twice-four.ensures c.twice.ensures).each
