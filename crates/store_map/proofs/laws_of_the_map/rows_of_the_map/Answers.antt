use Rattle.std.proofs.Common.{refl}
use Rattle.store_map.proofs.laws_of_the_map.rows_of_the_map.Goals as goal

pub returns : goal.returns
returns c = record { refused = refl; empty = refl; ramp = refl; replaced = refl; recreated = refl }
