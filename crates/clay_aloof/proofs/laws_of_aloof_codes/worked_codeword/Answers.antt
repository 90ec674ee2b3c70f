use Rattle.std.proofs.Common.{refl}
use Rattle.clay_grid.specs.Layers.{digits_of}
use Rattle.clay_aloof.proofs.Worked.{worked_codes}
use Rattle.clay_aloof.proofs.laws_of_aloof_codes.worked_codeword.Goals as goal

pub returns-clause-codes : goal.returns-clause-codes
returns-clause-codes c = worked_codes

pub returns-clause-parts : goal.returns-clause-parts
unfolding digits_of
returns-clause-parts c = refl
