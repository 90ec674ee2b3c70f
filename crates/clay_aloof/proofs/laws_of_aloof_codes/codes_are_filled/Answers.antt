use Rattle.clay_aloof.proofs.Filled.{codes_filled}
use Rattle.clay_aloof.proofs.laws_of_aloof_codes.codes_are_filled.Goals as goal

pub returns : goal.returns
returns c = codes_filled
