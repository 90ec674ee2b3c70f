use Rattle.clay_aloof.proofs.Coded.{parts_are_coded}
use Rattle.clay_aloof.proofs.laws_of_aloof_codes.parts_are_coded.Goals as goal

pub returns : goal.returns
returns c = parts_are_coded
