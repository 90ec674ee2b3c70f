use Rattle.clay_aloof.proofs.Full.{grid_full, codewords_full}
use Rattle.clay_aloof.proofs.laws_of_aloof_codes.full_helpers.Goals as goal

pub returns-clause-grid : goal.returns-clause-grid
returns-clause-grid c = λ k m w some parity. grid_full k m w parity

pub returns-clause-codewords : goal.returns-clause-codewords
returns-clause-codewords c = λ k m w chunks some parity. codewords_full k m w chunks parity
