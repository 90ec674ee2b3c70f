-- The numbers with which the chunks of a code are coupled in pairs.
use Rattle.std.specs.Prelude.{ℕ}

-- the coupling constant: an uncoupled value is the coupled one plus gamma times the partner's
abbrev pub gamma : ℕ
gamma = 2

-- the determinant of the coupling of a pair, 1 + gamma^2
abbrev pub determinant : ℕ
determinant = 5

-- the inverse of gamma
abbrev pub gamma_inverse : ℕ
gamma_inverse = 0x8E

-- the inverse of the determinant
abbrev pub determinant_inverse : ℕ
determinant_inverse = 0xA7
