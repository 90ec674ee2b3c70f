use Rattle.std.proofs.lemmas.Nat.{xor_comm, xor_lt}
use Rattle.clay_field.proofs.laws_of_the_field.sum_laws.Goals as goal

pub returns-clause-byte : goal.returns-clause-byte
returns-clause-byte c = xor_lt 8

pub returns-clause-commutes : goal.returns-clause-commutes
returns-clause-commutes c = xor_comm
