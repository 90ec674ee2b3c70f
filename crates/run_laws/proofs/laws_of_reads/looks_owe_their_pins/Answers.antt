use Rattle.run_laws.proofs.OwedBytes.{looks_owe_their_pins}
use Rattle.run_laws.proofs.laws_of_reads.looks_owe_their_pins.Goals as goal

pub returns : goal.returns
returns c = looks_owe_their_pins
