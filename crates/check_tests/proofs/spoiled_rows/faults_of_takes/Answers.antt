use Rattle.std.proofs.Common.{refl}
use Rattle.std.specs.Fmt.{digits}
use Rattle.hex.specs.Hex.{encode_with}
use Rattle.check_tests.proofs.spoiled_rows.faults_of_takes.Goals as goal

pub returns-clause-read_left_out : goal.returns-clause-read_left_out
unfolding digits encode_with
returns-clause-read_left_out c = record { verdict = refl; line = refl }

pub returns-clause-rebuild_left_out : goal.returns-clause-rebuild_left_out
unfolding digits encode_with
returns-clause-rebuild_left_out c = record { verdict = refl; line = refl }

pub returns-clause-given_to_nobody : goal.returns-clause-given_to_nobody
unfolding digits encode_with
returns-clause-given_to_nobody c = record { verdict = refl; line = refl }

pub returns-clause-epoch_too_high : goal.returns-clause-epoch_too_high
unfolding digits encode_with
returns-clause-epoch_too_high c = record { verdict = refl; line = refl }

pub returns-clause-takes_left_out : goal.returns-clause-takes_left_out
unfolding digits encode_with
returns-clause-takes_left_out c = record { verdict = refl; line = refl }
