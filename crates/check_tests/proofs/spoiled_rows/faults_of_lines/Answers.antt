use Rattle.std.proofs.Common.{refl}
use Rattle.std.specs.Fmt.{digits}
use Rattle.hex.specs.Hex.{encode_with}
use Rattle.check_tests.proofs.spoiled_rows.faults_of_lines.Goals as goal

pub returns-clause-call_too_many : goal.returns-clause-call_too_many
unfolding digits encode_with
returns-clause-call_too_many c = record { verdict = refl; line = refl }

pub returns-clause-actor_too_many : goal.returns-clause-actor_too_many
unfolding digits encode_with
returns-clause-actor_too_many c = record { verdict = refl; line = refl }

pub returns-clause-point_twice : goal.returns-clause-point_twice
unfolding digits encode_with
returns-clause-point_twice c = record { verdict = refl; line = refl }

pub returns-clause-calls_swapped : goal.returns-clause-calls_swapped
unfolding digits encode_with
returns-clause-calls_swapped c = record { verdict = refl; line = refl }

pub returns-clause-answer_left_out : goal.returns-clause-answer_left_out
unfolding digits encode_with
returns-clause-answer_left_out c = record { verdict = refl; line = refl }

pub returns-clause-answered_twice : goal.returns-clause-answered_twice
unfolding digits encode_with
returns-clause-answered_twice c = record { verdict = refl; line = refl }

pub returns-clause-open_call_left_out : goal.returns-clause-open_call_left_out
unfolding digits encode_with
returns-clause-open_call_left_out c = record { verdict = refl; line = refl }

pub returns-clause-answered_and_open : goal.returns-clause-answered_and_open
unfolding digits encode_with
returns-clause-answered_and_open c = record { verdict = refl; line = refl }

pub returns-clause-other_bytes : goal.returns-clause-other_bytes
unfolding digits encode_with
returns-clause-other_bytes c = record { verdict = refl; line = refl }

pub returns-clause-open_read : goal.returns-clause-open_read
unfolding digits encode_with
returns-clause-open_read c = record { verdict = refl; line = refl }

pub returns-clause-object_left_out : goal.returns-clause-object_left_out
unfolding digits encode_with
returns-clause-object_left_out c = record { verdict = refl; line = refl }

pub returns-clause-object_longer : goal.returns-clause-object_longer
unfolding digits encode_with
returns-clause-object_longer c = record { verdict = refl; line = refl }

pub returns-clause-object_too_many : goal.returns-clause-object_too_many
unfolding digits encode_with
returns-clause-object_too_many c = record { verdict = refl; line = refl }
