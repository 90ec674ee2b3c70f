use Rattle.std.proofs.Common.{refl}
use Rattle.std.specs.Fmt.{digits}
use Rattle.hex.specs.Hex.{encode_with}
use Rattle.check_tests.proofs.spoiled_rows.faults_of_causes.Goals as goal

pub returns-clause-too_few_servers : goal.returns-clause-too_few_servers
unfolding digits encode_with
returns-clause-too_few_servers c = record { verdict = refl; line = refl }

pub returns-clause-never_emptied : goal.returns-clause-never_emptied
unfolding digits encode_with
returns-clause-never_emptied c = record { verdict = refl; line = refl }

pub returns-clause-server_twice : goal.returns-clause-server_twice
unfolding digits encode_with
returns-clause-server_twice c = record { verdict = refl; line = refl }

pub returns-clause-server_too_many : goal.returns-clause-server_too_many
unfolding digits encode_with
returns-clause-server_too_many c = record { verdict = refl; line = refl }

pub returns-clause-placed_later : goal.returns-clause-placed_later
unfolding digits encode_with
returns-clause-placed_later c = record { verdict = refl; line = refl }

pub returns-clause-refused_put_of_form_one : goal.returns-clause-refused_put_of_form_one
unfolding digits encode_with
returns-clause-refused_put_of_form_one c = record { verdict = refl; line = refl }

pub returns-clause-too_few_races : goal.returns-clause-too_few_races
unfolding digits encode_with
returns-clause-too_few_races c = record { verdict = refl; line = refl }

pub returns-clause-lost_to_a_read : goal.returns-clause-lost_to_a_read
unfolding digits encode_with
returns-clause-lost_to_a_read c = record { verdict = refl; line = refl }

pub returns-clause-lost_to_its_base : goal.returns-clause-lost_to_its_base
unfolding digits encode_with
returns-clause-lost_to_its_base c = record { verdict = refl; line = refl }

pub returns-clause-races_overlap : goal.returns-clause-races_overlap
unfolding digits encode_with
returns-clause-races_overlap c = record { verdict = refl; line = refl }

pub returns-clause-given_up_by_nobody : goal.returns-clause-given_up_by_nobody
unfolding digits encode_with
returns-clause-given_up_by_nobody c = record { verdict = refl; line = refl }

pub returns-clause-given_up_twice : goal.returns-clause-given_up_twice
unfolding digits encode_with
returns-clause-given_up_twice c = record { verdict = refl; line = refl }

pub returns-clause-superseded_by_nothing : goal.returns-clause-superseded_by_nothing
unfolding digits encode_with
returns-clause-superseded_by_nothing c = record { verdict = refl; line = refl }

pub returns-clause-other_stripe : goal.returns-clause-other_stripe
unfolding digits encode_with
returns-clause-other_stripe c = record { verdict = refl; line = refl }

pub returns-clause-target_never_away : goal.returns-clause-target_never_away
unfolding digits encode_with
returns-clause-target_never_away c = record { verdict = refl; line = refl }

pub returns-clause-never_away : goal.returns-clause-never_away
unfolding digits encode_with
returns-clause-never_away c = record { verdict = refl; line = refl }
