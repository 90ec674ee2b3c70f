use Rattle.std.proofs.Common.{refl}
use Rattle.hex.specs.Hex.{decode_pairs}
use Rattle.session_rules.proofs.session_rows.rows_of_snapshots.Goals as goal

pub returns-clause-read_of_a_replaced_object : goal.returns-clause-read_of_a_replaced_object
unfolding decode_pairs
returns-clause-read_of_a_replaced_object c = refl

pub returns-clause-lost_snapshot : goal.returns-clause-lost_snapshot
unfolding decode_pairs
returns-clause-lost_snapshot c = refl

pub returns-clause-scrub_beside_a_snapshot : goal.returns-clause-scrub_beside_a_snapshot
unfolding decode_pairs
returns-clause-scrub_beside_a_snapshot c = refl
