use Rattle.std.proofs.Common.{refl}
use Rattle.hex.specs.Hex.{decode_pairs}
use Rattle.session_rules.proofs.session_rows.rows_of_rebuilds.Goals as goal

pub returns-clause-rebuilds : goal.returns-clause-rebuilds
unfolding decode_pairs
returns-clause-rebuilds c = refl

pub returns-clause-two_lost_chunks : goal.returns-clause-two_lost_chunks
unfolding decode_pairs
returns-clause-two_lost_chunks c = refl

pub returns-clause-heal_in_part : goal.returns-clause-heal_in_part
unfolding decode_pairs
returns-clause-heal_in_part c = refl
