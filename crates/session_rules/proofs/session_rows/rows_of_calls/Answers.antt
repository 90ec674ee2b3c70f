use Rattle.std.proofs.Common.{refl}
use Rattle.hex.specs.Hex.{decode_pairs}
use Rattle.session_rules.proofs.session_rows.rows_of_calls.Goals as goal

pub returns-clause-put_then_losses : goal.returns-clause-put_then_losses
unfolding decode_pairs
returns-clause-put_then_losses c = refl

pub returns-clause-reads_beyond_repair : goal.returns-clause-reads_beyond_repair
unfolding decode_pairs
returns-clause-reads_beyond_repair c = refl

pub returns-clause-writes_beyond_repair : goal.returns-clause-writes_beyond_repair
unfolding decode_pairs
returns-clause-writes_beyond_repair c = refl

pub returns-clause-refusals : goal.returns-clause-refusals
unfolding decode_pairs
returns-clause-refusals c = refl
