use Rattle.std.proofs.Common.{refl}
use Rattle.hex.specs.Hex.{decode_pairs}
use Rattle.session_rules.proofs.session_rows.rows_of_frames.Goals as goal

pub returns-clause-no_requests : goal.returns-clause-no_requests
unfolding decode_pairs
returns-clause-no_requests c = refl

pub returns-clause-many_objects : goal.returns-clause-many_objects
unfolding decode_pairs
returns-clause-many_objects c = refl

pub returns-clause-endings : goal.returns-clause-endings
unfolding decode_pairs
returns-clause-endings c = refl
