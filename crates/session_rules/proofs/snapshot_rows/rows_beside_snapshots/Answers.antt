use Rattle.std.proofs.Common.{refl}
use Rattle.hex.specs.Hex.{decode_pairs}
use Rattle.session_rules.proofs.snapshot_rows.rows_beside_snapshots.Goals as goal

pub returns-clause-put_beside_a_snapshot : goal.returns-clause-put_beside_a_snapshot
unfolding decode_pairs
returns-clause-put_beside_a_snapshot c = refl

pub returns-clause-write_beside_a_snapshot : goal.returns-clause-write_beside_a_snapshot
unfolding decode_pairs
returns-clause-write_beside_a_snapshot c = refl
