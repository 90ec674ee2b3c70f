use Rattle.std.proofs.Common.{rules}
use Rattle.session_store.specs.Inside.{store_of}
use Rattle.session_store.proofs.Opening.{open_served}
use Rattle.session_store.proofs.open_snapshots.snap.Goals as goal

pub returns-then-is_some : goal.returns-then-is_some
returns-then-is_some c = open_served (store_of c.args.parts.now) c.requires.0 (search rules)
