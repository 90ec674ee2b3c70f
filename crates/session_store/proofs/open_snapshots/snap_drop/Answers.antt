use Rattle.std.proofs.Common.{rules}
use Rattle.session_store.specs.Inside.{store_of}
use Rattle.session_store.proofs.Opening.{none_dropped, none_open, later, then_dropped}
use Rattle.session_store.proofs.open_snapshots.snap_drop.Goals as goal

pub returns-then-not-is_some : goal.returns-then-not-is_some
returns-then-not-is_some c = none_dropped (store_of c.args.parts.now) c.requires.0 (none_open c.args.parts.now.snapshot (search rules))

pub drop_open-requires-clause-store : goal.drop_open-requires-clause-store
drop_open-requires-clause-store c = later (store_of c.args.parts.now) c.requires.0

pub returns : goal.returns
returns c = then_dropped (store_of c.args.parts.now) c.requires.0 (store_of c.drop_open.new.parts) c.drop_open.ensures.serves c.drop_open.ensures.same c.drop_open.ensures.kept
