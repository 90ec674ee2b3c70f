use Rattle.std.proofs.lemmas.Iterator.Consumers.{YieldsList-from_rest, nth_from_yields_List}
use Rattle.std.specs.BTreeMap.{values}
use Rattle.chunk_server.proofs.server.held_at.Goals as goal

pub returns : goal.returns
returns c =
    nth_from_yields_List c.nth.result c.nth.new.self c.args.index c.nth.ensures.ran
    (YieldsList-from_rest (values c.args.held.now) c.values.ensures.rest)
