use Rattle.std.proofs.Common.{rules}
use Rattle.std.proofs.lemmas.Iterator.{YieldsList-from_map, items_from_collect}
use Rattle.std.proofs.lemmas.Iterator.Consumers.{YieldsList-from_rest}
use Rattle.std.specs.BTreeMap.{values}
use Rattle.chunk_server.specs.declared.server.HeldChunk.{HeldChunk}
use Rattle.chunk_server.proofs.server.stamps_of.Goals as goal

pub returns : goal.returns
returns c =
    items_from_collect _ c.collect.ensures.ran
    (YieldsList-from_map _ (λ (chunk : HeldChunk). chunk.chunk.stamp) (YieldsList-from_rest (values c.args.held.now) (cc)) c.map.ensures.closure
    (λ x r q k. search rules))
