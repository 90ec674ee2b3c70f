use Rattle.std.proofs.Common.{arith}
use Rattle.world_lines.proofs.Keeping.{list_kept}
use Rattle.world_lines.proofs.served.take_from.Goals as goal

pub returns-clause-others : goal.returns-clause-others
returns-clause-others c =
    list_kept c.args.ended.now.items c.args.number c.index_mut.result.now (record { outcome = c.take_bytes.new.outcome; takes = c.index_mut.result.now.takes })
    (omega arith) c.index_mut.ensures.value c.take_bytes.ensures.same
