use Rattle.std.proofs.Common.{get_or, arith}
use Rattle.std.proofs.lemmas.List.{get_or_default}
use Rattle.world_lines.proofs.Keeping.{clients_kept}
use Rattle.world_lines.proofs.served.take_served.Goals as goal

pub returns-clause-others : goal.returns-clause-others
returns-clause-others c =
    clients_kept c.args.clients.now c.args.client c.args.number (get_or c.args.clients.now c.args.client c.index-clients-at.result)
    (record {
      ended = c.take_from.new.ended;
      steps = (get_or c.args.clients.now c.args.client c.index-clients-at.result).steps;
      takes = (get_or c.args.clients.now c.args.client c.index-clients-at.result).takes;
    })
    (omega arith)
    (get_or_default c.args.clients.now c.args.client c.index-clients-at.result (get_or c.args.clients.now c.args.client c.index-clients-at.result) (omega arith))
    c.take_from.ensures.others
