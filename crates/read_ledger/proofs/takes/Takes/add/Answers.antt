use Rattle.std.proofs.Common.{ap, ◌∙◌}
use Rattle.store_core.specs.Lists.{change_at}
use Rattle.store_core.specs.Server.{raised_by}
use Rattle.read_ledger.proofs.Adding.{changed_set}
use Rattle.read_ledger.proofs.takes.Takes.add.Goals as goal

pub returns-clause-raised : goal.returns-clause-raised
returns-clause-raised c =
    changed_set c.args.server (raised_by c.args.layers) c.self.inside.counts.items c.index.result.now c.saturating_add.result c.index.ensures c.saturating_add.ensures
    ∙ ap (change_at c.args.server (raised_by c.args.layers)) c.self.view_is

pub returns-clause-told : goal.returns-clause-told
returns-clause-told c = λ step.
    changed_set c.args.server (raised_by c.args.layers) c.self.inside.counts.items c.index.result.now c.saturating_add.result c.index.ensures c.saturating_add.ensures
    ∙ ap (change_at c.args.server (raised_by c.args.layers)) c.self.view_is
