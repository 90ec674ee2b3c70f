use Rattle.std.proofs.Common.{true, ap, ◌∙◌}
use Rattle.chunk_server.specs.Steps.{after_down}
use Rattle.chunk_server.specs.Chunks.{state_in}
use Rattle.chunk_server.proofs.server.Server.down.Goals as goal

pub returns-clause-away : goal.returns-clause-away
returns-clause-away c =
    (λ i. record (state_in c.self.inside) { downs = c.saturating_add-self-inside.ensures i; away = true })
    ∙ ap after_down c.self.view_is
