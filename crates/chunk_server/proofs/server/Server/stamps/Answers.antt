use Rattle.std.proofs.Common.{map, ap, sym, ◌∙◌}
use Rattle.std.proofs.lemmas.Result.{IfOk-weaker}
use Rattle.chunk_server.specs.State.{Held}
use Rattle.chunk_server.proofs.Entries.{stamps-values}
use Rattle.chunk_server.proofs.server.Server.stamps.Goals as goal

pub returns : goal.returns
returns c =
    IfOk-weaker c.stamps_of.result _ _
    (λ stamps its. its ∙ sym (stamps-values c.self.inside.held.entries) ∙ ap (λ s. map (λ (held : Held). held.chunk.stamp) s.held) c.self.view_is)
    c.stamps_of.ensures
