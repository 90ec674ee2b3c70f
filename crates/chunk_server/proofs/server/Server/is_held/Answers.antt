use Rattle.std.proofs.Common.{ap, ◌∙◌}
use Rattle.chunk_server.specs.State.{is_held}
use Rattle.chunk_server.proofs.Entries.{is_held-lookup}
use Rattle.chunk_server.proofs.server.Server.is_held.Goals as goal

pub returns : goal.returns
returns c =
    c.contains_key.ensures ∙ is_held-lookup c.args.version c.self.inside.held.entries
    ∙ ap (λ s. is_held c.args.version.0 s.held) c.self.view_is
