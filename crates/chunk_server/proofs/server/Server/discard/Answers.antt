use Rattle.std.proofs.Common.{◌≡◌, ap, ◌∙◌}
use Rattle.store_core.specs.Told.{Told}
use Rattle.chunk_server.specs.State.{let_go}
use Rattle.chunk_server.specs.Steps.{after_discard}
use Rattle.chunk_server.specs.Core.{core_of}
use Rattle.chunk_server.specs.Chunks.{chunks_in, state_in}
use Rattle.chunk_server.proofs.Entries.{chunks_in-remove_entry}
use Rattle.chunk_server.proofs.Validity.{valid-same, valid-discard}
use Rattle.chunk_server.proofs.CoreSteps.{core-discard}
use Rattle.chunk_server.proofs.server.Server.discard.Goals as goal

pub invariant_of-self : goal.invariant_of-self
invariant_of-self c =
    let after : chunks_in c.remove.new.self.entries ≡ let_go c.args.version.0 (chunks_in c.self.inside.held.entries) =
    ap chunks_in c.remove.ensures.entries ∙ chunks_in-remove_entry c.args.version c.self.inside.held.entries c.self.invariant.rising
    in
    valid-same (state_in c.self.inside) _ _ after (valid-discard (state_in c.self.inside) c.self.invariant c.args.version.0)

pub returns-clause-removed : goal.returns-clause-removed
returns-clause-removed c =
    let after : chunks_in c.remove.new.self.entries ≡ let_go c.args.version.0 (chunks_in c.self.inside.held.entries) =
    ap chunks_in c.remove.ensures.entries ∙ chunks_in-remove_entry c.args.version c.self.inside.held.entries c.self.invariant.rising
    in
    (λ i. record (state_in c.self.inside) { held = after i }) ∙ ap (after_discard c.args.version.0) c.self.view_is

pub returns-clause-core : goal.returns-clause-core
returns-clause-core c = ap (λ s. (core_of s, Told.Made)) (returns-clause-removed c) ∙ core-discard c.args.self.now c.args.version.0
