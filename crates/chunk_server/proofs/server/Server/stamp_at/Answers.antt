use Rattle.std.proofs.Common.{is_some, slice_get, Some, option_map, ap, ◌∙◌, sym}
use Rattle.chunk_server.specs.State.{Held}
use Rattle.chunk_server.specs.declared.server.HeldChunk.{HeldChunk}
use Rattle.chunk_server.proofs.Entries.{stamp_at-values, no_stamp}
use Rattle.chunk_server.proofs.server.Server.stamp_at.Goals as goal

pub returns-in-Some-clause-found : goal.returns-in-Some-clause-found
returns-in-Some-clause-found c =
    ap Some c.stamp.ensures
    ∙ ap (option_map (λ (held : HeldChunk). held.chunk.stamp)) c.in-Some.ensures
    ∙ sym (stamp_at-values c.self.inside.held.entries c.args.index)
    ∙ ap (λ s. option_map (λ (held : Held). held.chunk.stamp) (slice_get s.held c.args.index)) c.self.view_is

pub returns-in-Some-clause-none : goal.returns-in-Some-clause-none
returns-in-Some-clause-none c =
    let none = no_stamp c.args.self.now.held c.args.index in
    let found = ap is_some (returns-in-Some-clause-found c) in
    (λ e. none.0 (sym found ∙ e), λ past. found ∙ none.1 past)

pub returns-in-None-clause-found : goal.returns-in-None-clause-found
returns-in-None-clause-found c =
    ap (option_map (λ (held : HeldChunk). held.chunk.stamp)) c.in-None.ensures
    ∙ sym (stamp_at-values c.self.inside.held.entries c.args.index)
    ∙ ap (λ s. option_map (λ (held : Held). held.chunk.stamp) (slice_get s.held c.args.index)) c.self.view_is

pub returns-in-None-clause-none : goal.returns-in-None-clause-none
returns-in-None-clause-none c =
    let none = no_stamp c.args.self.now.held c.args.index in
    let found = ap is_some (returns-in-None-clause-found c) in
    (λ e. none.0 (sym found ∙ e), λ past. found ∙ none.1 past)
