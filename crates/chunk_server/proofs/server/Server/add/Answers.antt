use Rattle.std.proofs.Common.{◌≡◌, None, ap, ◌∙◌, sym, subst}
use Rattle.std.specs.Map.{lookup}
use Rattle.std.specs.BTreeMap.{is_at}
use Rattle.chunk_server.specs.State.{is_held, hold}
use Rattle.chunk_server.specs.Valid.{MayCome}
use Rattle.chunk_server.specs.Steps.{after_adding}
use Rattle.chunk_server.specs.Chunks.{chunk_in, chunks_in, state_in}
use Rattle.chunk_server.proofs.Entries.{by_number, is_held-lookup, chunks_in-insert_entry, none_from_is_some}
use Rattle.chunk_server.proofs.Validity.{valid-same, valid-adding}
use Rattle.chunk_server.proofs.server.Server.add.Goals as goal

-- the chunks with the new entry
added : (c : goal.Joined-branch-2) → chunks_in c.insert.new.self.entries ≡ hold (chunk_in (c.args.version, record { mark = c.args.mark; chunk = c.args.chunk })) (chunks_in c.self.inside.held.entries)
added c =
    let none : lookup (is_at (by_number c.args.version)) c.self.inside.held.entries ≡ None =
    none_from_is_some (is_held-lookup c.args.version c.self.inside.held.entries ∙ ap (λ s. is_held c.args.version.0 s.held) c.self.view_is ∙ c.requires.new)
    in
    ap chunks_in c.in_ok-insert.ensures.entries
    ∙ chunks_in-insert_entry c.args.version (record { mark = c.args.mark; chunk = c.args.chunk }) c.self.inside.held.entries none

-- its version is that of its stamp
named : (c : goal.Joined-branch-2) → hold (chunk_in (c.args.version, record { mark = c.args.mark; chunk = c.args.chunk })) (chunks_in c.self.inside.held.entries)
    ≡ hold (record { version = c.args.chunk.stamp.version; mark = c.args.mark; chunk = c.args.chunk }) (chunks_in c.self.inside.held.entries)
named c = ap (λ version. hold (record { version = version; mark = c.args.mark; chunk = c.args.chunk }) (chunks_in c.self.inside.held.entries)) c.requires.named

pub invariant_of-self-2 : goal.invariant_of-self-2
invariant_of-self-2 c =
    valid-same (state_in c.self.inside) _ _ (added c ∙ named c)
    (valid-adding (state_in c.self.inside) c.self.invariant c.args.mark c.args.chunk (subst (λ s. MayCome s c.args.chunk) (sym c.self.view_is) c.requires.here) c.bytes.ensures.sealed)

pub returns-clause-ok : goal.returns-clause-ok
returns-clause-ok c =
    (λ i. record (state_in c.self.inside) { held = (added c ∙ named c) i })
    ∙ ap (after_adding c.args.mark c.args.chunk) c.self.view_is
