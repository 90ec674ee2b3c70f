use Rattle.std.proofs.Common.{◌≡◌, false, is_some, ap, ◌∙◌, sym, subst}
use Rattle.store_core.specs.Told.{Told}
use Rattle.chunk_server.specs.State.{is_held, settled_at}
use Rattle.chunk_server.specs.Valid.{IsValid}
use Rattle.chunk_server.specs.Steps.{after_settle}
use Rattle.chunk_server.specs.Core.{core_of}
use Rattle.chunk_server.specs.Chunks.{chunks_in, state_in}
use Rattle.chunk_server.specs.declared.server.HeldChunk.{HeldChunk}
use Rattle.chunk_server.specs.declared.server.Mark.TheVariants.{Settled}
use Rattle.chunk_server.proofs.Versions.{settled_at-absent}
use Rattle.chunk_server.proofs.Entries.{is_held-lookup, chunks_in-set_value}
use Rattle.chunk_server.proofs.Validity.{valid-settle}
use Rattle.chunk_server.proofs.CoreSteps.{core-settle}
use Rattle.chunk_server.proofs.server.Server.settle.Goals as goal
use Rattle.chunk_server.proofs.server.Server.settle.Goals.{in-Some, in_default}

-- the fields after the mark was written, if there was a chunk
marked : (c : goal.Joined-get_mut) → state_in c.match-get_mut.self-inside ≡ after_settle c.args.version.0 (state_in c.self.inside)
marked c =
    elim c.match-get_mut.branch [
      | in-Some w ↦
          let old : HeldChunk = w.in-Some.held.now in
          let new : HeldChunk = record old { mark = Settled } in
          let after : chunks_in (c.get_mut.follows.lender new).entries ≡ settled_at c.args.version.0 (chunks_in c.self.inside.held.entries) =
          ap chunks_in (c.get_mut.follows.holds new).0
          ∙ chunks_in-set_value c.args.version old c.self.inside.held.entries c.self.invariant.rising (sym w.in-Some.ensures.value)
          in
          ap state_in w.self-inside-is ∙ (λ i. record (state_in c.self.inside) { held = after i })
      | in_default w ↦
          let absent : is_held c.args.version.0 (chunks_in c.self.inside.held.entries) ≡ false =
          sym (is_held-lookup c.args.version c.self.inside.held.entries) ∙ ap is_some (sym w.in_default.ensures.value)
          in
          let after : chunks_in c.get_mut.follows.lender-at-none.entries ≡ settled_at c.args.version.0 (chunks_in c.self.inside.held.entries) =
          ap (λ m. chunks_in m.entries) c.get_mut.follows.holds-at-none
          ∙ sym (settled_at-absent c.args.version.0 (chunks_in c.self.inside.held.entries) absent)
          in
          ap state_in w.self-inside-is ∙ (λ i. record (state_in c.self.inside) { held = after i })
    ]

pub invariant_of-self : goal.invariant_of-self
invariant_of-self c = subst IsValid (sym (marked c)) (valid-settle (state_in c.self.inside) c.self.invariant c.args.version.0)

pub returns-clause-marked : goal.returns-clause-marked
returns-clause-marked c = marked c ∙ ap (after_settle c.args.version.0) c.self.view_is

pub returns-clause-core : goal.returns-clause-core
returns-clause-core c = ap (λ s. (core_of s, Told.Settled)) (returns-clause-marked c) ∙ core-settle c.args.self.now c.args.version.0
