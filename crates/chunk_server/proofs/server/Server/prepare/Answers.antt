use Rattle.std.proofs.Common.{◌≡◌, true, false, ap, ◌∙◌, sym, subst}
use Rattle.std.proofs.lemmas.Bool.{cond-false}
use Rattle.store_map.specs.declared.placement.Placement.{Placement}
use Rattle.store_map.specs.declared.placement.Placement.TheVariants as placement
use Rattle.store_core.specs.Told.{Told}
use Rattle.chunk_server.specs.State.{Held, ServerState, is_held, hold}
use Rattle.chunk_server.specs.Valid.{IsValid}
use Rattle.chunk_server.specs.Steps.{after_adding}
use Rattle.chunk_server.specs.Core.{core_of}
use Rattle.chunk_server.specs.declared.server.Mark.TheVariants.{Prepared}
use Rattle.chunk_server.proofs.Versions.{hold-held}
use Rattle.chunk_server.proofs.CoreSteps.{core-prepare}
use Rattle.chunk_server.proofs.server.Server.prepare.Goals as goal

pub returns-then-is_held-clause-ok : goal.returns-then-is_held-clause-ok
returns-then-is_held-clause-ok c =
    let s : ServerState = c.args.self.now in
    let chunk : Held = record { version = c.args.chunk.stamp.version; mark = Prepared; chunk = c.args.chunk } in
    let present : s.away ≡ false = sym (ap (λ r. r.away) c.self.view_is) ∙ c.if-self.false in
    let named = c.version-version.ensures ∙ ap (λ stamp. stamp.version) c.stamp.ensures in
    let valid : IsValid s = subst IsValid c.self.view_is c.self.invariant in
    let held : is_held c.args.chunk.stamp.version s.held ≡ true = sym (c.is_held.ensures ∙ ap (λ version. is_held version s.held) named) ∙ c.if-is_held.true in
    let kept : hold chunk s.held ≡ s.held = hold-held chunk s.held valid.rising held in
    let epoch : c.self.inside.epoch ≡ s.epoch = ap (λ r. r.epoch) c.self.view_is in
    (λ i. (record s { held = sym kept i }, placement.At (epoch i)))
    ∙ sym (cond-false {A = ServerState × Placement} s.away (s, placement.Skipped s.downs) (after_adding Prepared c.args.chunk s, placement.At s.epoch) present)

pub returns-then-is_held-clause-core : goal.returns-then-is_held-clause-core
returns-then-is_held-clause-core c =
    ap (λ r. (core_of r.0, Told.Prepared r.1)) (returns-then-is_held-clause-ok c)
    ∙ core-prepare c.args.self.now c.args.chunk

pub returns-clause-ok : goal.returns-clause-ok
returns-clause-ok c =
    let s : ServerState = c.args.self.now in
    let present : s.away ≡ false = sym (ap (λ r. r.away) c.self.view_is) ∙ c.if-self.false in
    let epoch = ap (λ r. r.epoch) (c.self-2.view_is ∙ c.in_ok-add.ensures.ok) in
    (λ i. (c.in_ok-add.ensures.ok i, placement.At (epoch i)))
    ∙ sym (cond-false {A = ServerState × Placement} s.away (s, placement.Skipped s.downs) (after_adding Prepared c.args.chunk s, placement.At s.epoch) present)

pub returns-clause-core : goal.returns-clause-core
returns-clause-core c =
    ap (λ r. (core_of r.0, Told.Prepared r.1)) (returns-clause-ok c)
    ∙ core-prepare c.args.self.now c.args.chunk
