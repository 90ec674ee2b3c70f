use Rattle.std.proofs.Common.{◌≡◌, false, ap, ◌∙◌, sym}
use Rattle.chunk_server.specs.State.{ServerState, is_held}
use Rattle.chunk_server.specs.Steps.{install_by}
use Rattle.chunk_server.specs.Core.{core_of, told_added}
use Rattle.chunk_server.specs.declared.server_answers.Installed.TheVariants.{Placed}
use Rattle.chunk_server.proofs.CoreSteps.{core-install}
use Rattle.chunk_server.proofs.server.Server.install.Goals as goal

pub returns-clause-ok : goal.returns-clause-ok
returns-clause-ok c =
    let s : ServerState = c.args.self.now in
    let present : s.away ≡ false = sym (ap (λ r. r.away) c.self.view_is) ∙ c.if-self.false in
    let named = c.version-version.ensures ∙ ap (λ stamp. stamp.version) c.stamp.ensures in
    let absent : is_held c.args.chunk.stamp.version s.held ≡ false =
    sym (ap (λ version. is_held version s.held) named) ∙ sym c.is_held.ensures ∙ c.if-is_held.false
    in
    let epoch = ap (λ r. r.epoch) (c.self-2.view_is ∙ c.in_ok-add.ensures.ok) in
    (λ i. (c.in_ok-add.ensures.ok i, Placed (epoch i)))
    ∙ (λ i. install_by (sym present i) (sym absent i) c.args.chunk s)

pub returns-clause-core : goal.returns-clause-core
returns-clause-core c =
    ap (λ r. (core_of r.0, told_added r.1)) (returns-clause-ok c)
    ∙ core-install c.args.self.now c.args.chunk
