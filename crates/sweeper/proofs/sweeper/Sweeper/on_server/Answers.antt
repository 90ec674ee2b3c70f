use Rattle.std.proofs.Common.{◌≡◌, ◌+◌, ◌<◌, Option, sym, ap, subst, ◌∙◌, arith}
use Rattle.store_map.specs.declared.actor.Version.{Version}
use Rattle.store_core.specs.Told.{Told}
use Rattle.chunk_server.specs.Core.{core_of}
use Rattle.sweeper.specs.Sweeps.{SweeperOf, need_of, stepped_at_server, told_at_server, discarded_at}
use Rattle.sweeper.proofs.Standing.{stands, sweeping, is_next, discard_stepped, discard_told}
use Rattle.sweeper.proofs.sweeper.Sweeper.on_server.Goals as goal

pub overflow_add-self : goal.overflow_add-self
overflow_add-self c =
    let a = c.self.inside in
    let is : c.args.self.now ≡ sweeping a.servers c.in-Some.version.0 a.server = sym c.self.view_is ∙ ap (λ (version : Option Version). stands a.servers version a.server) c.in-Some.is in
    let next : a.server < a.servers = is_next a.servers c.in-Some.version.0 a.server c.args.s.now.number (ap need_of (sym is) ∙ c.requires) in
    omega (arith, next)

pub returns-clause-step : goal.returns-clause-step
returns-clause-step c =
    let a = c.self.inside in
    let is : sweeping a.servers c.in-Some.version.0 a.server ≡ c.args.self.now = sym (sym c.self.view_is ∙ ap (λ (version : Option Version). stands a.servers version a.server) c.in-Some.is) in
    subst (λ (w : SweeperOf). (core_of c.discard.new.self, stands a.servers a.version (a.server + 1)) ≡ stepped_at_server w (core_of c.args.s.now)) is
    (ap (λ (version : Option Version). (core_of c.discard.new.self, stands a.servers version (a.server + 1))) c.in-Some.is
    ∙ discard_stepped a.servers c.in-Some.version.0 a.server c.args.s.now.number (core_of c.args.s.now) (core_of c.discard.new.self) (ap need_of is ∙ c.requires) c.discard.ensures.core)

pub returns-clause-server : goal.returns-clause-server
returns-clause-server c =
    let a = c.self.inside in
    let is : sweeping a.servers c.in-Some.version.0 a.server ≡ c.args.self.now = sym (sym c.self.view_is ∙ ap (λ (version : Option Version). stands a.servers version a.server) c.in-Some.is) in
    subst (λ (w : SweeperOf). c.discard.new.self ≡ discarded_at w.at c.args.s.now) is c.discard.ensures.removed

pub returns-clause-told : goal.returns-clause-told
returns-clause-told c =
    let a = c.self.inside in
    let is : sweeping a.servers c.in-Some.version.0 a.server ≡ c.args.self.now = sym (sym c.self.view_is ∙ ap (λ (version : Option Version). stands a.servers version a.server) c.in-Some.is) in
    subst (λ (w : SweeperOf). Told.Made ≡ told_at_server w (core_of c.args.s.now)) is
    (discard_told a.servers c.in-Some.version.0 a.server c.args.s.now.number (core_of c.args.s.now) (core_of c.discard.new.self) (ap need_of is ∙ c.requires) c.discard.ensures.core)
