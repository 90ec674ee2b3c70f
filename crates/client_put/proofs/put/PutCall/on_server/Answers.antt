use Rattle.std.proofs.Common.{ap, ◌∙◌}
use Rattle.store_core.specs.Server.{Server}
use Rattle.chunk_server.specs.Core.{core_of}
use Rattle.call_steps.specs.CallOf.{CallOf}
use Rattle.call_steps.specs.Steps.{need_of, stepped_at_server}
use Rattle.call_steps.specs.Hearing.{told_here}
use Rattle.client_put.specs.Puts.{PutOf}
use Rattle.client_put.specs.Inside.{by_script}
use Rattle.client_put.proofs.Tries.{needs_so, server_so, here_so}
use Rattle.client_put.proofs.put.PutCall.on_server.Goals as goal

pub on_server-requires-clause-need : goal.on_server-requires-clause-need
on_server-requires-clause-need c =
    needs_so c.self.inside.patch.call (c.keeps.ensures.kind c.self.invariant) ∙ ap (λ (p : PutOf). need_of p.call) c.self.view_is ∙ c.requires.need

pub returns-clause-step : goal.returns-clause-step
returns-clause-step c =
    let now = c.on_server.new.self.call in
    ap (λ (x : Server × CallOf). (x.0, by_script x.1)) c.on_server.ensures.step
    ∙ server_so c.self.inside.patch.call (c.keeps.ensures.kind c.self.invariant) now.step now.due (core_of c.args.s.now)
    ∙ ap (λ (p : PutOf). stepped_at_server now.step now.due p.call (core_of c.args.s.now)) c.self.view_is

pub returns-clause-told : goal.returns-clause-told
returns-clause-told c =
    let now = c.on_server.new.self.call in
    let s = core_of c.args.s.now in
    c.on_server.ensures.told
    ∙ here_so c.self.inside.patch.call (c.keeps.ensures.kind c.self.invariant) now.step s
    ∙ ap (λ (p : PutOf). told_here now.step p.call s) c.self.view_is
