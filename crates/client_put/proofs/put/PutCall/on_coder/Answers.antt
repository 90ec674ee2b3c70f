use denote.Param.Send.{sendable}
use Rattle.std.proofs.Common.{ap, ◌∙◌}
use Rattle.call_steps.specs.Steps.{need_of, coded}
use Rattle.client_put.specs.Puts.{PutOf}
use Rattle.client_put.specs.Inside.{by_script}
use Rattle.client_put.proofs.Tries.{needs_so, coded_so}
use Rattle.client_put.proofs.put.PutCall.on_coder.Goals as goal

pub on_coder-requires : goal.on_coder-requires
on_coder-requires g c = (
  search sendable,
  needs_so c.self.inside.patch.call (c.keeps.ensures.kind c.self.invariant) ∙ ap (λ (p : PutOf). need_of p.call) c.self.view_is ∙ c.requires,
)

pub returns-clause-coded : goal.returns-clause-coded
returns-clause-coded g c =
    let short = c.on_coder.new.self.call.coding in
    ap by_script c.on_coder.ensures.coded
    ∙ coded_so c.self.inside.patch.call short
    ∙ ap (λ (p : PutOf). coded short p.call) c.self.view_is
