use Rattle.std.proofs.Common.{ap, ◌∙◌}
use Rattle.call_steps.specs.Acts.{act_now}
use Rattle.client_put.specs.Puts.{PutOf}
use Rattle.client_put.proofs.Tries.{acts_so}
use Rattle.client_put.proofs.put.PutCall.act.Goals as goal

pub returns : goal.returns
returns c = c.act.ensures ∙ acts_so c.self.inside.patch.call (c.keeps.ensures.kind c.self.invariant) ∙ ap (λ (p : PutOf). act_now p.call) c.self.view_is
