use Rattle.std.proofs.Common.{ap, subst, ◌∙◌}
use Rattle.call_steps.specs.Steps.{need_of, HoldsItsPass, IsDueInPass, MayMakeNext}
use Rattle.client_put.specs.Puts.{PutOf}
use Rattle.client_put.proofs.Tries.{needs_so, in_pass_so, holds_so, may_so}
use Rattle.client_put.proofs.put.PutCall.need.Goals as goal

pub returns-clause-need : goal.returns-clause-need
returns-clause-need c = c.need.ensures.need ∙ needs_so c.self.inside.patch.call (c.keeps.ensures.kind c.self.invariant) ∙ ap (λ (p : PutOf). need_of p.call) c.self.view_is

pub returns-clause-in_pass : goal.returns-clause-in_pass
returns-clause-in_pass c = subst (λ (p : PutOf). IsDueInPass p.call) c.self.view_is (in_pass_so c.self.inside.patch.call (c.keeps.ensures.kind c.self.invariant) c.need.ensures.in_pass)

pub returns-clause-pass : goal.returns-clause-pass
returns-clause-pass c = subst (λ (p : PutOf). HoldsItsPass p.call) c.self.view_is (holds_so c.self.inside.patch.call (c.keeps.ensures.kind c.self.invariant) c.need.ensures.pass)

pub returns-clause-may : goal.returns-clause-may
returns-clause-may c = subst (λ (p : PutOf). MayMakeNext p.call) c.self.view_is (may_so c.self.inside.patch.call (c.keeps.ensures.kind c.self.invariant) c.need.ensures.may)
