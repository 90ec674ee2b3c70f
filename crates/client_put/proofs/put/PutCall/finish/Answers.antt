use Rattle.std.proofs.Common.{◌≡◌, replicate, ap, subst, ◌∙◌}
use Rattle.clay_grid.specs.Shape.{chunk_count}
use Rattle.run_laws.specs.State.{State}
use Rattle.call_steps.specs.CallOf.{taken_of}
use Rattle.call_steps.specs.Outcomes.{outcome_of}
use Rattle.call_steps.specs.Steps.{need_of}
use Rattle.call_steps.proofs.Counts.{none_taken}
use Rattle.client_put.specs.Puts.{PutOf}
use Rattle.client_put.proofs.Tries.{needs_so}
use Rattle.client_put.proofs.put.PutCall.finish.Goals as goal

pub finish-requires : goal.finish-requires
finish-requires c =
    needs_so c.self.inside.patch.call (c.keeps.ensures.kind c.self.invariant) ∙ ap (λ (p : PutOf). need_of p.call) c.self.view_is ∙ c.requires

pub returns-clause-outcome : goal.returns-clause-outcome
returns-clause-outcome c =
    subst (λ (p : PutOf). p.call.state.at ≡ State.Finished (outcome_of c.finish.result.1)) c.self.view_is
    (c.keeps.ensures.ended (outcome_of c.finish.result.1) c.self.invariant c.finish.ensures.outcome)

pub returns-clause-none : goal.returns-clause-none
returns-clause-none c =
    let a = c.self.inside.patch in
    c.finish.ensures.takes ∙ ap taken_of (c.keeps.ensures.nothing c.self.invariant) ∙ none_taken (chunk_count a.call.book.geometry)

pub returns-clause-nothing : goal.returns-clause-nothing
returns-clause-nothing c =
    subst (λ (p : PutOf). p.call.takes ≡ replicate (chunk_count p.call.book.geometry) 0) c.self.view_is (c.keeps.ensures.nothing c.self.invariant)
