use Rattle.std.proofs.Common.{◌≡◌, replicate, subst}
use Rattle.clay_grid.specs.Shape.{chunk_count}
use Rattle.client_put.specs.Puts.{PutOf}
use Rattle.client_put.proofs.put.PutCall.takes.Goals as goal

pub returns-clause-nothing : goal.returns-clause-nothing
returns-clause-nothing c =
    subst (λ (p : PutOf). p.call.takes ≡ replicate (chunk_count p.call.book.geometry) 0) c.self.view_is (c.keeps.ensures.nothing c.self.invariant)
