use Rattle.std.proofs.Common.{◌≡◌, IfOk, Result, Ok, Err, ◌∙◌}
use Rattle.version_seal.proofs.book.Book.seal.Goals as goal

-- an answer that is one value is also another that is equal to it
also : {T E : Type 0} (r : Result T E) (x y : T) → x ≡ y → IfOk r (λ s. s ≡ x) → IfOk r (λ s. s ≡ y)
also (Ok s) x y same is = is ∙ same
also (Err e) x y same is = is

pub returns-clause-ok : goal.returns-clause-ok
returns-clause-ok c =
    also c.enter.result _ _
    (λ i. record {
      home = c.args.self.now.home;
      version = c.next-version.ensures i;
      actor = c.args.actor;
      number = c.args.number;
      stripe = c.args.stripe;
      base = c.version_of.ensures i;
      content = c.of-content.ensures i;
    }) c.enter.ensures.ok
