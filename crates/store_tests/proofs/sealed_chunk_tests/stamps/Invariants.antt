use Rattle.std.proofs.Common.{◌≡◌, All}
use Rattle.store_tests.specs.Small.{IsStripeOf}
use Rattle.store_tests.proofs.sealed_chunk_tests.stamps.Given as goal

abbrev pub invariant-loop-sealed : goal.invariant-loop-sealed
invariant-loop-sealed l = record {
  stamps : All (IsStripeOf l.fn.book) l.stamps.items;
  sealer : l.sealer.home ≡ l.fn.book.home;
}
