use Rattle.std.proofs.Common.{◌+◌, refl}
use Rattle.share_mends.proofs.SpanLemmas.{span_joined}
use Rattle.share_mends.proofs.spans.last_after.Goals as goal

pub returns-then-last-next-clause-places : goal.returns-then-last-next-clause-places
returns-then-last-next-clause-places c = λ place.
    span_joined place c.args.spans.now.items c.args.last c.args.next (record { start = c.args.last.start; size = c.args.last.size + c.args.next.size }) refl refl
    c.if-last-next.true
