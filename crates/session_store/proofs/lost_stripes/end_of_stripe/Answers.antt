use Rattle.std.proofs.Common.{◌≡◌, ◌≤◌, false, length, sym, ◌∙◌}
use Rattle.session_store.specs.LostStripes.{is_beside}
use Rattle.session_store.proofs.Together.{ends_before, ends_last}
use Rattle.session_store.proofs.lost_stripes.end_of_stripe.Goals as goal

pub returns-then-not-are_beside-clause-stripe : goal.returns-then-not-are_beside-clause-stripe
returns-then-not-are_beside-clause-stripe c other there =
    let apart : is_beside c.index-lost-start.result c.index-lost-end.result ≡ false = sym c.are_beside.ensures ∙ c.if-not-are_beside.true in
    ends_before c.args.lost.now c.args.start c.index-lost-start.result c.requires c.index-lost-start.is c.loop-end.end c.loop-end.invariant.from c.loop-end.invariant.so_far other there c.index-lost-end.result c.loop-end-test.true
    c.index-lost-end.is apart

pub returns-clause-stripe : goal.returns-clause-stripe
returns-clause-stripe c other there =
    let over : length c.args.lost.now ≤ c.loop-end.end = c.loop-end-test.false in
    ends_last c.args.lost.now c.args.start c.index-lost-start.result c.requires c.index-lost-start.is c.loop-end.end c.loop-end.invariant.from c.loop-end.invariant.so_far other there over
