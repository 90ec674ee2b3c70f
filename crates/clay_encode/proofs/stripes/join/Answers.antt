use Rattle.std.proofs.Common.{◌≡◌, ◌-◌, ◌++◌, length, min, take, ap, ◌∙◌, arith}
use Rattle.code_laws.proofs.Cut.{one_more_joined}
use Rattle.clay_encode.proofs.stripes.join.Goals as goal

pub loop-stripe-preserved : goal.loop-stripe-preserved
loop-stripe-preserved c =
    let bytes = c.loop-stripe.bytes.items in
    let stripe = c.stripe-item.result in
    let n : c.min.result ≡ min (c.args.len - length bytes) (length stripe.items) = omega arith in
    c.in_ok-extend_from_slice.ensures.items
    ∙ ap (λ l. bytes ++ take c.min.result l) c.deref.ensures.value
    ∙ one_more_joined c.args.len c.loop-stripe.stripe-index c.min.result c.args.stripes.now stripe bytes c.loop-stripe-test.true c.stripe-item.is c.loop-stripe.invariant n
