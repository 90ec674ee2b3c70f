use Rattle.std.proofs.Common.{◌≡◌, ◌+◌, ◌-◌, ◌<◌, length, min, take, ◌∷◌, [], ◌++◌, drop, ap, ◌∙◌, arith}
use Rattle.clay_grid.specs.Shape.{stripe_length}
use Rattle.clay_model.specs.Code.{stripes_of, padded}
use Rattle.clay_model.specs.Chunks.{contents}
use Rattle.code_laws.proofs.Lists.{contents_push}
use Rattle.code_laws.proofs.Cut.{stripe_positive, one_more_cut, all_cut}
use Rattle.clay_encode.proofs.stripes.split.Goals as goal

pub loop-at-preserved : goal.loop-at-preserved
loop-at-preserved c =
    let g = c.args.g in
    let some : 0 < stripe_length g = stripe_positive g c.stripe_len-len.ensures.geometry in
    let new = c.in_ok-fill_up.field-0 in
    let now : contents c.push.new.self.items ≡ contents c.loop-at.stripes.items ++ new.items ∷ [] =
    ap contents c.in_ok-push.ensures.items ∙ contents_push c.loop-at.stripes.items new in
    ap (λ l. l ++ stripes_of g (drop c.min-end.result c.args.bytes.now)) now
    ∙ one_more_cut g c.args.bytes.now c.loop-at.at c.min-end.result (contents c.loop-at.stripes.items) new.items some c.loop-at-test.true
    (c.min-end.ensures ∙ ap (λ n. min (c.loop-at.at + n) (length c.args.bytes.now)) c.stripe_len-len.ensures.value)
    (c.in_ok-fill_up.ensures ∙ ap (λ n. padded n (take (c.min-end.result - c.loop-at.at) (drop c.loop-at.at c.args.bytes.now))) c.stripe_len-len.ensures.value)
    c.loop-at.invariant

pub returns : goal.returns
returns c =
    let g = c.args.g in
    let some : 0 < stripe_length g = stripe_positive g c.stripe_len-len.ensures.geometry in
    all_cut g c.args.bytes.now c.loop-at.at (contents c.loop-at.stripes.items) some (omega arith) c.loop-at.invariant
