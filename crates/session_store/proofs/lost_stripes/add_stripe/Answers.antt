use Rattle.std.proofs.Common.{rules, ap, ◌∙◌, ◌≡◌, ◌∷◌, [], ◌++◌, map, take, sym}
use Rattle.std.proofs.lemmas.List.{append_assoc}
use Rattle.session_rules.specs.AloneHeals.{rebuild_of}
use Rattle.session_store.proofs.Together.{rebuilt_more, all_added, none_added}
use Rattle.session_store.proofs.lost_stripes.add_stripe.Goals as goal

pub loop-chunk-preserved : goal.loop-chunk-preserved
loop-chunk-preserved c =
    let name : c.in_ok-copy.field-0 ≡ c.chunk-item.result.name = search rules in
    let pushed : c.push.new.self.items ≡ c.loop-chunk.chunks.items ++ record { name = c.in_ok-copy.field-0; stripe = c.chunk-item.result.stripe; server = c.chunk-item.result.server } ∷ [] = search rules in
    pushed ∙ (λ i. c.loop-chunk.invariant i ++ record { name = name i; stripe = c.chunk-item.result.stripe; server = c.chunk-item.result.server } ∷ [])
    ∙ append_assoc c.args.chunks.now.items (map rebuild_of (take c.loop-chunk.chunk-index c.args.stripe.now)) (rebuild_of c.chunk-item.result ∷ [])
    ∙ ap (λ l. c.args.chunks.now.items ++ l) (sym (rebuilt_more c.args.stripe.now c.loop-chunk.chunk-index c.chunk-item.result c.loop-chunk-test.true c.chunk-item.is))

pub returns-then-stripe-most : goal.returns-then-stripe-most
returns-then-stripe-most c = none_added c.args.chunks.now.items c.args.stripe.now c.args.most c.if-stripe-most.true

pub returns : goal.returns
returns c = all_added c.args.chunks.now.items c.args.stripe.now c.args.most c.loop-chunk.chunks.items c.loop-chunk.chunk-index c.if-stripe-most.false c.loop-chunk-test.false c.loop-chunk.invariant
