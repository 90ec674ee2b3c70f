use Rattle.std.proofs.Common.{◌≡◌, ◌∙◌, ap, refl, sym, subst, take, drop}
use Rattle.session_store.proofs.Together.{AreOthers, at_place, next_others, next_chosen}
use Rattle.session_store.proofs.lost_stripes.to_heal.Goals as goal

pub loop-start-preserved : goal.loop-start-preserved
loop-start-preserved c =
    let first = at_place c.args.lost.now c.loop-start.start c.loop-start-test.true in
    let ends = c.end_of_stripe-end.ensures.stripe first.0 first.1 in
    record {
      within = c.end_of_stripe-end.ensures.within;
      others =
          subst (λ n. AreOthers (take n c.args.lost.now) (drop n c.args.lost.now)) (sym ends)
          (next_others c.args.lost.now c.args.parts.now.places.book.geometry.parity_count c.loop-start.start first.0 c.requires first.1 c.loop-start.invariant.others);
      chosen =
          next_chosen c.args.lost.now c.args.parts.now.places.book.geometry.parity_count c.loop-start.start first.0 c.requires first.1 c.loop-start.invariant.others c.m-most.result c.end_of_stripe-end.result c.loop-start.chunks.items
          c.add_stripe.new.chunks.items (c.m-most.ensures.value ∙ ap (λ g. g.parity_count) (c.geometry.ensures ∙ ap (λ b. b.geometry) c.opening.ensures)) ends c.loop-start.invariant.chosen c.in_ok-add_stripe.ensures;
    }
